-- A session at which no transfer is out.
use Rattle.std.specs.Prelude.{◌≡◌, true, false}
use Rattle.lvm_session.specs.State.{Core}
use Rattle.lvm_session.specs.Enabled.{is_lost}
use Rattle.lvm_session.specs.declared.answers.Turned.{Turned}
use Rattle.lvm_session.specs.declared.answers.Turned.TheVariants as turned
use Rattle.lvm_session.specs.Dark.{all_off}

-- It is over where its votes are lost, and else nothing happens.
abbrev pub Rests : Core → Core → Turned → Type 0
Rests old new turned.Moved = ⊥
Rests old new turned.Idle = (is_lost old ≡ false) × (new ≡ old)
Rests old new turned.Dark = ⊥
Rests old new turned.Off = (is_lost old ≡ true) × (new ≡ all_off old)
