-- Which copies a turn makes stale or fresh, and why.
use Rattle.std.specs.Prelude.{◌≡◌, ◌⊎◌, ℕ, ◌&&◌, ◌||◌, Bool, true, false}
use Rattle.std.specs.List.{list_any}
use Rattle.std.specs.Option.{option_map_or}
use Rattle.lvm_num.specs.declared.place.Pp.{Pp}
use Rattle.lvm_num.specs.Descriptor.{is_pp}
use Rattle.lvm_disk.specs.Counts.{Rose}
use Rattle.lvm_session.specs.declared.answers.Turned.{Turned}
use Rattle.lvm_session.specs.declared.bringing.OpenCopy.{OpenCopy}
use Rattle.lvm_session.specs.State.{Core, State}
use Rattle.lvm_session.specs.Judging.{is_missing, is_destination, is_settled, is_wanted_stale}
use Rattle.lvm_session.specs.Causes.{fails_on, is_held_stale}
use Rattle.lvm_session.specs.Sound.{IsSound}
use Rattle.lvm_session.specs.Turns.{TurnMakes}

-- stale by what is committed, in flight or wanted
abbrev pub is_marked : Core → Pp → Bool
is_marked core p = is_held_stale core p || is_wanted_stale core p

-- stale by all three
abbrev pub is_lasting : Core → Pp → Bool
is_lasting core p = is_settled core p && is_wanted_stale core p

-- a write that hasn't landed has failed on it
abbrev pub has_failed_on : Core → Pp → Bool
has_failed_on core p = list_any (fails_on p) core.requests

-- the copy that is open is this one
abbrev pub is_open_at : Core → Pp → Bool
is_open_at core p = option_map_or (λ (c : OpenCopy). is_pp p c.pp) core.copy false

-- A copy (the destination of a move is none) comes to be marked only where its disk is missing or a write has failed on it, and a write to have failed on it only by a fault of its disk. What
-- is stale by all three stays so, but for the copy that is open. A missing disk stays missing.
pub record MarksFor (old new : State) : Type 0 where
  pub marked : (p : Pp) → is_destination old.core p ≡ false → is_marked new.core p ≡ true → (is_marked old.core p ≡ true) ⊎ (is_missing new.core p.disk ≡ true) ⊎ (has_failed_on new.core p ≡ true)
  pub failed : (p : Pp) → has_failed_on new.core p ≡ true → (has_failed_on old.core p ≡ true) ⊎ Rose (old.device.counts.faults p.disk) (new.device.counts.faults p.disk)
  pub lasting : (p : Pp) → is_lasting old.core p ≡ true → is_open_at old.core p ≡ false → is_lasting new.core p ≡ true
  pub missing : (disk : ℕ) → is_missing old.core disk ≡ true → is_missing new.core disk ≡ true

-- So each turn of a sound session does.
abbrev pub TurnsMark : Type 0
TurnsMark = (old new : State) (answer : Turned) → IsSound old → TurnMakes old new answer → MarksFor old new
