-- Each end of a transfer by which a copy is brought up.
use Rattle.std.proofs.Common.{◌≡◌, ℕ, Bool, true, false, List, Some, refl}
use Rattle.lvm_num.specs.Buffer.{Buffer}
use Rattle.lvm_vol.specs.Facts.{Fact}
use Rattle.lvm_disk.specs.Device.{HasSectors}
use Rattle.lvm_session.specs.declared.bringing.OpenCopy.{OpenCopy}
use Rattle.lvm_session.specs.declared.bringing.Step.{Step}
use Rattle.lvm_session.specs.declared.bringing.Step.TheVariants as step
use Rattle.lvm_session.specs.declared.flown.Flown.{Flown}
use Rattle.lvm_session.specs.declared.flown.Owner.TheVariants as owner
use Rattle.lvm_session.specs.State.{State}
use Rattle.lvm_session.specs.Judging.{is_running}
use Rattle.lvm_session.specs.Bringing.{is_whole}
use Rattle.lvm_session.specs.Ends.{Returns, StepLeaves, StepLearns}
use Rattle.lvm_session.specs.Sound.{IsSound}
use Rattle.lvm_tie.specs.Tied.{IsTied}
use Rattle.lvm_tie.specs.Steps.{CopyEndTies, CopyGroupTies}
use Rattle.lvm_tie.proofs.StepsLemmas.Quits.{copy_quit_ties}
use Rattle.lvm_tie.proofs.StepsLemmas.Fails.{copy_write_fail_ties}
use Rattle.lvm_tie.proofs.StepsLemmas.ReadEnds.{copy_read_end_ties}
use Rattle.lvm_tie.proofs.StepsLemmas.Misses.{copy_miss_ties}
use Rattle.lvm_tie.proofs.StepsLemmas.Passing.{d}
use Rattle.lvm_tie.proofs.StepsLemmas.Groups.{group_tied}
use Rattle.lvm_tie.proofs.StepsLemmas.Wholes.{whole_tied}

pub copy_group_ties : CopyGroupTies
copy_group_ties at past old new tied sound event = by (is_whole old.core (d past old new at tied event.0 event.1)) refl
  where
    by : (b : Bool) → is_whole old.core (d past old new at tied event.0 event.1) ≡ b → IsTied past new
    by false short = group_tied past old new at tied sound event.0 event.1 short
    by true full = whole_tied past old new at tied sound event.0 event.1 full

module _ (past : List Fact) (old new : State) (at : ℕ) (row : Flown) (buf : Buffer) (tied : IsTied past old) (sound : IsSound new) (sectors : HasSectors new.device)
    (own : row.owner ≡ owner.Copy) (c : OpenCopy) (is_open : old.core.copy ≡ Some c) where
  -- by what its step was
  stepped : (st : Step) (ok : Bool) → c.step ≡ st → is_running c ≡ true → Returns old new at row ok buf → StepLeaves st ok old.core at c buf new.core → IsTied past new
  stepped step.Idle ok is runs returns none = absurd none
  stepped (step.Read hand) ok is runs returns none = absurd none
  stepped (step.Reading source) true is runs returns its =
      copy_read_end_ties at past old new tied sound (record { row = row; buf = buf; copy = c; source = source; own = own; is_open = is_open; runs = runs; reads = is; returns = returns; is = its })
  stepped (step.Reading source) false is runs returns its =
      copy_miss_ties at past old new tied sound (record { row = row; buf = buf; copy = c; source = source; own = own; is_open = is_open; runs = runs; reads = is; returns = returns; misses = its })
  stepped step.Writing true is runs returns its =
      copy_group_ties at past old new tied sound (sectors, record { row = row; buf = buf; copy = c; own = own; is_open = is_open; runs = runs; writes = is; returns = returns; passes = its })
  stepped step.Writing false is runs returns its =
      copy_write_fail_ties at past old new tied sound (sectors, record { row = row; buf = buf; copy = c; own = own; is_open = is_open; runs = runs; writes = is; returns = returns; fails = its })

  -- and by whether it had ended before
  pub learnt : (b : Bool) (ok : Bool) → is_running c ≡ b → Returns old new at row ok buf → StepLearns b old.core at c ok buf new.core → IsTied past new
  learnt true ok runs returns its = stepped c.step ok refl runs returns its
  learnt false ok over returns its =
      copy_quit_ties at ok past old new tied sound (sectors, record { row = row; buf = buf; copy = c; own = own; is_open = is_open; over = over; returns = returns; is = its })

pub copy_end_ties : CopyEndTies
copy_end_ties at past old new tied sound event =
    let its = event.1 in
    let learns = its.learns in
    learnt past old new at its.ends.row its.ends.buf tied sound event.0 its.own learns.copy learns.is_open (is_running learns.copy) its.ends.ok refl its.ends.returns learns.learns
