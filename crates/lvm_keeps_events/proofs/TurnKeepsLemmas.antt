-- Each end of a transfer leaves a session sound, and less work.
use Rattle.std.proofs.Common.{◌≡◌, ℕ, Bool, true, false, Some, refl}
use Rattle.lvm_num.specs.Buffer.{Buffer}
use Rattle.lvm_session.specs.declared.bringing.OpenCopy.{OpenCopy}
use Rattle.lvm_session.specs.declared.bringing.Step.{Step}
use Rattle.lvm_session.specs.declared.bringing.Step.TheVariants as step
use Rattle.lvm_session.specs.declared.flown.Flown.{Flown}
use Rattle.lvm_session.specs.declared.flown.Owner.{Owner}
use Rattle.lvm_session.specs.declared.flown.Owner.TheVariants as owner
use Rattle.lvm_session.specs.Judging.{is_running}
use Rattle.lvm_session.specs.State.{State}
use Rattle.lvm_session.specs.Ends.{Learns, NoteLearns, Returns, StepLearns, StepLeaves}
use Rattle.lvm_keeps.specs.Falls.{EndsFall}
use Rattle.lvm_keeps.specs.Keeps.{EndKeeps}
use Rattle.lvm_keeps_events.specs.Ends.{EndsMiss, EndsNote, EndsQuit, EndsRead, EndsWrite}
use Rattle.lvm_keeps_events.proofs.EndsLemmas.CopyQuit.{copy_quit_keeps}
use Rattle.lvm_keeps_events.proofs.EndsLemmas.CopyReadEnd.{copy_read_end_keeps}
use Rattle.lvm_keeps_events.proofs.EndsLemmas.CopyReadFail.{copy_read_fail_keeps}
use Rattle.lvm_keeps_events.proofs.EndsLemmas.CopyWriteFail.{copy_write_fail_keeps}
use Rattle.lvm_keeps_events.proofs.EndsLemmas.NoteEnd.{note_end_keeps}
use Rattle.lvm_keeps_events.specs.DataEnds.{EndsData}
use Rattle.lvm_keeps_events.proofs.DataEndsLemmas.{data_end_keeps}
use Rattle.lvm_keeps_events.specs.GroupEnds.{EndsGroup}
use Rattle.lvm_keeps_events.proofs.GroupEndsLemmas.{copy_write_end_keeps}
use Rattle.lvm_keeps_events.proofs.EndFallsLemmas.CopyFalls.{copy_quit_falls, copy_read_end_falls, copy_read_fail_falls, copy_write_fail_falls}
use Rattle.lvm_keeps_events.proofs.EndFallsLemmas.DataFalls.{data_end_falls}
use Rattle.lvm_keeps_events.proofs.EndFallsLemmas.GroupFalls.{copy_write_end_falls}
use Rattle.lvm_keeps_events.specs.StatusEnds.{EndsStatus, FailsNote}
use Rattle.lvm_keeps_events.proofs.StatusEndsLemmas.EndsFall.{note_end_falls, note_fail_falls, status_end_falls}
use Rattle.lvm_keeps_events.proofs.StatusEndsLemmas.NoteFail.{note_fail_keeps}
use Rattle.lvm_keeps_events.proofs.StatusEndsLemmas.StatusEnd.{status_end_keeps}

-- what follows of each kind of end, by whose transfer it was and how it ended
record Follows (old new : State) (at : ℕ) (X : Type 0) : Type 0 where
  pub data_end : (id target : ℕ) (ok : Bool) → EndsData old new at id target ok → X
  pub status_end : (disk : ℕ) (ok : Bool) → EndsStatus old new at disk ok → X
  pub note_end : (disk : ℕ) → EndsNote old new at disk → X
  pub note_fail : (disk : ℕ) → FailsNote old new at disk → X
  pub read_end : EndsRead old new at → X
  pub read_fail : EndsMiss old new at → X
  pub write_end : EndsGroup old new at → X
  pub write_fail : EndsWrite old new at → X
  pub quit : (ok : Bool) → EndsQuit old new at ok → X

module _ (old new : State) (at : ℕ) {X : Type 0} (follows : Follows old new at X) (row : Flown) (buf : Buffer) where
  of_note : (disk : ℕ) (ok : Bool) → row.owner ≡ owner.Note disk → Returns old new at row ok buf → NoteLearns old.core at disk ok buf new.core → X
  of_note disk true own returns learns = follows.note_end disk (record { row = row; buf = buf; own = own; returns = returns; learns = learns })
  of_note disk false own returns learns = follows.note_fail disk (record { row = row; buf = buf; own = own; returns = returns; learns = learns })

  module _ (own : row.owner ≡ owner.Copy) (c : OpenCopy) (is_open : old.core.copy ≡ Some c) where
    of_step : (s : Step) (ok : Bool) → c.step ≡ s → is_running c ≡ true → Returns old new at row ok buf → StepLeaves s ok old.core at c buf new.core → X
    of_step step.Idle ok is runs returns leaves = absurd leaves
    of_step (step.Read hand) ok is runs returns leaves = absurd leaves
    of_step (step.Reading source) true is runs returns leaves = follows.read_end (record { row = row; buf = buf; copy = c; source = source; own = own; is_open = is_open; runs = runs; reads = is; returns = returns; is = leaves })
    of_step (step.Reading source) false is runs returns leaves = follows.read_fail (record { row = row; buf = buf; copy = c; source = source; own = own; is_open = is_open; runs = runs; reads = is; returns = returns; misses = leaves })
    of_step step.Writing true is runs returns leaves = follows.write_end (record { row = row; buf = buf; copy = c; own = own; is_open = is_open; runs = runs; writes = is; returns = returns; passes = leaves })
    of_step step.Writing false is runs returns leaves = follows.write_fail (record { row = row; buf = buf; copy = c; own = own; is_open = is_open; runs = runs; writes = is; returns = returns; fails = leaves })

    of_copy : (b : Bool) (ok : Bool) → is_running c ≡ b → Returns old new at row ok buf → StepLearns b old.core at c ok buf new.core → X
    of_copy true ok runs returns learns = of_step c.step ok refl runs returns learns
    of_copy false ok over returns learns = follows.quit ok (record { row = row; buf = buf; copy = c; own = own; is_open = is_open; over = over; returns = returns; is = learns })

  of_owner : (who : Owner) (ok : Bool) → row.owner ≡ who → Returns old new at row ok buf → Learns who old.core at ok buf new.core → X
  of_owner (owner.Data id target) ok own returns learns = follows.data_end id target ok (record { row = row; buf = buf; own = own; returns = returns; learns = learns })
  of_owner (owner.Status disk) ok own returns learns = follows.status_end disk ok (record { row = row; buf = buf; own = own; returns = returns; learns = learns })
  of_owner (owner.Note disk) ok own returns learns = of_note disk ok own returns learns
  of_owner owner.Copy ok own returns learns = of_copy own learns.copy learns.is_open (is_running learns.copy) ok refl returns learns.learns

pub ends_keep : EndKeeps
ends_keep at old new sound on event = of_owner old new at (record {
  data_end = λ id target ok it. data_end_keeps at id target ok old new sound on it;
  status_end = λ disk ok it. status_end_keeps at disk ok old new sound on it;
  note_end = λ disk it. note_end_keeps at disk old new sound on it;
  note_fail = λ disk it. note_fail_keeps at disk old new sound on it;
  read_end = λ it. copy_read_end_keeps at old new sound on it;
  read_fail = λ it. copy_read_fail_keeps at old new sound on it;
  write_end = λ it. copy_write_end_keeps at old new sound on it;
  write_fail = λ it. copy_write_fail_keeps at old new sound on it;
  quit = λ ok it. copy_quit_keeps at ok old new sound on it;
}) event.row event.buf event.row.owner event.ok refl event.returns event.learns

pub ends_fall : EndsFall
ends_fall at old new sound on none event = of_owner old new at (record {
  data_end = λ id target ok it. data_end_falls at id target ok old new sound on it;
  status_end = λ disk ok it. status_end_falls at disk ok old new sound on it;
  note_end = λ disk it. note_end_falls at disk old new sound on it;
  note_fail = λ disk it. note_fail_falls at disk old new sound on it;
  read_end = λ it. copy_read_end_falls at old new sound on it;
  read_fail = λ it. copy_read_fail_falls at old new sound on it;
  write_end = λ it. copy_write_end_falls at old new sound on it;
  write_fail = λ it. copy_write_fail_falls at old new sound on it;
  quit = λ ok it. copy_quit_falls at ok old new sound on it;
}) event.row event.buf event.row.owner event.ok refl event.returns event.learns
