-- What an owner's transfer that has ended says of the session.
use Rattle.std.proofs.Common.{◌≡◌, ◌<◌, ℕ, Bool, true, false, Option, Some, None, refl, sym, ◌∙◌, ap, subst}
use Rattle.std.specs.Prelude.{IsTrue, is_some, option_and_then}
use Rattle.lvm_num.specs.Buffer.{Buffer}
use Rattle.lvm_num.specs.declared.descriptor.Descriptor.{Descriptor}
use Rattle.lvm_num.specs.declared.status.Status.{Status}
use Rattle.lvm_num.specs.Descriptor.{is_member}
use Rattle.lvm_num.specs.Disks.{has}
use Rattle.lvm_status.proofs.MarkingLemmas.{has_row-same}
use Rattle.lvm_status.specs.Table.{SameMembers, has_row}
use Rattle.lvm_mwc.specs.declared.notes.DiskNotes.{DiskNotes}
use Rattle.lvm_mwc.specs.Cache.{flight_on, notes_on}
use Rattle.lvm_status.specs.declared.change.Change.TheVariants as change
use Rattle.lvm_status.specs.Calls.{WantsAtEnd, after_end}
use Rattle.lvm_status.specs.Members.{HasItsRows}
use Rattle.lvm_status.specs.Runs.{Ended, IsSoundStatus, Want}
use Rattle.lvm_status.specs.Update.{Stored, seen}
use Rattle.lvm_status.proofs.Disks.{member-below}
use Rattle.lvm_status.proofs.RunsLemmas.Sound.{steps_stay_sound}
use Rattle.lvm_session.specs.State.{Core}
use Rattle.lvm_session.specs.Ends.{LosesDisk}
use Rattle.lvm_session_turn.specs.Learning.{NoteWriteEnds}
use Rattle.lvm_session.specs.Sound.{IsGoing}

-- ---- of the update

pub is_started_member : (core : Core) (disk : ℕ) → IsGoing core → has core.status.writes.started disk ≡ true → disk < 128
is_started_member core disk going started =
    member-below core.descriptor going.fitting.valid disk (sym (ap (λ (d : Descriptor). is_member d disk) going.fitting.group) ∙ going.status.started disk started)

pub sound_after_end : (old new : Stored) (disk : ℕ) (ok : Bool) → IsSoundStatus (seen old) → has old.writes.started disk ≡ true → WantsAtEnd disk ok old.wanted new.wanted
    → seen new ≡ after_end (seen old) disk ok new.wanted → IsSoundStatus (seen new)
sound_after_end old new disk ok sound started wants ended = steps_stay_sound (Ended disk ok) (seen old) (seen new) sound (started, wants, ended)

rows_same : (d : Descriptor) (old new : Status) → SameMembers old new → HasItsRows d old → HasItsRows d new
rows_same d old new same rows disk = has_row-same old new same disk ∙ rows disk

pub rows_after_end : (core : Core) (new : Stored) (disk : ℕ) (ok : Bool) → IsGoing core → WantsAtEnd disk ok core.status.wanted new.wanted → HasItsRows core.descriptor new.wanted
rows_after_end core new disk true going wants = subst (HasItsRows core.descriptor) (sym wants) going.fitting.rows
rows_after_end core new disk false going wants = rows_same core.descriptor core.status.wanted new.wanted wants.members going.fitting.rows

-- ---- of a note

pub sound_without : (disk : ℕ) (old new : Stored) → IsSoundStatus (seen old) → LosesDisk disk old new → IsSoundStatus (seen new)
sound_without disk old new sound loses = steps_stay_sound (Want (change.Missing disk)) (seen old) (seen new) sound (loses.wants, loses.rest)

pub rows_without : (core : Core) (new : Stored) (disk : ℕ) → IsGoing core → LosesDisk disk core.status new → HasItsRows core.descriptor new.wanted
rows_without core new disk going loses = rows_same core.descriptor core.status.wanted new.wanted loses.wants.members going.fitting.rows

-- a disk with a note in flight has a row
pub has_its_row : (core : Core) (disk : ℕ) → IsGoing core → is_some (flight_on core.cache disk) ≡ true → IsTrue (has_row core.status.wanted disk)
has_its_row core disk going flies = going.fitting.rows disk ∙ sym (going.fitting.notes disk) ∙ by_notes (notes_on core.cache disk) refl flies
  where
    by_notes : (o : Option DiskNotes) → notes_on core.cache disk ≡ o → is_some (option_and_then (λ (n : DiskNotes). n.flight) o) ≡ true → is_some o ≡ true
    by_notes None is flies = absurd (cc flies)
    by_notes (Some n) is flies = refl

pub lost : (core mid : Core) (at disk : ℕ) (ok : Bool) (buf : Buffer) → ok ≡ false → NoteWriteEnds ok core at disk buf mid → NoteWriteEnds false core at disk buf mid
lost core mid at disk ok buf is ends = subst (λ (b : Bool). NoteWriteEnds b core at disk buf mid) is ends
