-- What each transfer is that is out of a session, and when the next update of its status may be written.
use Rattle.std.specs.Prelude.{◌≡◌, ◌≢◌, ◌||◌, ℕ, ◌+◌, ◌^◌, ◌<◌, Bool, true, false, List, [], ◌∷◌, Option, Some, None, IsTrue, slice_get}
use Rattle.arrayvec.specs.ArrayVec.{ArrayVec}
use Rattle.lvm_num.specs.declared.descriptor.Descriptor.{Descriptor}
use Rattle.lvm_num.specs.declared.record.Kind.TheVariants as kind
use Rattle.lvm_num.specs.declared.record.NoteEntry.{NoteEntry}
use Rattle.lvm_num.specs.declared.status.Status.{Status}
use Rattle.lvm_num.specs.Buffer.{Sector}
use Rattle.lvm_num.specs.Disks.{has}
use Rattle.lvm_num.specs.Note.{IsNote}
use Rattle.lvm_num.specs.StatusBytes.{status_bytes, status_of}
use Rattle.lvm_rec.specs.Slots.{slot_for}
use Rattle.lvm_disk.specs.Device.{Image, Flight, IsWholeImage}
use Rattle.lvm_kept.specs.Torn.{RecordWrite}
use Rattle.lvm_steps.specs.Behind.{StampsBefore}
use Rattle.lvm_mwc.specs.Cache.{flight_on}
use Rattle.lvm_status.specs.Update.{Stored, members_there}
use Rattle.lvm_commit.specs.Committed.{next_stamp}
use Rattle.lvm_rec.specs.declared.homes.Homes.{Homes}
use Rattle.lvm_rec.specs.Homes.{next_slot}
use Rattle.lvm_session.specs.declared.bringing.OpenCopy.{OpenCopy}
use Rattle.lvm_session.specs.declared.bringing.Step.TheVariants as step
use Rattle.lvm_session.specs.declared.flown.Flown.{Flown}
use Rattle.lvm_session.specs.declared.flown.Owner.{Owner}
use Rattle.lvm_session.specs.declared.flown.Owner.TheVariants as owner
use Rattle.lvm_session.specs.State.{Core}
use Rattle.lvm_invariant.specs.State.{Queued, ModelState}

-- ---- the step of a copy

-- a write to the copy that is being brought up carries what its step has got
abbrev pub CarriesStep : Core → ModelState → Flight → Owner → Type 0
CarriesStep core v f (owner.Data id number) = Unit {0}
CarriesStep core v f (owner.Status disk) = Unit {0}
CarriesStep core v f (owner.Note disk) = Unit {0}
CarriesStep core v f owner.Copy = (c : OpenCopy) (q : Queued) → core.copy ≡ Some c → c.step ≡ step.Writing → v.queue c.place ≡ Some q
    → (value : ℕ → Sector) × (q.got ≡ Some value) × ((k : ℕ) → k < 256 → slice_get f.buf.sectors k ≡ Some (value (q.first + k)))

-- so does each of those that are out
abbrev pub CarryTheirs : Core → ModelState → List Flight → List Flown → Type 0
CarryTheirs core v [] rows = Unit {0}
CarryTheirs core v (f ∷ fs) [] = Unit {0}
CarryTheirs core v (f ∷ fs) (row ∷ rows) = CarriesStep core v f row.owner × CarryTheirs core v fs rows

-- ---- notes

-- each note that is out fits its sector
abbrev pub AreNotes : Core → Type 0
AreNotes core = (d : ℕ) (items : ArrayVec NoteEntry) → flight_on core.cache d ≡ Some items → IsNote (record { stamp = core.status.stamp.epoch; entries = items.items })

-- ---- the update of the status

-- a write of the update is to be started on the disk, or is out there
abbrev pub is_owed_on : Stored → ℕ → Bool
is_owed_on status d = has status.writes.unstarted d || has status.writes.started d

-- The update in flight is written so: as a status, under its stamp, to the slot of each disk that is next there.
pub record IsUpdateWrite (status : Stored) (homes : Homes) (u : Status) (w : RecordWrite) : Type 0 where
  pub is_status : w.kind ≡ kind.Status
  pub stamp : w.framed.stamp ≡ status.stamp
  pub content : w.framed.content ≡ status_bytes u
  pub targets : (d : ℕ) → is_owed_on status d ≡ true → IsTrue (w.targets d)
  pub slots : (d : ℕ) → is_owed_on status d ≡ true → w.slots d ≡ next_slot kind.Status homes d

-- so it is of the update in flight, and nothing is written of none
abbrev pub IsWriteOf : Stored → Homes → Option Status → Option RecordWrite → Type 0
IsWriteOf status homes None None = Unit {0}
IsWriteOf status homes None (Some w) = ⊥
IsWriteOf status homes (Some u) None = ⊥
IsWriteOf status homes (Some u) (Some w) = IsUpdateWrite status homes u w

-- The next update may be written: what stands in the slots of records, torn leftovers included, is under stamps before its own, and a member that is there has its
-- newest status in the slot that isn't next, unless a write of the update in flight is owed there.
pub record MayUpdate (group : Descriptor) (status : Stored) (homes : Homes) (image : Image) : Type 0 where
  pub some_epoch : status.stamp.epoch ≢ 0
  pub epoch : status.stamp.epoch < 2 ^ 64
  pub whole : IsWholeImage image
  pub before : StampsBefore (next_stamp status.stamp) image
  pub spare : (d : ℕ) → IsTrue (members_there group status.wanted d) → is_owed_on status d ≡ false → next_slot kind.Status homes d ≡ slot_for status_of kind.Status (image.sector d)
