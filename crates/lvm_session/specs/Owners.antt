-- Whose each transfer that is out is.
use Rattle.std.specs.Prelude.{◌≡◌, ℕ, Bool, true, false, ◌&&◌, ◌==◌, if◌then◌else◌, List, [], ◌∷◌, Some, is_some, slice_get, count_by, length}
use Rattle.std.specs.List.{list_any}
use Rattle.std.specs.Option.{option_map_or}
use Rattle.lvm_num.specs.declared.status.Status.{Status}
use Rattle.lvm_num.specs.declared.record.NoteEntry.{NoteEntry}
use Rattle.lvm_num.specs.Disks.{has}
use Rattle.lvm_num.specs.Note.{note_bytes}
use Rattle.lvm_kept.specs.passed.Disk.{Flight}
use Rattle.lvm_path.specs.passed.Sched.{is_flying}
use Rattle.arrayvec.specs.ArrayVec.{ArrayVec}
use Rattle.lvm_mwc.specs.Cache.{flight_on}
use Rattle.lvm_path.specs.declared.target.Target.{Target}
use Rattle.lvm_session.specs.declared.open.Open.{Open}
use Rattle.lvm_session.specs.declared.flown.Flown.{Flown}
use Rattle.lvm_session.specs.declared.flown.Owner.{Owner}
use Rattle.lvm_session.specs.declared.flown.Owner.TheVariants as owner
use Rattle.lvm_session.specs.declared.bringing.OpenCopy.{OpenCopy}
use Rattle.lvm_session.specs.declared.bringing.Step.{Step}
use Rattle.lvm_session.specs.declared.bringing.Step.TheVariants as step
use Rattle.lvm_session.specs.State.{Core}
use Rattle.lvm_session.specs.Bringing.{is_out}
use Rattle.lvm_kept.specs.Contents.{note_sector}
use Rattle.lvm_session.specs.Events.{IsDataTransfer, IsStatusWrite, IsCopyTransfer}

-- ---- who has a transfer out

-- the transfer of this target is out
abbrev pub target_flies : ℕ → Open → Bool
target_flies target o = option_map_or (λ (t : Target). is_flying t.state) (slice_get o.request.targets.items target) false

-- the owner has one out
abbrev pub flies : Core → Owner → Bool
flies core (owner.Data id target) = list_any (λ (o : Open). o.request.id == id && target_flies target o) core.requests
flies core (owner.Status disk) = has core.status.writes.started disk
flies core (owner.Note disk) = is_some (flight_on core.cache disk)
flies core owner.Copy = option_map_or (λ (c : OpenCopy). is_out c.step) core.copy false

-- they are one owner
abbrev pub same_owner : Owner → Owner → Bool
same_owner (owner.Data id target) (owner.Data id2 target2) = id == id2 && target == target2
same_owner (owner.Status disk) (owner.Status disk2) = disk == disk2
same_owner (owner.Note disk) (owner.Note disk2) = disk == disk2
same_owner owner.Copy owner.Copy = true
same_owner _ _ = false

-- exactly those that have one out are in the list, each once
abbrev pub AreOwned : Core → Type 0
AreOwned core = (who : Owner) → count_by (λ (f : Flown). same_owner who f.owner) core.flying ≡ (if flies core who then 1 else 0)

-- ---- what each does

-- A target's transfer.
pub record IsDataOf (core : Core) (id target : ℕ) (f : Flight) : Type 0 where
  pub place : ℕ
  pub request : Open
  pub there : slice_get core.requests place ≡ Some request
  pub own : request.request.id ≡ id
  pub aim : Target
  pub aim_is : slice_get request.request.targets.items target ≡ Some aim
  pub moves : IsDataTransfer core request.request aim f

-- The write of the update in flight.
pub record IsStatusOf (core : Core) (disk : ℕ) (f : Flight) : Type 0 where
  pub status : Status
  pub flies : core.status.in_flight ≡ Some status
  pub writes : IsStatusWrite core status disk f

-- The write of the note in flight on its disk.
pub record IsNoteOf (core : Core) (disk : ℕ) (f : Flight) : Type 0 where
  pub note : ArrayVec NoteEntry
  pub flies : flight_on core.cache disk ≡ Some note
  pub disk_is : f.disk ≡ disk
  pub first : f.first ≡ note_sector
  pub count : f.count ≡ 1
  pub write : f.write ≡ true
  pub carries : slice_get f.buf.sectors 0 ≡ Some (note_bytes (record { stamp = core.status.stamp.epoch; entries = note.items }))

-- The read of a copy's source, or the write to it.
abbrev pub IsStepOf : Step → Core → OpenCopy → Flight → Type 0
IsStepOf step.Idle core c f = ⊥
IsStepOf (step.Read buf) core c f = ⊥
IsStepOf (step.Reading source) core c f = IsCopyTransfer core c source false f
IsStepOf step.Writing core c f = IsCopyTransfer core c c.pp true f

-- the transfer of the copy that is open
abbrev pub IsCopyStepOf : Core → Flight → Type 0
IsCopyStepOf core f = (c : OpenCopy) × (core.copy ≡ Some c) × IsStepOf c.step core c f

-- The transfer is what its owner has out.
abbrev pub IsTransferOf : Core → Owner → Flight → Type 0
IsTransferOf core (owner.Data id target) f = IsDataOf core id target f
IsTransferOf core (owner.Status disk) f = IsStatusOf core disk f
IsTransferOf core (owner.Note disk) f = IsNoteOf core disk f
IsTransferOf core owner.Copy f = IsCopyStepOf core f

-- the row of the session's list is the flight's
pub record IsRowOf (core : Core) (row : Flown) (f : Flight) : Type 0 where
  pub ticket : f.ticket ≡ row.ticket
  pub long : length f.buf.sectors ≡ 256
  pub disk : f.disk ≡ row.disk
  pub own : IsTransferOf core row.owner f

-- The list is that of the flights, one by one.
abbrev pub AreRows : Core → List Flown → List Flight → Type 0
AreRows core [] [] = Unit {0}
AreRows core [] (f ∷ flights) = ⊥
AreRows core (row ∷ rows) [] = ⊥
AreRows core (row ∷ rows) (f ∷ flights) = IsRowOf core row f × AreRows core rows flights

-- no two flights have one ticket
abbrev pub HaveTickets : List Flown → Type 0
HaveTickets [] = Unit {0}
HaveTickets (row ∷ rows) = (list_any (λ (other : Flown). other.ticket == row.ticket) rows ≡ false) × HaveTickets rows
