-- A disk gets both records of the group that it is to join.
use Rattle.std.specs.Prelude.{◌≡◌, ◌≢◌, ℕ, ◌+◌, ◌<◌, ◌^◌, false, not, IfSome}
use Rattle.lvm_num.specs.declared.record.Kind.{Kind}
use Rattle.lvm_num.specs.declared.record.Stamp.{Stamp}
use Rattle.lvm_num.specs.declared.descriptor.PvRow.{PvRow}
use Rattle.lvm_num.specs.declared.status.Status.{Status}
use Rattle.lvm_num.specs.Descriptor.{IsValid}
use Rattle.lvm_num.specs.Disks.{Disks}
use Rattle.lvm_disk.specs.Counts.{Rose}
use Rattle.lvm_disk.specs.Device.{Device, IsReady, image_of}
use Rattle.lvm_disk.specs.Paths.{DeviceStep, Path}
use Rattle.lvm_kept.specs.Torn.{RecordWrite}
use Rattle.lvm_status.specs.Rerowed.{IsRerowed}
use Rattle.lvm_steps.specs.Moments.{StaysKept}
use Rattle.lvm_rec.specs.declared.homes.Homes.{Homes}
use Rattle.lvm_rec.specs.Homes.{Flips, second_slots}
use Rattle.lvm_write.specs.Parts.{Spends}
use Rattle.lvm_write.specs.Writes.{IsBack}
use Rattle.lvm_write.specs.Written.{HasRoom, KeepsShelf, StandsTold, IsDarkened, IsGivenUp}
use Rattle.lvm_commit.specs.Committed.{next_stamp}
use Rattle.lvm_commit.specs.LawsOfFinding.{FindsNoMoreOn}
use Rattle.lvm_change.specs.declared.turn.Transition.{Transition}
use Rattle.lvm_change.specs.Transition.{AreRecords}
use Rattle.lvm_extend_laws.specs.Joining.{with_disk}
use Rattle.lvm_extend_laws.specs.Writing.{JoinRecords, status_write, descriptor_write, IsOfJoining, LetsWrite}
use Rattle.lvm_extend.specs.declared.admission.Admitted.{Admitted}
use Rattle.lvm_extend.specs.declared.admission.Admitted.TheVariants as admitted

abbrev pub no_disk : Disks
no_disk disk = false

-- the disk by itself
abbrev pub alone : ℕ → Disks
alone disk = with_disk disk no_disk

-- ---- one record

-- Where it stands on the disk, no transfer to that has failed, and its next record of the kind goes to the other slot; else one has, and it goes to the same one.
abbrev pub PutEnds : RecordWrite → Homes → Homes → ℕ → ℕ → ℕ → Device → Device → Admitted → Type 0
PutEnds w homes slots disk number patience old new (admitted.Done buf) =
    IsBack number old new buf × StandsTold w new disk × (new.counts.faults disk ≡ old.counts.faults disk) × Flips w.kind (alone disk) homes slots
PutEnds w homes slots disk number patience old new (admitted.Failed buf) = IsBack number old new buf × Rose (old.counts.faults disk) (new.counts.faults disk)
PutEnds w homes slots disk number patience old new admitted.Dark = IsDarkened number old new
PutEnds w homes slots disk number patience old new admitted.Stuck = IsGivenUp number patience old new

-- ---- both

-- the records of the turn, under the next two stamps
abbrev pub join_records : Transition → Stamp → JoinRecords
join_records turn stamp = record {
  told = turn.told.now;
  status = record { stamp = next_stamp stamp; content = turn.status.now };
  descriptor = record { stamp = next_stamp (next_stamp stamp); content = turn.content.now };
}

-- What lets the disk get them behind the record of this stamp.
pub record MayAdmit (turn : Transition) (disk : ℕ) (stamp : Stamp) (device : Device) : Type 0 where
  pub ready : IsReady device
  pub records : AreRecords turn
  pub valid_next : IsValid turn.next.now
  pub low : disk < 128
  pub room : HasRoom device disk
  pub epoch : stamp.epoch ≢ 0
  pub bound : stamp.epoch < 2 ^ 64
  pub numbers : stamp.seq + 2 < 2 ^ 32

-- the disks hold the group as committed, and the disk may join it, where the media is told
abbrev pub IsBeforeJoining : Transition → ℕ → Stamp → Homes → Device → Type 0
IsBeforeJoining turn disk stamp homes device = IfSome device.media (λ media.
    (row : PvRow) × (status : Status) × (there : Disks) × (row.disk ≡ disk) × IsRerowed turn.next.now status turn.told.now × LetsWrite (image_of device.sizes media) turn.was.now turn.next.now row status there stamp homes)

-- both records stand on the disk, to which no transfer has failed; of it alone the next ones go to the other slots
pub record HasAdmitted (turn : Transition) (disk : ℕ) (stamp : Stamp) (homes slots : Homes) (old new : Device) : Type 0 where
  pub status : StandsTold (status_write (join_records turn stamp) disk no_disk homes) new disk
  pub descriptor : StandsTold (descriptor_write (join_records turn stamp) disk no_disk homes) new disk
  pub well : new.counts.faults disk ≡ old.counts.faults disk
  pub turns : (k : Kind) → second_slots k slots disk ≡ not (second_slots k homes disk)
  pub others : (k : Kind) (d : ℕ) → d ≢ disk → second_slots k slots d ≡ second_slots k homes d

-- how it ends, by its answer
abbrev pub AdmitEnds : Transition → ℕ → Stamp → Homes → Homes → ℕ → ℕ → Device → Device → Admitted → Type 0
AdmitEnds turn disk stamp homes slots number patience old new (admitted.Done buf) = IsBack number old new buf × HasAdmitted turn disk stamp homes slots old new
AdmitEnds turn disk stamp homes slots number patience old new (admitted.Failed buf) = IsBack number old new buf × Rose (old.counts.faults disk) (new.counts.faults disk)
AdmitEnds turn disk stamp homes slots number patience old new admitted.Dark = IsDarkened number old new
AdmitEnds turn disk stamp homes slots number patience old new admitted.Stuck = IsGivenUp number patience old new

-- Whatever the answer: only sectors of the two records were brought to that disk alone; and where the disk may join, what was kept is kept at each moment, and nothing more is
-- found than the next descriptor.
pub record Admits (turn : Transition) (disk : ℕ) (stamp : Stamp) (homes slots : Homes) (number before after : ℕ) (old new : Device) (result : Admitted) : Type 0 where
  pub ends : AdmitEnds turn disk stamp homes slots number before old new result
  pub keeps : KeepsShelf (alone disk) (IsOfJoining (join_records turn stamp) disk no_disk homes) old new
  pub spends : Spends before after old new
  pub kept : Path DeviceStep (λ d. IsBeforeJoining turn disk stamp homes old → StaysKept old d) old new
  pub finds : IsBeforeJoining turn disk stamp homes old → FindsNoMoreOn turn.next.now old new
