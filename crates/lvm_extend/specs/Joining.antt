-- A disk joins a group: how the writes of both records end, and what they leave.
use Rattle.std.specs.Prelude.{◌≡◌, ◌≢◌, ℕ, ◌+◌, ◌<◌, ◌^◌, false, IfSome, IsTrue}
use Rattle.lvm_num.specs.declared.record.Stamp.{Stamp}
use Rattle.lvm_num.specs.declared.descriptor.PvRow.{PvRow}
use Rattle.lvm_num.specs.declared.status.Status.{Status}
use Rattle.lvm_num.specs.Descriptor.{IsValid}
use Rattle.lvm_num.specs.Disks.{Disks, has}
use Rattle.lvm_num.specs.Votes.{CanWrite}
use Rattle.lvm_disk.specs.Counts.{Rose}
use Rattle.lvm_disk.specs.Device.{Device, IsReady, image_of}
use Rattle.lvm_disk.specs.Paths.{DeviceStep, Path}
use Rattle.lvm_status.specs.Rerowed.{IsRerowed}
use Rattle.lvm_steps.specs.Moments.{StaysKept}
use Rattle.lvm_rec.specs.declared.homes.Homes.{Homes}
use Rattle.lvm_write.specs.Parts.{Spends}
use Rattle.lvm_write.specs.Writes.{IsBack}
use Rattle.lvm_write.specs.Written.{HasRoom, HaveRoom, KeepsShelf, IsDarkened, IsGivenUp}
use Rattle.lvm_commit.specs.Committed.{next_stamp}
use Rattle.lvm_commit.specs.LawsOfFinding.{FindsNoMoreOn}
use Rattle.lvm_change.specs.declared.turn.Transition.{Transition}
use Rattle.lvm_change.specs.declared.turn.TransitionEnd.{TransitionEnd}
use Rattle.lvm_change.specs.declared.turn.TransitionEnd.TheVariants as turned
use Rattle.lvm_change.specs.Transition.{AreRecords, HasFewVotes, ComesBack, IsOfTransition}
use Rattle.lvm_extend_laws.specs.Joining.{with_disk}
use Rattle.lvm_extend_laws.specs.Writing.{LetsWrite}
use Rattle.lvm_extend.specs.declared.joining.JoinEnd.{JoinEnd}
use Rattle.lvm_extend.specs.declared.joining.JoinEnd.TheVariants as ended

-- ---- before it

-- What lets a disk and these members get both records behind the record of this stamp.
pub record MayMakeJoin (turn : Transition) (disk : ℕ) (there : Disks) (stamp : Stamp) (device : Device) : Type 0 where
  pub ready : IsReady device
  pub records : AreRecords turn
  pub valid : IsValid turn.was.now
  pub valid_next : IsValid turn.next.now
  pub low : disk < 128
  pub apart : there disk ≡ false
  pub own_room : HasRoom device disk
  pub room : HaveRoom device there
  pub epoch : stamp.epoch ≢ 0
  pub bound : stamp.epoch < 2 ^ 64
  pub numbers : stamp.seq + 2 < 2 ^ 32

-- The disks hold the group as committed, and the disk may join it.
pub record IsBefore (turn : Transition) (disk : ℕ) (there : Disks) (stamp : Stamp) (homes : Homes) (device : Device) : Type 0 where
  pub row : PvRow
  pub its : row.disk ≡ disk
  pub status : Status
  pub told : IsRerowed turn.next.now status turn.told.now
  pub lets : IfSome device.media (λ media. LetsWrite (image_of device.sizes media) turn.was.now turn.next.now row status there stamp homes)

-- ---- how it ends

-- so ends the whole where the members were written to
abbrev pub IsToldOf : TransitionEnd → JoinEnd → Type 0
IsToldOf (turned.Done written buf) result = result ≡ ended.Done written buf
IsToldOf (turned.WentOff have total written buf) result = result ≡ ended.WentOff have total written buf
IsToldOf turned.Dark result = result ≡ ended.Dark
IsToldOf turned.Stuck result = result ≡ ended.Stuck

-- by its answer
abbrev pub MakeJoinEnds : Transition → ℕ → Disks → ℕ → ℕ → Device → Device → JoinEnd → Type 0
MakeJoinEnds turn disk there number patience old new (ended.Done written buf) =
    ComesBack (with_disk disk there) (has written) number old new buf × IsTrue (has written disk) × CanWrite turn.was.now (has written) × CanWrite turn.next.now (has written)
MakeJoinEnds turn disk there number patience old new (ended.DiskFailed buf) =
    IsBack number old new buf × Rose (old.counts.faults disk) (new.counts.faults disk) × ((d : ℕ) → d ≢ disk → new.counts.starts d ≡ old.counts.starts d)
MakeJoinEnds turn disk there number patience old new (ended.WentOff have total written buf) =
    ComesBack (with_disk disk there) (has written) number old new buf × HasFewVotes turn.was.now turn.next.now (has written) have total
MakeJoinEnds turn disk there number patience old new ended.Dark = IsDarkened number old new
MakeJoinEnds turn disk there number patience old new ended.Stuck = IsGivenUp number patience old new

-- Whatever the answer: only the two records were brought to the disk and to these members; and where the disk may join, what was kept is kept at each moment, and nothing more is
-- found than the next descriptor.
pub record JoinGives (turn : Transition) (disk : ℕ) (there : Disks) (stamp : Stamp) (homes : Homes) (number before after : ℕ) (old new : Device) (result : JoinEnd) : Type 0 where
  pub ends : MakeJoinEnds turn disk there number before old new result
  pub keeps : KeepsShelf (with_disk disk there) (IsOfTransition turn (with_disk disk there) (next_stamp stamp) (next_stamp (next_stamp stamp))) old new
  pub spends : Spends before after old new
  pub kept : Path DeviceStep (λ d. IsBefore turn disk there stamp homes old → StaysKept old d) old new
  pub finds : IsBefore turn disk there stamp homes old → FindsNoMoreOn turn.next.now old new
