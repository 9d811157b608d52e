-- How a group turns to its next descriptor, by which it has another rule of votes or another size, or fewer members.
use Rattle.std.specs.Prelude.{◌≡◌, ◌≢◌, ◌⊎◌, ℕ, ◌+◌, ◌<◌, ◌≤◌, ◌^◌, length, IfSome, IsTrue, IsFalse}
use Rattle.lvm_num.specs.declared.record.Kind.TheVariants as kind
use Rattle.lvm_num.specs.declared.record.Stamp.{Stamp}
use Rattle.lvm_num.specs.declared.descriptor.Descriptor.{Descriptor}
use Rattle.lvm_num.specs.declared.status.Status.{Status}
use Rattle.lvm_num.specs.Buffer.{Buffer, Sector}
use Rattle.lvm_num.specs.Disks.{Disks, has}
use Rattle.lvm_num.specs.Descriptor.{IsValid}
use Rattle.lvm_num.specs.DescriptorBytes.{descriptor_bytes}
use Rattle.lvm_num.specs.Record.{Frames, longest_content}
use Rattle.lvm_num.specs.Status.{IsValidStatus}
use Rattle.lvm_num.specs.StatusBytes.{status_bytes}
use Rattle.lvm_num.specs.Votes.{votes_in, total_votes, is_enough_to_write, CanWrite}
use Rattle.lvm_disk.specs.Counts.{Rose}
use Rattle.lvm_disk.specs.Device.{Device, IsReady, image_of}
use Rattle.lvm_disk.specs.Paths.{DeviceStep, Path}
use Rattle.lvm_kept.specs.Contents.{contents_of}
use Rattle.lvm_kept.specs.Torn.{RecordWrite, IsOfRecord}
use Rattle.lvm_status.specs.Rerowed.{IsRerowed}
use Rattle.lvm_steps.specs.Moments.{StaysKept}
use Rattle.lvm_rec.specs.declared.homes.Homes.{Homes}
use Rattle.lvm_write.specs.Parts.{Spends}
use Rattle.lvm_write.specs.Written.{HaveRoom, KeepsShelf, IsDarkened, IsGivenUp}
use Rattle.lvm_commit.specs.Committed.{next_stamp, HoldsCommitted}
use Rattle.lvm_commit.specs.LawsOfFinding.{FindsNoMoreOn}
use Rattle.lvm_change_laws.specs.Rule.{MayChange, IsOpenTo, members_among, IsShownOn}
use Rattle.lvm_change.specs.declared.turn.Transition.{Transition}
use Rattle.lvm_change.specs.declared.turn.TransitionEnd.{TransitionEnd}
use Rattle.lvm_change.specs.declared.turn.TransitionEnd.TheVariants as turned

-- ---- before it

-- The bytes are those of the status and of the next descriptor, which fit their slots.
pub record AreRecords (turn : Transition) : Type 0 where
  pub told : IsValidStatus turn.told.now
  pub status : turn.status.now ≡ status_bytes turn.told.now
  pub content : turn.content.now ≡ descriptor_bytes turn.next.now
  pub status_fits : length turn.status.now ≤ longest_content kind.Status
  pub fits : length turn.content.now ≤ longest_content kind.Descriptor

-- What lets a group turn, of which these members aren't missing, behind the record of this stamp.
pub record MayMakeTransition (turn : Transition) (there : Disks) (stamp : Stamp) (device : Device) : Type 0 where
  pub ready : IsReady device
  pub records : AreRecords turn
  pub leaves : Disks
  pub change : MayChange leaves turn.was.now turn.next.now there
  pub room : HaveRoom device there
  pub epoch : stamp.epoch ≢ 0
  pub bound : stamp.epoch < 2 ^ 64
  pub numbers : stamp.seq + 2 < 2 ^ 32

-- What lets the descriptor be written behind the status that has this stamp.
pub record MayDescribe (turn : Transition) (there : Disks) (stamp : Stamp) (device : Device) : Type 0 where
  pub ready : IsReady device
  pub records : AreRecords turn
  pub valid : IsValid turn.was.now
  pub valid_next : IsValid turn.next.now
  pub room : HaveRoom device there
  pub epoch : stamp.epoch ≢ 0
  pub bound : stamp.epoch < 2 ^ 64
  pub numbers : stamp.seq + 1 < 2 ^ 32

-- ---- what the disks hold

-- they hold this group and this status as committed, where the media is told
abbrev pub HoldsBy : Device → Descriptor → Status → Disks → Stamp → Homes → Type 0
HoldsBy device group status there stamp homes = IfSome device.media (λ media. HoldsCommitted (image_of device.sizes media) group status there stamp homes)

-- before a turn they hold a status that says the same of the group's copies
abbrev pub IsBefore : Transition → Disks → Stamp → Homes → Device → Type 0
IsBefore turn there stamp homes device = (status : Status) × IsRerowed turn.next.now status turn.told.now × HoldsBy device turn.was.now status there stamp homes

-- between its records they hold the status itself, and are open to the next descriptor
abbrev pub IsBetween : Transition → Disks → Stamp → Homes → Device → Type 0
IsBetween turn there stamp homes device =
    HoldsBy device turn.was.now turn.told.now there stamp homes × IfSome device.media (λ media. IsOpenTo (contents_of (image_of device.sizes media)) turn.was.now turn.next.now there)

-- ---- what is written

-- the sector is one of the status or of the descriptor, under these two stamps, in a slot of one of these disks
pub record IsOfTransition (turn : Transition) (there : Disks) (first second : Stamp) (d s : ℕ) (value : Sector) : Type 0 where
  pub write : RecordWrite
  pub frames : Frames write.kind write.framed
  pub which : ((write.kind ≡ kind.Status) × (write.framed ≡ record { stamp = first; content = status_bytes turn.told.now }))
      ⊎ ((write.kind ≡ kind.Descriptor) × (write.framed ≡ record { stamp = second; content = descriptor_bytes turn.next.now }))
  pub slots : (disk : ℕ) → write.slots disk < 2
  pub targets : (disk : ℕ) → IsTrue (write.targets disk) → IsTrue (there disk)
  pub its : IsOfRecord write d s value

-- ---- how it ends

-- The disks have so many votes of so many by the first of the two descriptors that isn't met, too few to write.
pub record HasFewVotes (group next : Descriptor) (written : Disks) (have total : ℕ) : Type 0 where
  pub by : Descriptor
  pub first : (by ≡ group) ⊎ ((by ≡ next) × CanWrite group written)
  pub have_is : have ≡ votes_in by written
  pub total_is : total ≡ total_votes by
  pub few : IsFalse (is_enough_to_write by have)

-- whether disks have votes enough to write by both descriptors
abbrev pub IsByBoth : Descriptor → Descriptor → Disks → Buffer → TransitionEnd → Type 0
IsByBoth group next set buf (turned.Done written back) = (back ≡ buf) × (has written ≡ set) × CanWrite group set × CanWrite next set
IsByBoth group next set buf (turned.WentOff have total written back) = (back ≡ buf) × (has written ≡ set) × HasFewVotes group next set have total
IsByBoth group next set buf turned.Dark = ⊥
IsByBoth group next set buf turned.Stuck = ⊥

-- The buffer of this number is back, nothing is out, and the power was on all the time; on the disks that were written no transfer failed, and on each other one of those that
-- were there one has.
pub record ComesBack (there written : Disks) (number : ℕ) (old new : Device) (buf : Buffer) : Type 0 where
  pub ready : IsReady new
  pub cuts : new.counts.cuts ≡ old.counts.cuts
  pub number_is : buf.number ≡ number
  pub within : (d : ℕ) → IsTrue (written d) → IsTrue (there d)
  pub well : (d : ℕ) → IsTrue (written d) → new.counts.faults d ≡ old.counts.faults d
  pub badly : (d : ℕ) → IsTrue (there d) → IsFalse (written d) → Rose (old.counts.faults d) (new.counts.faults d)

-- These disks have votes enough to write by both descriptors; where the disks held what was committed the next one's members among them now hold it and its status, and each of
-- them shows it, in the slot to which it went.
pub record HasChanged (turn : Transition) (Before : Type 0) (written : Disks) (last : Stamp) (homes slots : Homes) (new : Device) : Type 0 where
  pub enough : CanWrite turn.was.now written
  pub enough_too : CanWrite turn.next.now written
  pub held : Before → HoldsBy new turn.next.now turn.told.now (members_among turn.next.now written) last slots
  pub shown : Before → IfSome new.media (λ media. (disk : ℕ) → IsTrue (written disk) → IsShownOn (image_of new.sizes media) turn.next.now homes disk)

-- how it ends, by its answer
abbrev pub IsTransitionEnd : Transition → Type 0 → Disks → Stamp → Homes → Homes → ℕ → ℕ → Device → Device → TransitionEnd → Type 0
IsTransitionEnd turn Before there last homes slots number patience old new (turned.Done written buf) = ComesBack there (has written) number old new buf × HasChanged turn Before (has written) last homes slots new
IsTransitionEnd turn Before there last homes slots number patience old new (turned.WentOff have total written buf) =
    ComesBack there (has written) number old new buf × HasFewVotes turn.was.now turn.next.now (has written) have total
IsTransitionEnd turn Before there last homes slots number patience old new turned.Dark = IsDarkened number old new
IsTransitionEnd turn Before there last homes slots number patience old new turned.Stuck = IsGivenUp number patience old new

-- ---- all of it

-- Whatever the answer: only the two records were brought to these disks, what was kept is kept at each moment, and nothing more is found than the next descriptor, where the
-- disks held what was committed.
pub record Turns (turn : Transition) (Before : Type 0) (there : Disks) (first second : Stamp) (homes slots : Homes) (number before after : ℕ) (old new : Device) (result : TransitionEnd) : Type 0 where
  pub ends : IsTransitionEnd turn Before there second homes slots number before old new result
  pub keeps : KeepsShelf there (IsOfTransition turn there first second) old new
  pub spends : Spends before after old new
  pub kept : Path DeviceStep (λ d. Before → StaysKept old d) old new
  pub finds : Before → FindsNoMoreOn turn.next.now old new

-- what a turn does behind the record of this stamp,
abbrev pub TransitionGives : Transition → Disks → Stamp → Homes → Homes → ℕ → ℕ → ℕ → Device → Device → TransitionEnd → Type 0
TransitionGives turn there stamp homes slots number before after old new result =
    Turns turn (IsBefore turn there stamp homes old) there (next_stamp stamp) (next_stamp (next_stamp stamp)) homes slots number before after old new result

-- and its second half behind that of the status
abbrev pub DescriptionGives : Transition → Disks → Stamp → Homes → Homes → ℕ → ℕ → ℕ → Device → Device → TransitionEnd → Type 0
DescriptionGives turn there stamp homes slots number before after old new result =
    Turns turn (IsBetween turn there stamp homes old) there stamp (next_stamp stamp) homes slots number before after old new result
