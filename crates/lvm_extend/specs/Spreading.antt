-- The members that aren't missing get both records behind the disk that joins.
use Rattle.std.specs.Prelude.{◌≡◌, ◌≢◌, ℕ, ◌+◌, ◌<◌, ◌^◌, false, IfSome, IsTrue}
use Rattle.lvm_num.specs.declared.record.Kind.{Kind}
use Rattle.lvm_num.specs.declared.record.Kind.TheVariants as kind
use Rattle.lvm_num.specs.declared.record.Stamp.{Stamp}
use Rattle.lvm_num.specs.declared.descriptor.PvRow.{PvRow}
use Rattle.lvm_num.specs.declared.status.Status.{Status}
use Rattle.lvm_num.specs.Descriptor.{IsValid}
use Rattle.lvm_num.specs.Disks.{Disks, has}
use Rattle.lvm_num.specs.Votes.{CanWrite}
use Rattle.lvm_disk.specs.Device.{Device, IsReady, HasSectors, image_of}
use Rattle.lvm_disk.specs.Paths.{DeviceStep, Path}
use Rattle.lvm_disk.specs.Steps.{BothTold}
use Rattle.lvm_kept.specs.Plans.{ChangesBy}
use Rattle.lvm_status.specs.Rerowed.{IsRerowed}
use Rattle.lvm_steps.specs.Moments.{StaysKept}
use Rattle.lvm_rec.specs.declared.homes.Homes.{Homes}
use Rattle.lvm_rec.specs.Homes.{second_slots}
use Rattle.lvm_write.specs.Parts.{Spends}
use Rattle.lvm_write.specs.Written.{HaveRoom, KeepsShelf, StandsTold, IsDarkened, IsGivenUp}
use Rattle.lvm_commit.specs.Committed.{next_stamp}
use Rattle.lvm_commit.specs.LawsOfFinding.{FindsNoMoreOn}
use Rattle.lvm_change.specs.declared.turn.Transition.{Transition}
use Rattle.lvm_change.specs.declared.turn.TransitionEnd.{TransitionEnd}
use Rattle.lvm_change.specs.declared.turn.TransitionEnd.TheVariants as turned
use Rattle.lvm_change.specs.Transition.{AreRecords, HasFewVotes, ComesBack, IsOfTransition}
use Rattle.lvm_extend_laws.specs.Joining.{with_disk}
use Rattle.lvm_extend_laws.specs.Writing.{descriptor_write, status_write, IsOfJoining, LetsWrite}
use Rattle.lvm_extend.specs.Admission.{join_records}

-- ---- from where it began

-- The disks of this device held the group as committed, and the disk might join it. Since then only sectors of the two records were brought, and both stand whole on that disk.
pub record IsUnderWay (turn : Transition) (disk : ℕ) (all : Disks) (stamp : Stamp) (homes : Homes) (begun now : Device) : Type 0 where
  pub sectors : HasSectors begun
  pub row : PvRow
  pub its : row.disk ≡ disk
  pub status : Status
  pub told : IsRerowed turn.next.now status turn.told.now
  pub lets : IfSome begun.media (λ media. LetsWrite (image_of begun.sizes media) turn.was.now turn.next.now row status all stamp homes)
  pub brought : BothTold begun.media now.media (λ was is. ChangesBy (IsOfJoining (join_records turn stamp) disk all homes) (image_of begun.sizes was) (image_of now.sizes is))
  pub first : StandsTold (descriptor_write (join_records turn stamp) disk all homes) now disk
  pub stated : StandsTold (status_write (join_records turn stamp) disk all homes) now disk

-- the next records of the kind go to the slots to which they went then, on all other disks
abbrev pub SparesAs : Kind → ℕ → Homes → Homes → Type 0
SparesAs k disk slots homes = (d : ℕ) → d ≢ disk → second_slots k slots d ≡ second_slots k homes d

-- ---- one record

-- What lets a record of this kind be written to these members behind it.
pub record MaySpread (turn : Transition) (disk : ℕ) (there : Disks) (stamp : Stamp) (device : Device) : Type 0 where
  pub ready : IsReady device
  pub records : AreRecords turn
  pub valid : IsValid turn.was.now
  pub valid_next : IsValid turn.next.now
  pub low : disk < 128
  pub apart : there disk ≡ false
  pub room : HaveRoom device there
  pub epoch : stamp.epoch ≢ 0
  pub bound : stamp.epoch < 2 ^ 64
  pub numbers : stamp.seq + 2 < 2 ^ 32

-- what was kept at the beginning is kept, wherever that was, if the way led here and these slots come next
abbrev pub StaysKeptFrom : Transition → ℕ → Disks → Stamp → Homes → (Kind → Type 0) → Device → Device → Type 0
StaysKeptFrom turn disk there stamp slots Left now later =
    (all : Disks) (homes : Homes) (begun : Device) → IsUnderWay turn disk all stamp homes begun now → ((d : ℕ) → IsTrue (there d) → IsTrue (all d)) → ((k : Kind) → Left k → SparesAs k disk slots homes)
    → StaysKept begun later

-- so nothing more is found than was at the beginning, but for the next descriptor
abbrev pub FindsNoMoreFrom : Transition → ℕ → Disks → Stamp → Homes → (Kind → Type 0) → Device → Device → Type 0
FindsNoMoreFrom turn disk there stamp slots Left now later =
    (all : Disks) (homes : Homes) (begun : Device) → IsUnderWay turn disk all stamp homes begun now → ((d : ℕ) → IsTrue (there d) → IsTrue (all d)) → ((k : Kind) → Left k → SparesAs k disk slots homes)
    → FindsNoMoreOn turn.next.now begun later

-- ---- how it ends

-- Done with the disk that joins and members that have votes enough by both descriptors, or off with their votes by the first that isn't met.
abbrev pub SpreadEnds : Transition → ℕ → Disks → ℕ → ℕ → Device → Device → TransitionEnd → Type 0
SpreadEnds turn disk there number patience old new (turned.Done written buf) =
    ComesBack (with_disk disk there) (has written) number old new buf × IsTrue (has written disk) × CanWrite turn.was.now (has written) × CanWrite turn.next.now (has written)
SpreadEnds turn disk there number patience old new (turned.WentOff have total written buf) =
    ComesBack (with_disk disk there) (has written) number old new buf × HasFewVotes turn.was.now turn.next.now (has written) have total
SpreadEnds turn disk there number patience old new turned.Dark = IsDarkened number old new
SpreadEnds turn disk there number patience old new turned.Stuck = IsGivenUp number patience old new

-- Whatever the answer: only the two records were brought to these members; what was kept at the beginning is kept at each moment, and nothing more is found than the next
-- descriptor.
pub record Spreads (turn : Transition) (disk : ℕ) (there : Disks) (stamp : Stamp) (Left : Kind → Type 0) (homes : Homes) (number before after : ℕ) (old new : Device) (result : TransitionEnd) : Type 0 where
  pub ends : SpreadEnds turn disk there number before old new result
  pub keeps : KeepsShelf there (IsOfTransition turn there (next_stamp stamp) (next_stamp (next_stamp stamp))) old new
  pub spends : Spends before after old new
  pub kept : Path DeviceStep (StaysKeptFrom turn disk there stamp homes Left old) old new
  pub finds : FindsNoMoreFrom turn disk there stamp homes Left old new

-- both kinds are to be written, or that of descriptors
abbrev pub Both : Kind → Type 0
Both k = Unit {0}

abbrev pub Last : Kind → Type 0
Last k = k ≡ kind.Descriptor
