-- How the call ends by which a session writes zeros to a partition that no volume has.
use Rattle.std.specs.Prelude.{◌≡◌, ◌==◌, ℕ, ◌+◌, ◌*◌, ◌<◌, ◌≤◌, List, length, Some, slice_get, Result, Ok, Err, IfSome}
use Rattle.lvm_num.specs.declared.place.Pp.{Pp}
use Rattle.lvm_num.specs.Buffer.{Buffer, zero_sector}
use Rattle.lvm_num.specs.Geometry.{data_start, partition_blocks}
use Rattle.lvm_disk.specs.Counts.{Rose}
use Rattle.lvm_disk.specs.Device.{Device, IsReady}
use Rattle.lvm_kept.specs.Plans.{Plan}
use Rattle.lvm_commit.specs.passed.Transfer.{Moved}
use Rattle.lvm_commit.specs.passed.TransferMovesMoved as moved
use Rattle.lvm_write.specs.Parts.{DoesPart, IfMoved}
use Rattle.lvm_commit.specs.LawsOfData.{IsSectorOf}
use Rattle.lvm_commit.specs.LawsOfFinding.{FindsNothingNewOn}
use Rattle.lvm_core.specs.declared.fault.CommitFault.{CommitFault}
use Rattle.lvm_core.specs.declared.fault.CommitFault.TheVariants as fault
use Rattle.lvm_session.specs.State.{Core, State}
use Rattle.lvm_session.specs.Dark.{all_dark}
use Rattle.lvm_core.specs.Held.{IsHeld}
use Rattle.lvm_core.specs.Committing.{HasGoneDark, IsLeftOut, with_one_out}

-- zeros come to sectors of the partition
abbrev pub IsZeroOf : ℕ → Pp → Plan
IsZeroOf mib pp d s value = IsSectorOf mib pp d s × (value ≡ zero_sector)

-- its sectors are on a shelf with disks of these sizes
pub record HasSectorsOf (sizes : List ℕ) (mib : ℕ) (pp : Pp) : Type 0 where
  pub there : pp.disk < length sizes
  pub within : (size : ℕ) → slice_get sizes pp.disk ≡ Some size → data_start + partition_blocks mib * pp.pp + partition_blocks mib ≤ size

-- its sectors from one on and below another are zeros, where the media is told
abbrev pub AreZeroed : ℕ → Pp → ℕ → ℕ → Device → Type 0
AreZeroed mib pp from to device = IfSome device.media (λ media. (k : ℕ) → from ≤ k → k < to → media pp.disk (data_start + partition_blocks mib * pp.pp + k) ≡ zero_sector)

-- each sector of the buffer is of zeros
abbrev pub IsClear : Buffer → Type 0
IsClear buf = (k : ℕ) → k < 256 → slice_get buf.sectors k ≡ Some zero_sector

-- all of its sectors are zeros, where the media is told
abbrev pub IsZeroed : ℕ → Pp → Device → Type 0
IsZeroed mib pp device = IfSome device.media (λ media. (d s : ℕ) → IsSectorOf mib pp d s → media d s ≡ zero_sector)

-- The session is as it was, and nothing is under way.
pub record IsAsBefore (old new : State) : Type 0 where
  pub core : new.core ≡ old.core
  pub ready : IsReady new.device
  pub cuts : new.device.counts.cuts ≡ old.device.counts.cuts

-- the zeros stand, and no transfer of the disk failed
pub record HasZeroed (pp : Pp) (old new : State) : Type 0 where
  pub same : IsAsBefore old new
  pub zeros : IsZeroed old.core.descriptor.mib pp new.device
  pub well : new.device.counts.faults pp.disk ≡ old.device.counts.faults pp.disk

-- a transfer of the disk failed
pub record HasZeroFailed (pp : Pp) (disk : ℕ) (old new : State) : Type 0 where
  pub same : IsAsBefore old new
  pub disk_is : disk ≡ pp.disk
  pub fault : Rose (old.device.counts.faults disk) (new.device.counts.faults disk)

-- No record is written: the status and the slots are as they were, the disks hold what the session says where they did, and nothing is found that wasn't before.
pub record KeepsRecords (old new : State) : Type 0 where
  pub status : new.core.status ≡ old.core.status
  pub homes : new.core.homes ≡ old.core.homes
  pub held : IsHeld old.device old.core → IsHeld new.device new.core
  pub finds : FindsNothingNewOn old.device new.device

-- what a write of zeros answers
abbrev pub ZeroEnds : Pp → ℕ → State → State → Result (Unit {0}) CommitFault → Type 0
ZeroEnds pp patience old new (Ok done) = HasZeroed pp old new
ZeroEnds pp patience old new (Err (fault.DiskFailed disk)) = HasZeroFailed pp disk old new
ZeroEnds pp patience old new (Err fault.Dark) = HasGoneDark old new
ZeroEnds pp patience old new (Err fault.Stuck) = IsLeftOut patience old new
ZeroEnds pp patience old new (Err (fault.WentOff have total)) = ⊥

-- How a session goes on after its transfers: the buffer comes back, or is out and, after a power cut, the session has ended.
abbrev pub GoesOnAfter : ℕ → Core → Core → Moved → Result (Unit {0}) CommitFault → Type 0
GoesOnAfter disk old new (moved.Done back) answer = (answer ≡ Ok tt) × (new ≡ old)
GoesOnAfter disk old new (moved.Failed back) answer = (answer ≡ Err (fault.DiskFailed disk)) × (new ≡ old)
GoesOnAfter disk old new (moved.Dark started) answer = (answer ≡ Err fault.Dark) × (new ≡ all_dark (record old { pool = with_one_out old.pool }))
GoesOnAfter disk old new moved.Stuck answer = (answer ≡ Err fault.Stuck) × (new ≡ record old { pool = with_one_out old.pool })

-- Zeros were written with the buffer of number 0, up to the first transfer that didn't end well.
pub record WritesZeros (pp : Pp) (before after : ℕ) (old new : State) (answer : Result (Unit {0}) CommitFault) : Type 0 where
  pub how : Moved
  pub part : DoesPart (λ d. d == pp.disk) (IsZeroOf old.core.descriptor.mib pp) pp.disk 0 before after old.device new.device how
  pub zeros : IfMoved how (λ back. IsZeroed old.core.descriptor.mib pp new.device)
  pub goes : GoesOnAfter pp.disk old.core new.core how answer
