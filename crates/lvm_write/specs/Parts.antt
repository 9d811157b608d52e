-- The parts of a write of a record: one disk, and pieces of it.
use Rattle.std.specs.Prelude.{◌≡◌, ℕ, ◌+◌, ◌-◌, ◌<◌, ◌≤◌, ◌==◌, if◌then◌else◌, IfSome}
use Rattle.lvm_num.specs.Buffer.{Buffer}
use Rattle.lvm_num.specs.Disks.{Disks}
use Rattle.lvm_num.specs.Record.{frame, slot_start}
use Rattle.lvm_disk.specs.Counts.{Counts, Rose, RoseAt, RoseBy}
use Rattle.lvm_disk.specs.Device.{Device}
use Rattle.lvm_disk.specs.Paths.{DeviceStep, Path}
use Rattle.lvm_quorum.specs.passed.Transfer.{Plan, RecordWrite, IsOfRecord, Rests, Moved}
use Rattle.lvm_quorum.specs.passed.TransferMovesMoved as moved
use Rattle.lvm_write.specs.declared.write.SlotWrite.{SlotWrite}
use Rattle.lvm_write.specs.Written.{IsWriting, KeepsShelf, IsDarkened, IsGivenUp}

-- the write of the record to one slot of one disk
abbrev pub write_to : SlotWrite → RecordWrite
write_to one = record {
  kind = one.kind;
  framed = record { stamp = one.stamp; content = one.content.now };
  targets = λ d. d == one.disk;
  slots = λ d. if one.second then 1 else 0;
}

-- sectors of the record stand there, from one on and below another
abbrev pub PartsStand : RecordWrite → Device → ℕ → ℕ → ℕ → Type 0
PartsStand w device d from to =
    IfSome device.media (λ media. (k : ℕ) → from ≤ k → k < to → media d (slot_start w.kind (w.slots d) + k) ≡ frame w.kind w.framed.stamp w.framed.content k)

-- what an end counts: a failure at the disk alone, a loss of power
abbrev pub CountsEnd : ℕ → Counts → Counts → Moved → Type 0
CountsEnd disk old new (moved.Done buf) = (new.faults ≡ old.faults) × (new.cuts ≡ old.cuts)
CountsEnd disk old new (moved.Failed buf) = RoseAt disk old.faults new.faults × (new.cuts ≡ old.cuts)
CountsEnd disk old new (moved.Dark started) = (new.faults ≡ old.faults) × Rose old.cuts new.cuts
CountsEnd disk old new moved.Stuck = (new.faults ≡ old.faults) × (new.cuts ≡ old.cuts)

-- the buffer that comes back, where all ended well
abbrev pub IfMoved : Moved → (Buffer → Type 0) → Type 0
IfMoved (moved.Done buf) P = P buf
IfMoved (moved.Failed buf) P = Unit {0}
IfMoved (moved.Dark started) P = Unit {0}
IfMoved moved.Stuck P = Unit {0}

-- the buffer that comes back, if one does
abbrev pub IfReturned : Moved → (Buffer → Type 0) → Type 0
IfReturned (moved.Done buf) P = P buf
IfReturned (moved.Failed buf) P = P buf
IfReturned (moved.Dark started) P = Unit {0}
IfReturned moved.Stuck P = Unit {0}

-- how the shelf is left where the write was broken off
abbrev pub LeavesShelf : ℕ → ℕ → Device → Device → Moved → Type 0
LeavesShelf number patience old new (moved.Done buf) = Unit {0}
LeavesShelf number patience old new (moved.Failed buf) = Unit {0}
LeavesShelf number patience old new (moved.Dark started) = IsDarkened number old new
LeavesShelf number patience old new moved.Stuck = IsGivenUp number patience old new

-- the patience falls by what is waited
pub record Spends (before after : ℕ) (old new : Device) : Type 0 where
  pub falls : after ≤ before
  pub waits : RoseBy (before - after) old.counts.waits new.counts.waits

-- What some transfers, one after another, did that write to a disk; only the last of them may not have ended well.
pub record DoesPart (targets : Disks) (P : Plan) (disk : ℕ) (number before after : ℕ) (old new : Device) (how : Moved) : Type 0 where
  pub keeps : KeepsShelf targets P old new
  pub counts : CountsEnd disk old.counts new.counts how
  pub rests : Rests new how
  pub spends : Spends before after old new
  pub leaves : LeavesShelf number before old new how
  pub buffer : IfReturned how (λ back. back.number ≡ number)
  pub moments : Path DeviceStep (IsWriting P old) old new

-- they wrote the record
abbrev pub WritesPart : RecordWrite → ℕ → ℕ → ℕ → ℕ → Device → Device → Moved → Type 0
WritesPart w = DoesPart w.targets (IsOfRecord w)
