-- What reads of a disk's records change, and how they end.
use Rattle.std.specs.Prelude.{◌≡◌, ℕ, ◌+◌, ◌-◌, ◌<◌, ◌≤◌, Bool, true, false, List, [], ◌∷◌, length, take, drop, min, Result, Ok, Err, slice_index_or}
use Rattle.std.specs.Int.{w32, from_be_bytes}
use Rattle.lvm_disk.specs.passed.Num.{Buffer, data_start}
use Rattle.lvm_disk.specs.Counts.{RoseBy, Rose}
use Rattle.lvm_disk.specs.Device.{Flight, Device, IsReady}
use Rattle.lvm_disk.specs.Images.{LeavesNoMore}
use Rattle.lvm_disk.specs.Paths.{DeviceStep, Path}
use Rattle.lvm_disk.specs.Steps.{EndsDone}
use Rattle.lvm_transfer.specs.declared.reading.Stop.{Stop}
use Rattle.lvm_transfer.specs.declared.reading.Stop.TheVariants as stop
use Rattle.lvm_transfer.specs.declared.reading.Unread.{Unread}
use Rattle.lvm_transfer.specs.declared.reading.Unread.TheVariants as unread
use Rattle.lvm_transfer.specs.Transfer.{IsOut, StepsWhile, flight_of}

-- ---- what reads change

-- what stands on the disks and how large they are, the writes that were told, the arrangements and the faults are as before
pub record IsUnwritten (old new : Device) : Type 0 where
  pub sizes : new.sizes ≡ old.sizes
  pub media : new.media ≡ old.media
  pub wrote : new.wrote ≡ old.wrote
  pub arranges : new.arranges ≡ old.arranges
  pub orders : new.orders ≡ old.orders
  pub faults : new.counts.faults ≡ old.counts.faults

-- no transfer of the disk was started, and no read of its records failed
pub record IsUntouched (disk : ℕ) (old new : Device) : Type 0 where
  pub starts : new.counts.starts disk ≡ old.counts.starts disk
  pub misses : new.counts.misses disk ≡ old.counts.misses disk

-- Nothing was written: a crash at any moment leaves what it might have left at the first. Patience was lost by answers that nothing has ended, by one
-- for each, and by no other step.
pub record OnlyReads (before after : ℕ) (old new : Device) : Type 0 where
  pub unwritten : IsUnwritten old new
  pub falls : after ≤ before
  pub waited : RoseBy (before - after) old.counts.waits new.counts.waits
  pub steps : StepsWhile before old after new
  pub moments : Path DeviceStep (LeavesNoMore old) old new

-- nothing is out, and the power was on all the time
pub record IsRested (old new : Device) : Type 0 where
  pub ready : IsReady new
  pub cuts : new.counts.cuts ≡ old.counts.cuts

-- the power was cut and is off, and nothing is out
pub record IsCutOff (old new : Device) : Type 0 where
  pub power : new.power ≡ false
  pub flights : new.flights ≡ []
  pub cuts : Rose old.counts.cuts new.counts.cuts

-- Just one transfer is out, a write or a read, with the buffer of this number, of which nothing was heard until the patience had run out. The power is on as ever, and
-- no buffer was given up.
pub record IsUnheard (writes : Bool) (number patience : ℕ) (old new : Device) : Type 0 where
  pub flight : Flight
  pub flights : new.flights ≡ flight ∷ []
  pub write : flight.write ≡ writes
  pub buffer : flight.buf.number ≡ number
  pub freed : new.freed ≡ []
  pub power : new.power ≡ true
  pub cuts : new.counts.cuts ≡ old.counts.cuts
  pub waits : RoseBy patience old.counts.waits new.counts.waits

-- so a read is out
abbrev pub IsReadStuck : ℕ → ℕ → Device → Device → Type 0
IsReadStuck number patience old new = IsUnheard false number patience old new

-- how reads were ended before their end, with the buffer of this number
abbrev pub StopGives : ℕ → ℕ → Device → Device → Stop → Type 0
StopGives number patience old new (stop.Memory buf) = IsRested old new × (buf.number ≡ number)
StopGives number patience old new stop.Dark = IsCutOff old new
StopGives number patience old new stop.Stuck = IsReadStuck number patience old new

-- all reads of a disk's records that were made succeeded
pub record AllWereRead (disk : ℕ) (old new : Device) : Type 0 where
  pub rested : IsRested old new
  pub misses : new.counts.misses disk ≡ old.counts.misses disk

-- one of them failed
pub record OneReadFailed (disk : ℕ) (old new : Device) : Type 0 where
  pub rested : IsRested old new
  pub misses : Rose (old.counts.misses disk) (new.counts.misses disk)

-- why they weren't all read; where memory was wanting none had failed
abbrev pub UnreadGives : ℕ → ℕ → ℕ → Device → Device → Unread → Type 0
UnreadGives disk number patience old new (unread.Failed buf) = OneReadFailed disk old new × (buf.number ≡ number)
UnreadGives disk number patience old new (unread.Stopped (stop.Memory buf)) = AllWereRead disk old new × (buf.number ≡ number)
UnreadGives disk number patience old new (unread.Stopped stop.Dark) = IsCutOff old new
UnreadGives disk number patience old new (unread.Stopped stop.Stuck) = IsReadStuck number patience old new

-- how reads of a disk's records ended: all well, with the buffer of this number, or why not
abbrev pub ReadsAnswer : ℕ → ℕ → ℕ → Device → Device → Result Buffer Unread → Type 0
ReadsAnswer disk number patience old new (Ok back) = AllWereRead disk old new × (back.number ≡ number)
ReadsAnswer disk number patience old new (Err why) = UnreadGives disk number patience old new why

-- what reads of this disk's records did, and how they ended: nothing was written, and no other disk was touched
pub record ReadsEnd (disk number before after : ℕ) (old new : Device) (ended : Result Buffer Unread) : Type 0 where
  pub only : OnlyReads before after old new
  pub elsewhere : (d : ℕ) → (d ≡ disk → ⊥) → IsUntouched d old new
  pub gives : ReadsAnswer disk number before old new ended

-- the buffer that comes back beside what was read
abbrev pub only_buffer : {X : Type 0} → Result (X × Buffer) Unread → Result Buffer Unread
only_buffer (Ok got) = Ok got.1
only_buffer (Err why) = Err why

-- ---- what was read

-- this range of a disk was read, by one transfer
pub record OneWasRead (disk first count : ℕ) (old new : Device) : Type 0 where
  pub ticket : ℕ
  pub buf : Buffer
  pub back : Buffer
  pub now : Device
  pub out : IsOut old now (flight_of ticket false disk first count buf)
  pub ends : EndsDone now new ticket back

-- so many of these sectors of a disk were read, in turn, by transfers of 256 each, of which the last may have fewer
pub data ReadSoFar (disk first count : ℕ) (old : Device) : ℕ → Device → Type 0 where
  NoneYet : ReadSoFar disk first count old 0 old
  OneMore : (done piece : ℕ) {now new : Device} → ReadSoFar disk first count old done now → done < count → piece ≡ min 256 (count - done) → OneWasRead disk (first + done) piece now new → ReadSoFar disk first count old (done + piece) new

-- all of them were
abbrev pub SectorsRead : ℕ → ℕ → ℕ → Device → Device → Type 0
SectorsRead disk first count old new = ReadSoFar disk first count old count new

-- ---- where it is read

-- the disk is there, and these sectors of it are of its record area
pub record IsInRecords (device : Device) (disk first count : ℕ) : Type 0 where
  pub there : disk < length device.sizes
  pub within : first + count ≤ slice_index_or device.sizes disk 0
  pub below : first + count ≤ data_start

-- the length that the first sector of a slot says that its record has
abbrev pub announced_length : List ℕ → ℕ
announced_length slot = from_be_bytes w32 (take 4 (drop 16 slot))
