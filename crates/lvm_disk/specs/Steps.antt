-- What each call of a shelf does to it.
use Rattle.std.specs.Prelude.{◌≡◌, ◌⊎◌, ℕ, ◌+◌, ◌-◌, ◌^◌, ◌<◌, ◌≤◌, ◌++◌, Bool, true, false, List, [], ◌∷◌, length, map, drop, Option, Some, None, if◌then◌else◌, min, slice_get, slice_set, slice_index_or, unwrap_or, IfSome}
use Rattle.std.specs.Bool.{MatchBool}
use Rattle.lvm_num.specs.Buffer.{Buffer}
use Rattle.lvm_disk.specs.Counts.{Rose, RoseAt, Counts, next_count}
use Rattle.lvm_disk.specs.Device.{Media, Flight, Range, Ordered, Device, written, IsTorn}
use Rattle.lvm_disk.specs.declared.shelf.Started.{Started}
use Rattle.lvm_disk.specs.declared.shelf.Started.TheVariants as started
use Rattle.lvm_disk.specs.declared.shelf.Reaped.{Reaped}
use Rattle.lvm_disk.specs.declared.shelf.Reaped.TheVariants as reaped
use Rattle.lvm_disk.specs.declared.shelf.Arrange.{Arrange}
use Rattle.lvm_disk.specs.declared.shelf.Arrange.TheVariants as arrange

-- A shelf that tells its media goes on telling it, and one that doesn't never does.
abbrev pub BothTold : Option Media → Option Media → (Media → Media → Type 0) → Type 0
BothTold None None R = Unit {0}
BothTold (Some old) (Some new) R = R old new
BothTold None (Some new) R = ⊥
BothTold (Some old) None R = ⊥

-- ---- starts

-- the range lies within the disk, and has as many sectors as one transfer may have
pub record IsRange (device : Device) (disk first count : ℕ) : Type 0 where
  pub there : disk < length device.sizes
  pub some : 1 ≤ count
  pub most : count ≤ 256
  pub within : (size : ℕ) → slice_get device.sizes disk ≡ Some size → first + count ≤ size

-- no flight that is out has this ticket
abbrev pub IsNewTicket : ℕ → List Flight → Type 0
IsNewTicket ticket [] = Unit {0}
IsNewTicket ticket (f ∷ flights) = (f.ticket ≡ ticket → ⊥) × IsNewTicket ticket flights

-- The list of started write ranges has one more, or is told no more. Once untold it stays so.
abbrev pub Logs : Option (List Range) → Range → Option (List Range) → Type 0
Logs None range None = Unit {0}
Logs None range (Some new) = ⊥
Logs (Some old) range None = Unit {0}
Logs (Some old) range (Some new) = new ≡ old ++ range ∷ []

-- one flight more, with the power on
pub record Starts (old new : Device) (f : Flight) : Type 0 where
  pub power : old.power ≡ true
  pub fresh : IsNewTicket f.ticket old.flights
  pub starts : RoseAt f.disk old.counts.starts new.counts.starts
  pub wrote : MatchBool f.write (Logs old.wrote (record { disk = f.disk; first = f.first; count = f.count }) new.wrote) (new.wrote ≡ old.wrote)
  pub new_is : new ≡ record old { flights = old.flights ++ f ∷ []; counts = record old.counts { starts = new.counts.starts }; wrote = new.wrote }

-- ---- power cuts

-- All flights are given up, some crash image is left, and the power is off. A shelf that heeds orders alone was ordered to.
pub record Cuts (old new : Device) : Type 0 where
  pub power : old.power ≡ true
  pub media : BothTold old.media new.media (λ m n. IsTorn m old.flights n)
  pub cuts : Rose old.counts.cuts new.counts.cuts
  pub once : new.counts.cuts ≡ next_count old.counts.cuts
  pub ordered : IfSome old.orders.alone (λ ordered. new.counts.cuts ≡ ordered.cuts)
  pub new_is : new ≡ record old { media = new.media; flights = []; freed = old.freed ++ map (λ f. f.buf) old.flights; power = false; counts = record old.counts { cuts = new.counts.cuts } }

-- the power was off already and nothing happens, or it is cut
abbrev pub GoesDark : Device → Device → Type 0
GoesDark old new = ((old.power ≡ false) × (new ≡ old)) ⊎ Cuts old new

-- what a start may answer
abbrev pub StartGives : Device → Device → ℕ → ℕ → ℕ → Bool → Buffer → Started → Type 0
StartGives old new disk first count write buf (started.Ticket t) = Starts old new (record { ticket = t; disk = disk; first = first; count = count; write = write; buf = buf })
StartGives old new disk first count write buf (started.Dark back) = (back ≡ buf) × (new.power ≡ false) × GoesDark old new

-- ---- ends

-- the flight was out, and the others still are
pub record Removes (f : Flight) (old new : List Flight) : Type 0 where
  pub before : List Flight
  pub after : List Flight
  pub was : old ≡ before ++ f ∷ after
  pub is : new ≡ before ++ after

-- all of a write's sectors stand on the media
abbrev pub Puts : Flight → Media → Media → Type 0
Puts f old new = (d s : ℕ) → new d s ≡ unwrap_or (written f d s) (old d s)

-- some of a write's sectors do
abbrev pub PutsSome : Flight → Media → Media → Type 0
PutsSome f old new = (d s : ℕ) → (new d s ≡ old d s) ⊎ (written f d s ≡ Some (new d s))

-- the buffer has what stands in the flight's range
abbrev pub ReadsRange : Media → Flight → Buffer → Type 0
ReadsRange media f buf = (i : ℕ) → i < f.count → slice_get buf.sectors i ≡ Some (media f.disk (f.first + i))

-- the buffer is the one that went out, but for its first sectors
pub record ChangedAtMost (count : ℕ) (old new : Buffer) : Type 0 where
  pub number : new.number ≡ old.number
  pub long : length new.sectors ≡ length old.sectors
  pub rest : drop count new.sectors ≡ drop count old.sectors

-- A flight ended well: a write's sectors stand on the media, a read's buffer has what stands there.
pub record EndsDone (old new : Device) (ticket : ℕ) (buf : Buffer) : Type 0 where
  pub flight : Flight
  pub power : old.power ≡ true
  pub its : flight.ticket ≡ ticket
  pub flights : Removes flight old.flights new.flights
  pub media : BothTold old.media new.media (Puts flight)
  pub kept : flight.write ≡ true → buf ≡ flight.buf
  pub read : flight.write ≡ false → IfSome old.media (λ m. ReadsRange m flight buf)
  pub rest : ChangedAtMost flight.count flight.buf buf
  pub new_is : new ≡ record old { media = new.media; flights = new.flights }

-- a read that begins in the record area; its failure is a miss, and that of any other transfer a fault
abbrev pub IsRecordRead : Flight → Type 0
IsRecordRead f = (f.write ≡ false) × (f.first < 4096)

-- the misses of the disk rose, and no other count
pub record IsMiss (disk : ℕ) (old new : Counts) : Type 0 where
  pub misses : RoseAt disk old.misses new.misses
  pub new_is : new ≡ record old { misses = new.misses }

-- the faults of the disk rose, and no other count
pub record IsFault (disk : ℕ) (old new : Counts) : Type 0 where
  pub faults : RoseAt disk old.faults new.faults
  pub new_is : new ≡ record old { faults = new.faults }

-- the failure of a flight is counted
abbrev pub CountsFailure : Flight → Counts → Counts → Type 0
CountsFailure f old new = (IsRecordRead f × IsMiss f.disk old new) ⊎ ((IsRecordRead f → ⊥) × IsFault f.disk old new)

-- A flight failed: any of a write's sectors stand on the media, and a read's buffer may have anything. On a shelf that heeds orders alone its disk was ordered to fail.
pub record EndsFailed (old new : Device) (ticket : ℕ) (buf : Buffer) : Type 0 where
  pub flight : Flight
  pub power : old.power ≡ true
  pub its : flight.ticket ≡ ticket
  pub flights : Removes flight old.flights new.flights
  pub media : BothTold old.media new.media (PutsSome flight)
  pub kept : flight.write ≡ true → buf ≡ flight.buf
  pub number : buf.number ≡ flight.buf.number
  pub counts : CountsFailure flight old.counts new.counts
  pub ordered : IfSome old.orders.alone (λ ordered. slice_index_or ordered.failing flight.disk false ≡ true)
  pub new_is : new ≡ record old { media = new.media; flights = new.flights; counts = new.counts }

-- A flight is out, none ended, and the waits rose by one. A shelf that heeds orders alone never waits.
pub record Waits (old new : Device) : Type 0 where
  pub power : old.power ≡ true
  pub unordered : old.orders.alone ≡ None
  pub out : 0 < length old.flights
  pub waits : Rose old.counts.waits new.counts.waits
  pub once : new.counts.waits ≡ next_count old.counts.waits
  pub new_is : new ≡ record old { counts = record old.counts { waits = new.counts.waits } }

-- what a reap may answer
abbrev pub ReapGives : Device → Device → Reaped → Type 0
ReapGives old new reaped.Empty = Waits old new
ReapGives old new (reaped.Done ticket buf) = EndsDone old new ticket buf
ReapGives old new (reaped.Failed ticket buf) = EndsFailed old new ticket buf
ReapGives old new (reaped.Dark freed) = GoesDark old new × (new.power ≡ false) × (freed ≡ length new.freed)

-- ---- after a power cut

-- the first of the buffers that were given up, or none where none is left
abbrev pub FreedGives : Device → Device → Option Buffer → Type 0
FreedGives old new None = (old.freed ≡ []) × (new ≡ old)
FreedGives old new (Some buf) = old ≡ record new { freed = buf ∷ new.freed }

-- the power is put on
abbrev pub Lights : Device → Device → Type 0
Lights old new = new ≡ record old { power = true }

-- ---- arrangements

-- a disk that is to fail or to heal is there
abbrev pub MayArrange : Device → Arrange → Type 0
MayArrange device (arrange.Fail disk) = disk < length device.sizes
MayArrange device (arrange.Heal disk) = disk < length device.sizes
MayArrange device (arrange.Cut word) = Unit {0}

-- what it makes of a shelf that heeds orders alone, with its power on or off; one that is off is cut no more
abbrev pub after_order : Bool → Arrange → Ordered → Ordered
after_order power (arrange.Fail disk) ordered = record ordered { fails = next_count ordered.fails; failing = slice_set ordered.failing disk true }
after_order power (arrange.Heal disk) ordered = record ordered { failing = slice_set ordered.failing disk false }
after_order power (arrange.Cut word) ordered = record ordered { cuts = if power then next_count ordered.cuts else ordered.cuts }

-- the same, where the shelf tells it
abbrev pub ordered_by : Bool → Arrange → Option Ordered → Option Ordered
ordered_by power what None = None
ordered_by power what (Some ordered) = Some (after_order power what ordered)

-- one arrangement more, and it is the last
abbrev pub with_order : Device → Arrange → Device
with_order device what = record device { orders = record { made = min (device.orders.made + 1) (2 ^ 64 - 1); last = Some what; alone = ordered_by device.power what device.orders.alone } }

-- An arrangement is made. A cut happens at once.
abbrev pub Arranges : Device → Device → Arrange → Type 0
Arranges old new (arrange.Fail disk) = new ≡ with_order old (arrange.Fail disk)
Arranges old new (arrange.Heal disk) = new ≡ with_order old (arrange.Heal disk)
Arranges old new (arrange.Cut word) = (new.power ≡ false) × GoesDark (with_order old (arrange.Cut word)) new

-- what an arrangement may answer
abbrev pub ArrangeGives : Device → Device → Arrange → Bool → Type 0
ArrangeGives old new what true = (old.arranges ≡ true) × Arranges old new what
ArrangeGives old new what false = (old.arranges ≡ false) × (new ≡ old)
