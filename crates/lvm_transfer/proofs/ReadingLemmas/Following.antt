-- Reads of a disk's records that follow each other.
use Rattle.std.proofs.Common.{◌≡◌, ◌+◌, ◌-◌, ◌<◌, ◌≤◌, ℕ, Bool, false, List, length, Option, Some, IfSome, Result, Ok, Err, slice_get, slice_index_or, refl, sym, ◌∙◌, subst, arith}
use Rattle.lvm_disk.specs.passed.Num.{Buffer}
use Rattle.lvm_disk.specs.Counts.{Rose, RoseBy}
use Rattle.lvm_disk.specs.Device.{Media, Device, IsReady}
use Rattle.lvm_disk.specs.Paths.{Here}
use Rattle.lvm_disk.specs.Steps.{IsRange}
use Rattle.lvm_disk.proofs.PathsLemmas.{leaves_on}
use Rattle.lvm_transfer.specs.declared.reading.Stop.{Stop}
use Rattle.lvm_transfer.specs.declared.reading.Stop.TheVariants as stop
use Rattle.lvm_transfer.specs.declared.reading.Unread.{Unread}
use Rattle.lvm_transfer.specs.declared.reading.Unread.TheVariants as unread
use Rattle.lvm_transfer.specs.Reading.{IsUntouched, OnlyReads, IsRested, IsInRecords, IsUnheard, IsReadStuck, AllWereRead, ReadsAnswer, ReadsEnd, StopGives}
use Rattle.lvm_transfer.specs.Transfer.{NoStep}
use Rattle.lvm_transfer.proofs.RecordLemmas.{or_got}
use Rattle.lvm_transfer.proofs.ReadingLemmas.Transferring.{unwritten_more}
use Rattle.lvm_transfer.proofs.TransferLemmas.Waiting.{steps_more}

-- ---- nothing yet

pub only_none : (patience : ℕ) (old : Device) → OnlyReads patience patience old old
only_none patience old = record {
  unwritten = record { sizes = refl; media = refl; wrote = refl; arranges = refl; orders = refl; faults = refl };
  falls = omega arith;
  waited = record { later = omega arith; risen = omega arith };
  steps = NoStep;
  moments = Here (λ image may. may);
}

pub untouched_none : (d : ℕ) (old : Device) → IsUntouched d old old
untouched_none d old = record { starts = refl; misses = refl }

pub rested_none : (old : Device) → IsReady old → IsRested old old
rested_none old ready = record { ready = ready; cuts = refl }

-- ---- then more

waited_more : (a b c x y z : ℕ) → b ≤ a → c ≤ b → RoseBy (a - b) x y → RoseBy (b - c) y z → RoseBy (a - c) x z
waited_more a b c x y z low lower one two = record { later = omega (arith, one.later, two.later); risen = omega (arith, one.later, one.risen, two.later, two.risen) }

pub only_more : (a b c : ℕ) (old mid new : Device) → OnlyReads a b old mid → OnlyReads b c mid new → OnlyReads a c old new
only_more a b c old mid new one two = record {
  unwritten = unwritten_more old mid new one.unwritten two.unwritten;
  falls = omega (arith, one.falls, two.falls);
  waited = waited_more a b c old.counts.waits mid.counts.waits new.counts.waits one.falls two.falls one.waited two.waited;
  steps = steps_more one.steps two.steps;
  moments = leaves_on one.moments two.moments;
}

pub untouched_more : (d : ℕ) (old mid new : Device) → IsUntouched d old mid → IsUntouched d mid new → IsUntouched d old new
untouched_more d old mid new one two = record { starts = two.starts ∙ one.starts; misses = two.misses ∙ one.misses }

pub rested_more : (old mid new : Device) → IsRested old mid → IsRested mid new → IsRested old new
rested_more old mid new one two = record { ready = two.ready; cuts = two.cuts ∙ one.cuts }

-- nothing was heard of the last transfer until the patience had run out that those before it had left
pub unheard_then : (writes : Bool) (number next a b : ℕ) (old mid new : Device) → next ≡ number → mid.counts.cuts ≡ old.counts.cuts → b ≤ a → RoseBy (a - b) old.counts.waits mid.counts.waits → IsUnheard writes next b mid new
    → IsUnheard writes number a old new
unheard_then writes number next a b old mid new same cuts falls waited last = record {
  flight = last.flight;
  flights = last.flights;
  write = last.write;
  buffer = last.buffer ∙ same;
  freed = last.freed;
  power = last.power;
  cuts = last.cuts ∙ cuts;
  waits = record { later = omega (arith, waited.later, last.waits.later); risen = omega (arith, falls, waited.later, waited.risen, last.waits.later, last.waits.risen) };
}

pub stop_more : (number a b : ℕ) (old mid new : Device) (how : Stop) → OnlyReads a b old mid → IsRested old mid → StopGives number b mid new how → StopGives number a old new how
stop_more number a b old mid new (stop.Memory buf) one rested gives = (rested_more old mid new rested gives.0, gives.1)
stop_more number a b old mid new stop.Dark one rested gives = record { power = gives.power; flights = gives.flights; cuts = subst (λ n. Rose n new.counts.cuts) rested.cuts gives.cuts }
stop_more number a b old mid new stop.Stuck one rested gives = unheard_then false number number a b old mid new refl rested.cuts one.falls one.waited gives

all_more : (disk : ℕ) (old mid new : Device) → AllWereRead disk old mid → AllWereRead disk mid new → AllWereRead disk old new
all_more disk old mid new one two = record { rested = rested_more old mid new one.rested two.rested; misses = two.misses ∙ one.misses }

gives_more : (disk number n a b : ℕ) (old mid new : Device) (ended : Result Buffer Unread) → OnlyReads a b old mid → AllWereRead disk old mid → n ≡ number → ReadsAnswer disk n b mid new ended → ReadsAnswer disk number a old new ended
gives_more disk number n a b old mid new (Ok back) only all same gives = (all_more disk old mid new all gives.0, gives.1 ∙ same)
gives_more disk number n a b old mid new (Err (unread.Failed buf)) only all same gives = (
  record { rested = rested_more old mid new all.rested gives.0.rested; misses = subst (λ m. Rose m (new.counts.misses disk)) all.misses gives.0.misses },
  gives.1 ∙ same,
)
gives_more disk number n a b old mid new (Err (unread.Stopped (stop.Memory buf))) only all same gives = (all_more disk old mid new all gives.0, gives.1 ∙ same)
gives_more disk number n a b old mid new (Err (unread.Stopped stop.Dark)) only all same gives = stop_more n a b old mid new stop.Dark only all.rested gives
gives_more disk number n a b old mid new (Err (unread.Stopped stop.Stuck)) only all same gives = subst (λ k. IsReadStuck k a old new) same (stop_more n a b old mid new stop.Stuck only all.rested gives)

-- nothing was read yet
pub reads_none : (disk patience : ℕ) (old : Device) (buf : Buffer) → IsReady old → ReadsEnd disk buf.number patience patience old old (Ok buf)
reads_none disk patience old buf ready = record { only = only_none patience old; elsewhere = λ d other. untouched_none d old; gives = (record { rested = rested_none old ready; misses = refl }, refl) }

-- reads that succeeded, and others after them
pub reads_then : (disk number a b c : ℕ) (old mid new : Device) (buf : Buffer) (ended : Result Buffer Unread) → ReadsEnd disk number a b old mid (Ok buf) → ReadsEnd disk buf.number b c mid new ended → ReadsEnd disk number a c old new ended
reads_then disk number a b c old mid new buf ended one two = record {
  only = only_more a b c old mid new one.only two.only;
  elsewhere = λ d other. untouched_more d old mid new (one.elsewhere d other) (two.elsewhere d other);
  gives = gives_more disk number buf.number a b old mid new ended one.only one.gives.0 one.gives.1 two.gives;
}

-- and then memory was wanting
pub reads_starve : (disk number a b : ℕ) (old new : Device) (buf : Buffer) → ReadsEnd disk number a b old new (Ok buf) → ReadsEnd disk number a b old new (Err (unread.Stopped (stop.Memory buf)))
reads_starve disk number a b old new buf reads = record { only = reads.only; elsewhere = reads.elsewhere; gives = reads.gives }

-- or they were stopped
pub stop_of : (disk number a b : ℕ) (old new : Device) (how : Stop) → ReadsEnd disk number a b old new (Err (unread.Stopped how)) → StopGives number a old new how
stop_of disk number a b old new (stop.Memory buf) reads = (reads.gives.0.rested, reads.gives.1)
stop_of disk number a b old new stop.Dark reads = reads.gives
stop_of disk number a b old new stop.Stuck reads = reads.gives

-- sectors of the record area stay such where the sizes do
pub still_inside : (old now : Device) (disk first count : ℕ) → now.sizes ≡ old.sizes → IsInRecords old disk first count → IsInRecords now disk first count
still_inside old now disk first count same inside = record {
  there = subst (λ (l : List ℕ). disk < length l) (sym same) inside.there;
  within = subst (λ (l : List ℕ). first + count ≤ slice_index_or l disk 0) (sym same) inside.within;
  below = inside.below;
}

-- a transfer within the disk, on a shelf of the same sizes
pub in_range : (old now : Device) (disk from to first count : ℕ) → now.sizes ≡ old.sizes → IsInRecords old disk from to → 1 ≤ count → count ≤ 256 → first + count ≤ from + to → IsRange now disk first count
in_range old now disk from to first count same inside some most within = record {
  there = subst (λ (l : List ℕ). disk < length l) (sym same) inside.there;
  some = some;
  most = most;
  within = λ size is. let long : slice_index_or old.sizes disk 0 ≡ size = or_got old.sizes disk 0 size (subst (λ (l : List ℕ). slice_get l disk ≡ Some size) same is) in omega (arith, inside.within, within);
}

-- what holds of the media later, which is the same
pub told_before : (P : Media → Type 0) (old mid : Device) → mid.media ≡ old.media → IfSome mid.media P → IfSome old.media P
told_before P old mid same told = subst (λ (m : Option Media). IfSome m P) same told
