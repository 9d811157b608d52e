-- Counts that rise.
use Rattle.std.proofs.Common.{ℕ, ◌+◌, ◌≤◌, arith}
use Rattle.lvm_disk.specs.Counts.{RoseBy, Rose, Counts, NoneFalls}

-- a count that rose later rose
pub rose_before : {a b c : ℕ} → a ≤ b → Rose b c → Rose a c
rose_before first rose = record { later = omega (arith, first, rose.later); risen = omega (arith, first, rose.risen) }

-- a count that rose earlier rose
pub rose_after : {a b c : ℕ} → Rose a b → b ≤ c → Rose a c
rose_after rose last = record { later = omega (arith, rose.later, last); risen = omega (arith, rose.risen, last) }

pub rose_by_none : (a : ℕ) → RoseBy 0 a a
rose_by_none a = record { later = omega arith; risen = omega arith }

-- once more
pub rose_by_more : {n a b c : ℕ} → RoseBy n a b → Rose b c → RoseBy (n + 1) a c
rose_by_more so_far rose = record { later = omega (arith, so_far.later, rose.later); risen = omega (arith, so_far.risen, rose.risen) }

pub rose_by_after : {n a b c : ℕ} → RoseBy n a b → b ≤ c → RoseBy n a c
rose_by_after rose last = record { later = omega (arith, rose.later, last); risen = omega (arith, rose.risen, last) }

pub none_falls_at_once : (a : Counts) → NoneFalls a a
none_falls_at_once a = record { starts = λ d. omega arith; misses = λ d. omega arith; faults = λ d. omega arith; cuts = omega arith; waits = omega arith }

pub none_falls_on : {a b c : Counts} → NoneFalls a b → NoneFalls b c → NoneFalls a c
none_falls_on one two = record {
  starts = λ d. omega (arith, one.starts d, two.starts d);
  misses = λ d. omega (arith, one.misses d, two.misses d);
  faults = λ d. omega (arith, one.faults d, two.faults d);
  cuts = omega (arith, one.cuts, two.cuts);
  waits = omega (arith, one.waits, two.waits);
}
