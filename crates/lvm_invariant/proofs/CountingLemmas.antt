-- Counts that rose.
use Rattle.std.proofs.Common.{ℕ, ◌+◌, ◌-◌, ◌^◌, ◌≤◌, min, arith}
use Rattle.std.proofs.Math.Nat.{min-le_left, min-le_right, le-min}
use Rattle.lvm_disk.specs.Counts.{Rose}

min_less : (a b m : ℕ) → a ≤ b → min (a + 1) m ≤ min (b + 1) m
min_less a b m h = le-min (omega (arith, min-le_left (a + 1) m, h)) (min-le_right (a + 1) m)

pub rose_then : (a b c : ℕ) → Rose a b → b ≤ c → Rose a c
rose_then a b c r h = record { later = omega (arith, r.later, h); risen = omega (arith, r.risen, h) }

pub then_rose : (a b c : ℕ) → a ≤ b → Rose b c → Rose a c
then_rose a b c h r = record { later = omega (arith, r.later, h); risen = omega (arith, r.risen, min_less a b (2 ^ 64 - 1) h) }
