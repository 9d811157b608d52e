-- Counts of 64 bits that never fall.
use Rattle.std.specs.Prelude.{◌≡◌, ℕ, ◌≤◌}
pub use Rattle.lvm_num.specs.Counting.{RoseBy, Rose, next_count}

-- at this disk the count rose by one, and at the others it stands
pub record RoseAt (disk : ℕ) (before now : ℕ → ℕ) : Type 0 where
  pub here : Rose (before disk) (now disk)
  pub once : now disk ≡ next_count (before disk)
  pub elsewhere : (d : ℕ) → (d ≡ disk → ⊥) → now d ≡ before d

-- how often each thing happened: for each disk the starts, the failed reads of records and the other failed transfers; the power cuts; the answers Empty
pub record Counts : Type 0 where
  pub starts : ℕ → ℕ
  pub misses : ℕ → ℕ
  pub faults : ℕ → ℕ
  pub cuts : ℕ
  pub waits : ℕ

-- no count fell
pub record NoneFalls (before now : Counts) : Type 0 where
  pub starts : (d : ℕ) → before.starts d ≤ now.starts d
  pub misses : (d : ℕ) → before.misses d ≤ now.misses d
  pub faults : (d : ℕ) → before.faults d ≤ now.faults d
  pub cuts : before.cuts ≤ now.cuts
  pub waits : before.waits ≤ now.waits
