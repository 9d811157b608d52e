-- Counts that are kept in lists.
use Rattle.std.specs.Prelude.{ℕ, List, slice_index_or}
use Rattle.lvm_disk.specs.Counts.{Counts}

-- for each disk how often each thing happened, and how often in all
pub record Tallied : Type 0 where
  pub starts : List ℕ
  pub misses : List ℕ
  pub faults : List ℕ
  pub cuts : ℕ
  pub waits : ℕ

-- a list of counts by disk; past its end the count is 0
abbrev pub by_disk : List ℕ → ℕ → ℕ
by_disk counts disk = slice_index_or counts disk 0

-- the counts by disk
abbrev pub counts_of : Tallied → Counts
counts_of t = record { starts = by_disk t.starts; misses = by_disk t.misses; faults = by_disk t.faults; cuts = t.cuts; waits = t.waits }
