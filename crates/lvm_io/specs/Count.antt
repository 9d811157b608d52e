-- Counts that never fall.
pub use Rattle.lvm_num.specs.Counting.{Rose, next_count}
