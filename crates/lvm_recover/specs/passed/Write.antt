-- Passed on from `lvm_write`.
pub use Rattle.lvm_write.specs.Next.{IsNextStatus}
