-- Passed on from `lvm_status`.
pub use Rattle.lvm_status.specs.Marking.{IsLostCopy, IsLeftIn, HasMark, MarksLost}
pub use Rattle.lvm_status.specs.Table.{SameMissing, SameStale, has_row}
