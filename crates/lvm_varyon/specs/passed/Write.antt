-- Passed on from `lvm_write`.
pub use Rattle.lvm_write.specs.Beginning.{Beginning, IsOfParts, Part, TheDescriptor, TheNotes, TheStatus, new_order}
