-- Passed on from `lvm_kept`.
pub use Rattle.lvm_kept.specs.Contents.{note_sector}
