-- Passed on from `lvm_line`.
pub use Rattle.lvm_line.specs.Lines.{IsLine, asked_after, role_of}
