-- Passed on from `lvm_varyon`.
pub use Rattle.lvm_varyon.specs.Chosen.{MayComeOn, answering}
pub use Rattle.lvm_varyon.specs.Equal.{Recopy}
pub use Rattle.lvm_varyon.specs.Found.{records_on}
pub use Rattle.lvm_varyon.specs.Varied.{ComesOn, DirtyAreEqual, HasWritten, IsRecovered, VaryonGives, VaryonRefuses, log_after}
pub use Rattle.lvm_varyon.specs.Writing.{beginning}
