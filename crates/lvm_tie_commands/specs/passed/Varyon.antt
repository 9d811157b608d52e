-- Passed on from `lvm_varyon`.
pub use Rattle.lvm_handover.specs.passed.Varyon.{ComesOn, DirtyAreEqual, HasWritten, IsRecovered, MayComeOn, Recopy, VaryonGives, VaryonRefuses, answering, beginning, log_after, records_on}
