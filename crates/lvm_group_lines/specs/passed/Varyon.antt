-- Passed on from `lvm_varyon`.
pub use Rattle.lvm_tie_commands.specs.passed.Varyon.{ComesOn, DirtyAreEqual, HasWritten, IsRecovered, MayComeOn, Recopy, VaryonGives, VaryonRefuses, answering, beginning, log_after, records_on}
