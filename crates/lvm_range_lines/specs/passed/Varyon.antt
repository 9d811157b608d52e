-- Passed on from `lvm_varyon`.
pub use Rattle.lvm_group_lines.specs.passed.Varyon.{HasWritten, IsRecovered, MayComeOn, Recopy, VaryonRefuses, answering, beginning, records_on}
