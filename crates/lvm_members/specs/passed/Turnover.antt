-- Passed on from `lvm_turnover`.
pub use Rattle.lvm_turnover.specs.Changing.{ChangeEnds, ChangeLeaves, GoesOff, HasGoneOffBy, IsNext, IsOfChange, KeepsMarks, LeavesWithin, among, with_descriptor}
