-- Passed on from `lvm_member_lines` and the crates below it.
pub use Rattle.lvm_member_lines.specs.Reducing.{BusyReducevg, NoGroupForReducevg, NoMemoryForReducevg, ReducesGroup, ReducevgDoes, ReducevgEnds, ReducevgFails, UndrainedReducevg, reduce_refusal}
pub use Rattle.lvm_member_lines.specs.passed.MemberPlan.{IsReducedBy, ReduceFault}
pub use Rattle.lvm_member_lines.specs.passed.Reduce.{ReduceGives, ends_session}
