-- Passed on from `lvm_reduce`.
pub use Rattle.lvm_reduce.specs.Answers.{ReduceGives, ends_session}
