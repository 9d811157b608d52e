-- Passed on from the crates below.
pub use Rattle.lvm_sched.specs.declared.writes.TargetState.TheVariants.{Done, Failed, Flying, Waiting}
