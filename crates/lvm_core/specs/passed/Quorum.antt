-- Passed on from `lvm_quorum`.
pub use Rattle.lvm_quorum.specs.declared.choice.Choice.{Choice}
