-- Passed on from `lvm_quorum`.
pub use Rattle.lvm_quorum.specs.Choosing.{HasNoRecord, HasRecord, IsAmbiguous, LacksQuorum}
