-- Passed on from `lvm_commit`.
pub use Rattle.lvm_commit.specs.LawsOfVolumes.{IsOneFoundOn}
