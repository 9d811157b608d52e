-- Passed on from `lvm_session_start`.
pub use Rattle.lvm_session_start.specs.Beginning.{AreFaults, first_core}
pub use Rattle.lvm_session_start.specs.Parts.{IsOneGroup}
pub use Rattle.lvm_session_start.specs.declared.parts.Parts.{Parts}
