-- Passed on from `lvm_session`.
pub use Rattle.lvm_session.specs.Causes.{faults_at_first}
pub use Rattle.lvm_session.specs.Fields.{core_of}
pub use Rattle.lvm_session.specs.Left.{updates_left}
pub use Rattle.lvm_session.specs.Marks.{is_entailed}
pub use Rattle.lvm_session.specs.Placed.{ArePlaced}
pub use Rattle.lvm_session.specs.Rooms.{HasRooms}
pub use Rattle.lvm_session.specs.Sound.{IsFitting, HasPower, IsSound}
pub use Rattle.lvm_session.specs.State.{Core, state}
pub use Rattle.lvm_session.specs.declared.open.Open.{Open}
