-- Passed on from `lvm_session`.
pub use Rattle.lvm_session.specs.Placed.{ArePlaced, IsPlaced}
pub use Rattle.lvm_session.specs.State.{Core, State, is_there, votes_there}
pub use Rattle.lvm_session.specs.Marks.{is_among}
