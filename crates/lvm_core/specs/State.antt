-- The state of a driver: its session and the shelf below.
pub use Rattle.lvm_session.specs.State.{state_of}
