-- Passed on from the crates below.
pub use Rattle.lvm_session.specs.declared.event.Event.TheVariants.{Admit, Land, StartData}
