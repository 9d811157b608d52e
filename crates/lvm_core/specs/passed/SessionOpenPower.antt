-- Passed on from the crates below.
pub use Rattle.lvm_session.specs.declared.open.Power.TheVariants.{Dark, Off, On}
