-- Passed on from the crates below.
pub use Rattle.lvm_transfer.specs.declared.moves.Moved.TheVariants.{Dark, Done, Failed, Stuck}
