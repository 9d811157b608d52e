-- Passed on from the crates below.
pub use Rattle.lvm_disk.specs.declared.shelf.Arrange.TheVariants.{Cut, Fail, Heal}
