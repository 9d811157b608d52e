-- Passed on from the crates below.
pub use Rattle.lvm_show.specs.Texts.{counted}
