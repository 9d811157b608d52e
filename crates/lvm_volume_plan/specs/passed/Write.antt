-- Passed on from `lvm_write`.
pub use Rattle.lvm_core.specs.passed.Write.{IsDarkened, IsGivenUp, KeepsShelf}
