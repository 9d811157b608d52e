-- Passed on from `lvm_write`.
pub use Rattle.lvm_write.specs.Homes.{SpareNewest, SparesNewest}
pub use Rattle.lvm_write.specs.Parts.{Spends}
pub use Rattle.lvm_write.specs.Written.{IsDarkened, IsGivenUp, KeepsShelf}
