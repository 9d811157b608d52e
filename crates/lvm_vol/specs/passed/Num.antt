-- Passed on from `lvm_num`.
pub use Rattle.lvm_num.specs.Buffer.{Sector, zero_sector}
