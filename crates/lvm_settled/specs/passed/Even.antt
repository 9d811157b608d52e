-- Passed on from `lvm_even`.
pub use Rattle.lvm_even.specs.Even.{IsAlone, IsEven, MissingAreStale}
