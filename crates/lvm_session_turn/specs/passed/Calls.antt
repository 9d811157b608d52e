-- Passed on from `lvm_calls`.
pub use Rattle.lvm_calls.specs.Ending.{CanEnd, MayEndCopy}
pub use Rattle.lvm_calls.specs.Reviewing.{IsLocated, MayReview}
