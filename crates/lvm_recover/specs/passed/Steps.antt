-- Passed on from `lvm_steps`.
pub use Rattle.lvm_steps.specs.Moments.{ImagesKept, StaysKept}
