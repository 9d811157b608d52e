-- Passed on from `lvm_path`.
pub use Rattle.lvm_path.specs.Asks.{at_of, lv_of}
pub use Rattle.lvm_path.specs.Targets.{is_begun}
pub use Rattle.lvm_path.specs.declared.target.Target.{Target}
