-- Passed on from `lvm_num`.
pub use Rattle.lvm_num.specs.declared.descriptor.Mode.{Mode}
pub use Rattle.lvm_num.specs.declared.descriptor.Policy.{Policy}
