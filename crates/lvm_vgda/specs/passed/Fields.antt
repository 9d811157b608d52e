-- Passed on from `lvm_fields`.
pub use Rattle.lvm_fields.specs.Reading.{Fails, Gives, rest_of}
pub use Rattle.lvm_fields.specs.declared.fault.Fault.{Fault}
