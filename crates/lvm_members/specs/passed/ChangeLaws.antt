-- Passed on from `lvm_change_laws`.
pub use Rattle.lvm_change_laws.specs.Rule.{DiffersInRule, MayChangeRule}
