-- Passed on from `lvm_group_lines`: the variants of `Reply`.
pub use Rattle.lvm_volume_lines.specs.passed.ReplyVariants.{Answers, Lines, Migrated, Ok, Posted, Refused, Silent, Stepped, Synced}
