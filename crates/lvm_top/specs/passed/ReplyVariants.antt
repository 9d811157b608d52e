-- Passed on from `lvm_group_lines`: the variants of `Reply`.
pub use Rattle.lvm_line.specs.passed.ReplyVariants.{Ok, Answers, Lines, Migrated, Posted, Refused, Silent, Stepped, Synced}
