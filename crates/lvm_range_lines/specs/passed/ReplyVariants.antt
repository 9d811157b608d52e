-- Passed on from `lvm_group_lines`: the variants of `Reply`.
pub use Rattle.lvm_group_lines.specs.declared.reply.Reply.TheVariants.{Answers, Lines, Migrated, Ok, Posted, Refused, Silent, Stepped, Synced}
