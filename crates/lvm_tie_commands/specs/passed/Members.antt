-- Passed on from `lvm_members`, and from the crates that it stands on.
pub use Rattle.lvm_members.specs.passed.Turnover.{ChangeEnds, ChangeLeaves, GoesOff, HasGoneOffBy, IsNext, IsOfChange, KeepsMarks, among, with_descriptor}
pub use Rattle.lvm_members.specs.passed.Change.{IsRefused, LosesVotes, as_big, with_quorum}
pub use Rattle.lvm_members.specs.passed.ChangeLaws.{MayChangeRule}
pub use Rattle.lvm_members.specs.declared.fault.RuleFault.{RuleFault}
pub use Rattle.lvm_members.specs.Commands.{BigGives, BreaksOff, IfOn, IsRefusedFor, MayBeChanged, NothingGives, RefusesChange, RuleGives, ends_session, is_over}
