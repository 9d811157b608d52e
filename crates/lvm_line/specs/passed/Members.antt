-- Passed on from `lvm_members`, and from the crates that it stands on.
pub use Rattle.lvm_volume_lines.specs.passed.Members.{BigGives, BreaksOff, ChangeEnds, ChangeLeaves, GoesOff, HasGoneOffBy, IfOn, IsChangedTo, IsNext, IsOfChange, IsRefused, IsRefusedFor, KeepsMarks, LosesVotes, MayBeChanged, MayChangeRule, NothingGives, RefusesChange, RuleFault, RuleGives, among, as_big, ends_session, is_over, with_descriptor, with_quorum}
