-- Passed on from `lvm_change`.
pub use Rattle.lvm_change.specs.Rule.{IsRefused, LosesVotes, as_big, with_quorum}
