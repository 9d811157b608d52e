-- Passed on from `lvm_commit`.
pub use Rattle.lvm_core.proofs.passed.Commit.{IsOnePlace, contains, keeps_wider, of_map, of_rows, one_place, still_holds_committed, volume_begins_in_session, volume_is_gone_in_session, volume_is_made_in_session, zeros_are_found}
