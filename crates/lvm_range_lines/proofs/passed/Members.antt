-- Passed on from `lvm_tie_commands`, of changes of a group's rule of votes or of its size.
pub use Rattle.lvm_group_lines.proofs.passed.Members.{change_finds_two, make_big_goes_on, make_big_serves, set_quorum_goes_on, set_quorum_serves}
