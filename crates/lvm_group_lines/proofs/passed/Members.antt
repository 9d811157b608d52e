-- Passed on from `lvm_tie_commands`, of changes of a group's rule of votes or of its size.
pub use Rattle.lvm_tie_commands.proofs.ChangingLemmas.Finding.{change_finds_two}
pub use Rattle.lvm_tie_commands.proofs.ChangingLemmas.Going.{make_big_goes_on, set_quorum_goes_on}
pub use Rattle.lvm_tie_commands.proofs.ChangingLemmas.Serving.{make_big_serves, set_quorum_serves}
