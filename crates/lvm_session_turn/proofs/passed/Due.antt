-- Passed on from `lvm_due`.
pub use Rattle.lvm_moves.proofs.passed.Due.{copies_in_are, place_of}
