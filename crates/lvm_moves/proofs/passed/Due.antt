-- Passed on from `lvm_due`.
pub use Rattle.lvm_due.proofs.AtPlaces.{at_place, read_same}
pub use Rattle.lvm_due.proofs.passed.Due.{copies_in_are, place_of}
