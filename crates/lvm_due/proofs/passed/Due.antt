-- Passed on from `lvm_due`.
pub use Rattle.lvm_due.proofs.DescriptorLemmas.Members.{copies_in_are, few_in, numbered, place_of}
