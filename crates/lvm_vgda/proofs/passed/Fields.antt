-- Passed on from `lvm_fields`.
pub use Rattle.lvm_fields.proofs.NumReadingLemmas.{IsBytes, Takes, Takes-then, bind_ok, both, byte_again, byte_takes, bytes_again, bytes_takes, from_both, number_again, number_passes, number_takes, number_value, ok_is, wide16, wide32, wide64, zeros_again, zeros_take}
pub use Rattle.lvm_fields.proofs.ReadingLemmas.{ends, goes_on, is_done}
