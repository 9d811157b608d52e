-- Passed on from `lvm_transfer`.
pub use Rattle.lvm_transfer.proofs.ReadingLemmas.Following.{only_more, only_none, rested_more, rested_none, stop_more, stop_of, unheard_then, untouched_more, untouched_none}
pub use Rattle.lvm_transfer.proofs.RecordLemmas.{or_got, told-always, told-more}
pub use Rattle.lvm_transfer.proofs.StepsLemmas.{out_flights}
pub use Rattle.lvm_transfer.proofs.TransferLemmas.Ending.{one_left}
