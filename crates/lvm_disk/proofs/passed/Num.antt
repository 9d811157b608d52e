-- Passed on from `lvm_num`.
pub use Rattle.lvm_num.proofs.Booleans.{clash, first_holds, without_first, let_through, passed_if}
pub use Rattle.lvm_num.proofs.RecordLemmas.Newest.{is_last, is_one}
pub use Rattle.lvm_num.proofs.RecordLemmas.Records.{joined-same}
pub use Rattle.lvm_num.proofs.TornLemmas.Torn.{sectors-fit}
pub use Rattle.lvm_num.proofs.VotesLemmas.{more_have_more, more_is_enough, read_meets_read, read_meets_write}
pub use Rattle.lvm_num.proofs.Lists.{all_weaker, all_at, all_two}
