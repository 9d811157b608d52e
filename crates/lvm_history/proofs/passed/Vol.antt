-- Passed on from the crates below.
pub use Rattle.lvm_vol.proofs.FactsLemmas.Counting.{count_begun}
pub use Rattle.lvm_vol.proofs.FactsLemmas.Order.{IdsFrom, IsAnswer, IsNumbered, any-push, begun-push, got-push, got_nothing, got_same, grow, numbered, numbered-push, numbered_none, ordered-push, stands-at, stands_begun, stands_last}
pub use Rattle.lvm_vol.proofs.LogLemmas.{and_left, and_right, follows_taken, found_of, open_of}
pub use Rattle.lvm_vol.proofs.passed.Num.{four_hold}
