-- Passed on from the crates below.
pub use Rattle.lvm_vol.specs.passed.Num.{zero_sector}
pub use Rattle.lvm_vol.specs.Facts.{Begun, Cut, Fact, Landed, Made, Making, On, Removed, Removing, Request, Split, IsInList, Taken, begun, begun_by}
pub use Rattle.lvm_vol.specs.Legal.{Legal}
pub use Rattle.lvm_vol.specs.Log.{Log, asked, awaited, blocks_begun, blocks_begun_with, blocks_given, blocks_of, cut_log, empty_log, entries_from, entries_of, got_by, got_fact, got_without_bytes, has_id, held, is_answered, is_got, is_landed, is_open, is_plain, is_uncut, is_uncut_after, is_uncut_from, is_waiting, landed_count, landed_fact, lands_id, need, needed, next_id, next_request, no_request, open_count, place_after, plain_fact, request_of, spare_bytes, spare_entries, taken_fact, takes_id, with_fact}
pub use Rattle.lvm_vol.specs.May.{May, known}
pub use Rattle.lvm_vol.specs.Order.{Follows, IsGotOf, HasItsData, Ordered}
pub use Rattle.lvm_vol.specs.declared.entry.Entry.{Entry}
pub use Rattle.lvm_vol.specs.declared.entry.Outcome.{Outcome}
pub use Rattle.lvm_vol.specs.declared.entry.Vol.{Vol}
