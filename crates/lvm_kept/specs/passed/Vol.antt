-- Passed on from `lvm_vol`.
pub use Rattle.lvm_vol.specs.Facts.{Begun, Cut, Fact, Landed, Made, Making, On, Removed, Removing, Request, Split, Taken, begun, joined}
pub use Rattle.lvm_vol.specs.Legal.{IsLater}
pub use Rattle.lvm_vol.specs.Log.{Log, asked, blocks_begun, cut_log, is_answered, is_open, landed_fact, lands_id, next_id, next_request, request_of, spare_bytes, spare_entries, taken_fact, with_fact}
pub use Rattle.lvm_vol.specs.Order.{Ordered}
pub use Rattle.lvm_vol.specs.declared.entry.Outcome.{Outcome}
