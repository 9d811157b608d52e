-- Passed on from `lvm_mwc`.
pub use Rattle.lvm_mwc.specs.Cache.{after_unpin, flight_on, is_named}
pub use Rattle.lvm_mwc.specs.Entries.{pins_of}
