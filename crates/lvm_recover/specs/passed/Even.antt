-- Passed on from `lvm_even`.
pub use Rattle.lvm_even.specs.Examples.{Pair, device_of, even_pair, media_of, naming, pair_sizes, shown_by, status_of, there_by, torn_pair}
pub use Rattle.lvm_even.specs.Even.{MissingAreStale}
