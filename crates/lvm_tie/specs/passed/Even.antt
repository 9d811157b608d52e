-- Passed on from `lvm_even`.
pub use Rattle.lvm_even.specs.Examples.{Pair, device_of, even_pair, framed_group, framed_status, media_of, pair_sizes, past_of}
pub use Rattle.lvm_even.specs.Even.{IsEven, MissingAreStale}
