-- Passed on from the crates below.
pub use Rattle.lvm_num.specs.Descriptor.{IsLaidOut, IsValid, is_member, is_pp, partitions_in}
unfoldable pub use Rattle.lvm_num.specs.Disks.{has}
pub use Rattle.lvm_num.specs.Disks.{Disks, IsLowest}
pub use Rattle.lvm_num.specs.Record.{stamp_lt}
pub use Rattle.lvm_num.specs.Status.{IsValidStatus, IsVolumeNumber, calls_dirty, calls_missing, calls_stale}
pub use Rattle.lvm_num.specs.Votes.{CanWrite, is_enough_to_write, total_votes, votes_in}
pub use Rattle.lvm_num.specs.declared.descriptor.Descriptor.{Descriptor}
pub use Rattle.lvm_num.specs.declared.descriptor.PvRow.{PvRow}
pub use Rattle.lvm_num.specs.declared.place.Pp.{Pp}
pub use Rattle.lvm_num.specs.declared.record.Stamp.{Stamp}
pub use Rattle.lvm_num.specs.declared.status.Status.{Status}
pub use Rattle.lvm_num.specs.declared.status.StatusRow.{StatusRow}
