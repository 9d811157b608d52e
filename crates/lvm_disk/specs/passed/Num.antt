-- Passed on from `lvm_num`.
pub use Rattle.lvm_num.specs.Among.{IsOneOf}
unfoldable pub use Rattle.lvm_num.specs.Bits.{has_bit}
pub use Rattle.lvm_num.specs.Buffer.{Buffer, IsSector, Sector, zero_sector}
pub use Rattle.lvm_num.specs.Descriptor.{copies_of, is_member, member_of, volume_of}
unfoldable pub use Rattle.lvm_num.specs.DescriptorBytes.{descriptor_of}
pub use Rattle.lvm_num.specs.Disks.{Disks}
pub use Rattle.lvm_num.specs.Geometry.{data_start, partition_blocks, partition_of, sector_of, sectors_needed, track_group_of, volume_blocks}
pub use Rattle.lvm_num.specs.Note.{Noted, names, note_in}
unfoldable pub use Rattle.lvm_num.specs.Record.{joined, newest_below, record_in}
pub use Rattle.lvm_num.specs.Record.{Frames, Stamped, announced, frame, kind_magic, longest_content, may_be, newer, payload_of, record_bytes, record_sectors, slot_size, slot_start, stamp_lt}
pub use Rattle.lvm_num.specs.Status.{calls_dirty, calls_missing, calls_stale}
unfoldable pub use Rattle.lvm_num.specs.StatusBytes.{status_of}
pub use Rattle.lvm_num.specs.Torn.{AllBefore, Sectors, stamp_of}
unfoldable pub use Rattle.lvm_num.specs.Votes.{votes_by}
pub use Rattle.lvm_num.specs.Votes.{CanRead, CanWrite, all_disks, is_enough_to_read, votes_in}
pub use Rattle.lvm_num.specs.declared.descriptor.Descriptor.{Descriptor}
pub use Rattle.lvm_num.specs.declared.descriptor.LvRow.{LvRow}
pub use Rattle.lvm_num.specs.declared.descriptor.Mode.{Mode}
pub use Rattle.lvm_num.specs.declared.descriptor.PvRow.{PvRow}
pub use Rattle.lvm_num.specs.declared.place.Pp.{Pp}
pub use Rattle.lvm_num.specs.declared.record.Framed.{Framed}
pub use Rattle.lvm_num.specs.declared.record.Kind.{Kind}
pub use Rattle.lvm_num.specs.declared.record.Stamp.{Stamp}
pub use Rattle.lvm_num.specs.declared.status.Status.{Status}
pub use Rattle.lvm_num.specs.declared.status.StatusRow.{StatusRow}
