-- Passed on from `lvm_kept`.
unfoldable pub use Rattle.lvm_kept.specs.Contents.{descriptor_on, note_on, status_on}
pub use Rattle.lvm_kept.specs.Contents.{Contents, contents_of, has_records, newest_at, note_sector}
unfoldable pub use Rattle.lvm_kept.specs.Group.{descriptor_among, has_quorum, is_voter, status_among}
pub use Rattle.lvm_kept.specs.Group.{has_room, if_passes, is_of, is_status_of, members_in, passes}
pub use Rattle.lvm_kept.specs.Plans.{ChangesBy, IsPlanned, Plan}
pub use Rattle.lvm_kept.specs.Raw.{OnlyAdds}
pub use Rattle.lvm_kept.specs.Torn.{DescriptorsChange, IsOfNote, IsOfRecord, MayWriteAll, RecordWrite, StandsOn, StatusesChange, on_disk, written}
