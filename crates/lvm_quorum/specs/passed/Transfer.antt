-- Passed on from the crates below.
pub use Rattle.lvm_transfer.specs.passed.Disk.{Rose, Device, Image, IsReady, IsWholeImage, Media, image_of, DeviceStep, Here, Path}
pub use Rattle.lvm_transfer.specs.passed.Kept.{Contents, contents_of, has_records, newest_at, note_sector, has_room, if_passes, is_of, is_status_of, members_in, passes, ChangesBy, IsPlanned, Plan, OnlyAdds, DescriptorsChange, IsOfNote, IsOfRecord, MayWriteAll, RecordWrite, StandsOn, StatusesChange, on_disk, written}
pub use Rattle.lvm_transfer.specs.passed.Rec.{Flips, next_slot, second_slots, noted_of, BothBefore, MayWrite, held, newest_on, read_under, slot_for, slot_of, Homes}
unfoldable pub use Rattle.lvm_transfer.specs.passed.Kept.{descriptor_on, note_on, status_on, descriptor_among, has_quorum, is_voter, status_among}
pub use Rattle.lvm_transfer.specs.Reading.{IsCutOff, IsReadStuck, IsRested, IsUnheard, IsUntouched, OnlyReads, StopGives}
pub use Rattle.lvm_transfer.specs.Transfer.{IsOut, Rests, TransferGives, flight_of}
pub use Rattle.lvm_transfer.specs.declared.moves.Moved.{Moved}
pub use Rattle.lvm_transfer.specs.declared.reading.Stop.{Stop}
