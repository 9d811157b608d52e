-- What quorums find of any group, while a session writes: nothing that they didn't find before, but its next descriptor.
use Rattle.std.specs.Prelude.{◌≡◌, ◌⊎◌, ℕ, [], IfSome, Ok}
use Rattle.lvm_num.specs.declared.record.Kind.TheVariants as kind
use Rattle.lvm_num.specs.declared.record.Stamp.{Stamp}
use Rattle.lvm_num.specs.declared.record.Framed.{Framed}
use Rattle.lvm_num.specs.declared.descriptor.Descriptor.{Descriptor}
use Rattle.lvm_num.specs.declared.status.Status.{Status}
use Rattle.lvm_num.specs.Disks.{Disks}
use Rattle.lvm_num.specs.DescriptorBytes.{descriptor_of}
use Rattle.lvm_num.specs.StatusBytes.{status_of}
use Rattle.lvm_num.specs.Record.{Frames, Stamped}
use Rattle.lvm_disk.specs.Device.{Image, Flight, Device, image_of, MayLeave, IsWholeImage}
use Rattle.lvm_kept.specs.Contents.{Contents, contents_of}
use Rattle.lvm_kept.specs.Committed.{IsWithinDisks}
use Rattle.lvm_kept.specs.Group.{IsFound}
use Rattle.lvm_kept.specs.Plans.{ChangesBy}
use Rattle.lvm_kept.specs.Raw.{OnlyAdds}
use Rattle.lvm_kept.specs.Torn.{IsOfRecord, DescriptorsChange}
use Rattle.lvm_steps.specs.Requests.{IsOfData}
use Rattle.lvm_rec.specs.declared.homes.Homes.{Homes}
use Rattle.lvm_write.specs.Written.{write_of}
use Rattle.lvm_steps.specs.Laws.{IsNoLater}
use Rattle.lvm_commit.specs.Committed.{next_stamp, HoldsCommitted}
use Rattle.lvm_commit.specs.Laws.{IsLaterDescriptor}

-- whatever is found was found before
abbrev pub FindsNothingNew : Contents → Contents → Type 0
FindsNothingNew old new = (id : ℕ) (k : Descriptor) → IsFound new id k → IsFound old id k

-- whatever is found was found before, or it is the next descriptor
abbrev pub FindsNoMore : Descriptor → Contents → Contents → Type 0
FindsNoMore next old new = (id : ℕ) (k : Descriptor) → IsFound new id k → IsFound old id k ⊎ ((id ≡ next.id) × (k ≡ next))

-- ---- by what the disks show

-- Whatever of a later descriptor of the group has landed, no other is found that wasn't,
abbrev pub DescriptorFindsNoMore : Type 0
DescriptorFindsNoMore = (targets : Disks) (next : Stamped Descriptor) (old new : Contents)
    → IsWithinDisks new → IsLaterDescriptor old next.value next → DescriptorsChange targets next old new → FindsNoMore next.value old new

-- and none by statuses, notes and data.
abbrev pub RestFindsNothingNew : Type 0
RestFindsNothingNew = (old new : Contents) → new ≡ record old { status = new.status; note = new.note; block = new.block } → FindsNothingNew old new

-- ---- while a record is written

-- So it is while a status of the session is written,
abbrev pub StatusWriteFindsNothingNew : Type 0
StatusWriteFindsNothingNew = (group : Descriptor) (status next : Status) (there : Disks) (stamp : Stamp) (homes : Homes) (framed : Framed) (old new : Image)
    → IsWholeImage old → HoldsCommitted old group status there stamp homes → Frames kind.Status framed → status_of framed.content ≡ Ok next → IsNoLater (next_stamp stamp) framed.stamp
    → ChangesBy (IsOfRecord (write_of kind.Status framed there homes)) old new → FindsNothingNew (contents_of old) (contents_of new)

-- and while a descriptor is.
abbrev pub DescriptorWriteFindsNoMore : Type 0
DescriptorWriteFindsNoMore = (group next : Descriptor) (status : Status) (there : Disks) (stamp : Stamp) (homes : Homes) (framed : Framed) (old new : Image)
    → IsWholeImage old → HoldsCommitted old group status there stamp homes → Frames kind.Descriptor framed → descriptor_of framed.content ≡ Ok next → IsNoLater (next_stamp stamp) framed.stamp
    → ChangesBy (IsOfRecord (write_of kind.Descriptor framed there homes)) old new → FindsNoMore next (contents_of old) (contents_of new)

-- ---- on a shelf

-- whatever is found in a crash image stood to be found on the media, where it is told
abbrev pub FindsNothingNewOn : Device → Device → Type 0
FindsNothingNewOn old new = (image : Image) → MayLeave new image → IfSome old.media (λ media. FindsNothingNew (contents_of (image_of old.sizes media)) (contents_of image))

-- or it is the next descriptor
abbrev pub FindsNoMoreOn : Descriptor → Device → Device → Type 0
FindsNoMoreOn next old new = (image : Image) → MayLeave new image → IfSome old.media (λ media. FindsNoMore next (contents_of (image_of old.sizes media)) (contents_of image))

-- One transfer of data that begins on a still shelf makes nothing found, however it ends and if it doesn't.
abbrev pub TransferFindsNothingNew : Type 0
TransferFindsNothingNew = (f : Flight) (old new : Device) → old.flights ≡ [] → IsOfData f → OnlyAdds f old new → FindsNothingNewOn old new
