-- What lets planned copies be made, and what the shelf shows once they are and the notes are emptied.
use Rattle.std.specs.Prelude.{◌≡◌, ℕ, ◌≤◌, List, Option, Some, IsTrue, All, slice_get}
use Rattle.lvm_num.specs.declared.descriptor.PvRow.{PvRow}
use Rattle.lvm_num.specs.declared.descriptor.Descriptor.{Descriptor}
use Rattle.lvm_num.specs.declared.status.Status.{Status}
use Rattle.lvm_num.specs.Buffer.{Sector}
use Rattle.lvm_num.specs.Disks.{Disks}
use Rattle.lvm_num.specs.Geometry.{sectors_needed}
use Rattle.lvm_num.specs.Descriptor.{IsValid, member_of}
use Rattle.lvm_num.specs.Record.{Stamped}
use Rattle.lvm_disk.specs.Device.{Media, Image, Range, Device, image_of}
use Rattle.lvm_kept.specs.Contents.{Contents, contents_of}
use Rattle.lvm_kept.specs.Group.{is_voter, status_among, is_named, IsOneOf}
use Rattle.lvm_kept.specs.Recovered.{IsCopyRange}
use Rattle.lvm_kept.specs.Plans.{ChangesBy}
use Rattle.lvm_kept.specs.Torn.{IsOfNote}
use Rattle.lvm_recover.specs.Recopied.{IsRecopied, AreEqualled, OnlyNotesOf}
use Rattle.lvm_recovery.specs.declared.copying.Recopy.{Recopy}
use Rattle.lvm_recovery.specs.Copying.{MayCopy, IsCopied, IsInOneRun, IsOfCopies}
use Rattle.lvm_num.specs.Votes.{CanWrite}
use Rattle.lvm_recover.specs.passed.Commit.{ShowsCommitted}
use Rattle.lvm_recover.specs.passed.Write.{IsNextStatus}
use Rattle.lvm_recovery.specs.Planned.{ArePlanned}
use Rattle.lvm_recovery.specs.Equalising.{MayEqualise}

-- What is planned by notes is planned by others that name the same on the disks that are there.
abbrev pub SameNotesSamePlan : Type 0
SameNotesSamePlan = (a b : Contents) (group : Descriptor) (status : Option (Stamped Status)) (there : Disks) (copies : List Recopy)
    → ((d lv g : ℕ) → IsTrue (there d) → is_named a d lv g ≡ is_named b d lv g) → ArePlanned a group status there copies → ArePlanned b group status there copies

-- the members that are there are as large as their partitions need
abbrev pub HaveSectors : List ℕ → Descriptor → Disks → Type 0
HaveSectors sizes group there = (d : ℕ) (row : PvRow) → IsTrue (there d) → member_of group d ≡ Some row → (size : ℕ) × (slice_get sizes d ≡ Some size) × (sectors_needed group.mib row.pps ≤ size)

-- Then planned copies lie within their disks.
abbrev pub PlannedMayBeMade : Type 0
PlannedMayBeMade = (c : Contents) (group : Descriptor) (status : Option (Stamped Status)) (there : Disks) (sizes : List ℕ) (copies : List Recopy)
    → IsValid group → HaveSectors sizes group there → ArePlanned c group status there copies → All (MayCopy sizes) copies

-- A range that lies in the second run of one of them is one of blocks that are made equal, of a fresh copy on a voter.
abbrev pub RunsAreOfCopies : Type 0
RunsAreOfCopies = (old : Contents) (disks : Disks) (group : Descriptor) (was : Stamped Status) (copies : List Recopy) (range : Range)
    → IsValid group → status_among old disks group.id ≡ Some was → ArePlanned old group (Some was) (is_voter old disks group.id) copies → IsInOneRun copies range
    → IsTrue (is_voter old disks group.id range.disk) × IsCopyRange old disks group.id group range

-- What is shown once all planned copies are made: blocks copied from the first copies, and all made equal that is to be.
pub record ShowsCopied (group : Descriptor) (status : Option (Stamped Status)) (there : Disks) (old copied : Contents) : Type 0 where
  pub recopied : IsRecopied old group status there copied
  pub equalled : AreEqualled old group status there copied

abbrev pub CopiedEnds : Type 0
CopiedEnds = (copies : List Recopy) (old mid : Device) (group : Descriptor) (status : Option (Stamped Status)) (there : Disks) (was between : Media)
    → IsValid group → old.media ≡ Some was → mid.media ≡ Some between → ArePlanned (contents_of (image_of old.sizes was)) group status there copies
    → ChangesBy (IsOfCopies old copies) (image_of old.sizes was) (image_of mid.sizes between) → ((one : Recopy) → IsOneOf copies one → IsCopied old mid one)
    → ShowsCopied group status there (contents_of (image_of old.sizes was)) (contents_of (image_of mid.sizes between))

-- And once notes of members that are there are written, these alone have changed.
abbrev pub EmptiedEnds : Type 0
EmptiedEnds = (targets there : Disks) (sector : Sector) (old new : Image) → ((d : ℕ) → IsTrue (targets d) → IsTrue (there d)) → ChangesBy (IsOfNote targets sector) old new → OnlyNotesOf there (contents_of old) (contents_of new)

-- What is planned by the status that was found is planned by the next one,
abbrev pub NextSamePlan : Type 0
NextSamePlan = (c : Contents) (group : Descriptor) (there : Disks) (was next : Stamped Status) (copies : List Recopy)
    → IsValid group → IsNextStatus group there was next.value → ArePlanned c group (Some was) there copies → ArePlanned c group (Some next) there copies

-- so that the copies which were planned by what a survey showed may be made once the records stand that show what is committed.
abbrev pub RestatedMayEqualise : Type 0
RestatedMayEqualise = (found : Contents) (group : Descriptor) (status : Status) (there targets : Disks) (was : Stamped Status) (copies : List Recopy) (device : Device) (media : Media)
    → device.media ≡ Some media → IsValid group → CanWrite group there → (shows : ShowsCommitted (contents_of (image_of device.sizes media)) group status there)
    → IsNextStatus group there was shows.stands.value → ArePlanned found group (Some was) there copies
    → ((d lv g : ℕ) → IsTrue (there d) → is_named found d lv g ≡ is_named (contents_of (image_of device.sizes media)) d lv g) → ((d : ℕ) → IsTrue (targets d) → IsTrue (there d))
    → MayEqualise copies targets group status there device
