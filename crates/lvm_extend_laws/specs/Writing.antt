-- The two records by which a disk joins a group are written: what crash images show meanwhile.
use Rattle.std.specs.Prelude.{◌≡◌, ◌≢◌, ◌⊎◌, ℕ, true, not, List, None, Ok, IsTrue}
use Rattle.lvm_num.specs.declared.record.Kind.{Kind}
use Rattle.lvm_num.specs.declared.record.Kind.TheVariants as kind
use Rattle.lvm_num.specs.declared.record.Stamp.{Stamp}
use Rattle.lvm_num.specs.declared.record.Framed.{Framed}
use Rattle.lvm_num.specs.declared.descriptor.PvRow.{PvRow}
use Rattle.lvm_num.specs.declared.descriptor.Descriptor.{Descriptor}
use Rattle.lvm_num.specs.declared.status.Status.{Status}
use Rattle.lvm_num.specs.DescriptorBytes.{descriptor_of}
use Rattle.lvm_num.specs.Disks.{Disks}
use Rattle.lvm_num.specs.Record.{Frames}
use Rattle.lvm_num.specs.StatusBytes.{status_of}
use Rattle.lvm_num.specs.Votes.{CanWrite}
use Rattle.lvm_vol.specs.Facts.{Fact}
use Rattle.lvm_disk.specs.Device.{Image, IsWholeImage}
use Rattle.lvm_rec.specs.declared.homes.Homes.{Homes}
use Rattle.lvm_rec.specs.Homes.{second_slots}
use Rattle.lvm_kept.specs.Contents.{contents_of, has_records}
use Rattle.lvm_kept.specs.Group.{passes, is_of, has_room}
use Rattle.lvm_kept.specs.Kept.{Kept}
use Rattle.lvm_kept.specs.Plans.{Plan, ChangesBy}
use Rattle.lvm_kept.specs.Torn.{RecordWrite, IsOfRecord, StandsOn}
use Rattle.lvm_status.specs.Rerowed.{IsRerowed}
use Rattle.lvm_steps.specs.Laws.{IsNoLater}
use Rattle.lvm_write.specs.Homes.{SparesNewest}
use Rattle.lvm_write.specs.Written.{write_of}
use Rattle.lvm_commit.specs.Committed.{next_stamp, HoldsCommitted}
use Rattle.lvm_commit.specs.LawsOfFinding.{FindsNoMore}
use Rattle.lvm_commit.specs.LawsOfVolumes.{LeavesOthers}
use Rattle.lvm_change_laws.specs.Turning.{FindsTwo}
use Rattle.lvm_extend_laws.specs.Joining.{with_disk, TakesIn}

-- The status and the descriptor, framed, that are written to a disk that joins and to the members that aren't missing, each to the slot that comes next.
pub record JoinRecords : Type 0 where
  pub told : Status
  pub status : Framed
  pub descriptor : Framed

abbrev pub status_write : JoinRecords → ℕ → Disks → Homes → RecordWrite
status_write r disk there homes = write_of kind.Status r.status (with_disk disk there) homes

abbrev pub descriptor_write : JoinRecords → ℕ → Disks → Homes → RecordWrite
descriptor_write r disk there homes = write_of kind.Descriptor r.descriptor (with_disk disk there) homes

-- a sector of either
abbrev pub IsOfJoining : JoinRecords → ℕ → Disks → Homes → Plan
IsOfJoining r disk there homes d s value = IsOfRecord (status_write r disk there homes) d s value ⊎ IsOfRecord (descriptor_write r disk there homes) d s value

-- The records say so, and are later than each of the session.
pub record AreJoinRecords (r : JoinRecords) (next : Descriptor) (status : Status) (stamp : Stamp) : Type 0 where
  pub told : IsRerowed next status r.told
  pub status_frames : Frames kind.Status r.status
  pub descriptor_frames : Frames kind.Descriptor r.descriptor
  pub status_reads : status_of r.status.content ≡ Ok r.told
  pub descriptor_reads : descriptor_of r.descriptor.content ≡ Ok next
  pub status_later : IsNoLater (next_stamp stamp) r.status.stamp
  pub descriptor_later : IsNoLater (next_stamp stamp) r.descriptor.stamp

-- The image holds the group as committed, and the disk that joins has room for its records, shows no other group, and has the sectors that it needs.
pub record LetsWrite (image : Image) (group next : Descriptor) (row : PvRow) (status : Status) (there : Disks) (stamp : Stamp) (homes : Homes) : Type 0 where
  pub takes : TakesIn group next row there
  pub holds : HoldsCommitted image group status there stamp homes
  pub records : has_records image row.disk ≡ true
  pub spares : SparesNewest homes image row.disk
  pub free : ((contents_of image).descriptor row.disk ≡ None) ⊎ IsTrue (passes (is_of group.id) ((contents_of image).descriptor row.disk))
  pub room : IsTrue (has_room (contents_of image) row.disk next)

-- the descriptor stands whole on the disk that joins, or no other disk shows another one than it did
abbrev pub StandsFirst : JoinRecords → ℕ → Disks → Homes → Image → Image → Type 0
StandsFirst r disk there homes old new =
    StandsOn (descriptor_write r disk there homes) new disk ⊎ ((d : ℕ) → d ≢ disk → (contents_of new).descriptor d ≡ (contents_of old).descriptor d)

-- Whatever of both has landed, with it first on the disk that joins, what was kept is kept.
abbrev pub JoiningWritesKeep : Type 0
JoiningWritesKeep = (old new : Image) (facts : List Fact) (group next : Descriptor) (row : PvRow) (status : Status) (there : Disks) (stamp : Stamp) (homes : Homes) (r : JoinRecords)
    → IsWholeImage old → LetsWrite old group next row status there stamp homes → AreJoinRecords r next status stamp → ChangesBy (IsOfJoining r row.disk there homes) old new → StandsFirst r row.disk there homes old new
    → Kept (contents_of old) facts → Kept (contents_of new) facts × FindsTwo (contents_of new) group next × LeavesOthers (contents_of old) (contents_of new) group.id

-- And whatever is found was found before, or is the next descriptor.
abbrev pub JoiningWritesFind : Type 0
JoiningWritesFind = (old new : Image) (group next : Descriptor) (row : PvRow) (status : Status) (there : Disks) (stamp : Stamp) (homes : Homes) (r : JoinRecords)
    → IsWholeImage old → LetsWrite old group next row status there stamp homes → AreJoinRecords r next status stamp → ChangesBy (IsOfJoining r row.disk there homes) old new → StandsFirst r row.disk there homes old new
    → FindsNoMore next (contents_of old) (contents_of new)

-- ---- once they stand

-- Both stand whole on the disk that joins and on some others, of which the next record of each kind goes to the other slot.
pub record StandsJoined (r : JoinRecords) (disk : ℕ) (there written : Disks) (homes after : Homes) (old new : Image) : Type 0 where
  pub changes : ChangesBy (IsOfJoining r disk there homes) old new
  pub joins : IsTrue (written disk)
  pub among : (d : ℕ) → IsTrue (written d) → IsTrue (with_disk disk there d)
  pub states : (d : ℕ) → IsTrue (written d) → StandsOn (status_write r disk there homes) new d
  pub describes : (d : ℕ) → IsTrue (written d) → StandsOn (descriptor_write r disk there homes) new d
  pub turns : (k : Kind) (d : ℕ) → IsTrue (written d) → second_slots k after d ≡ not (second_slots k homes d)

-- Where these have votes enough to write by both descriptors, the image holds the group with the member more as committed.
abbrev pub JoiningIsHeld : Type 0
JoiningIsHeld = (old new : Image) (group next : Descriptor) (row : PvRow) (status : Status) (there written : Disks) (stamp : Stamp) (homes after : Homes) (r : JoinRecords)
    → IsWholeImage old → LetsWrite old group next row status there stamp homes → AreJoinRecords r next status stamp → IsNoLater r.status.stamp r.descriptor.stamp
    → StandsJoined r row.disk there written homes after old new → CanWrite group written → CanWrite next written → HoldsCommitted new next r.told written r.descriptor.stamp after
