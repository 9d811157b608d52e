-- A group of which the rule of votes, the size or the spares change, or that some members leave: when it may, and what the disks of its session hold meanwhile.
use Rattle.std.specs.Prelude.{◌≡◌, ◌⊎◌, ℕ, ◌&&◌, not, if◌then◌else◌, List, filter, map, true, false, Ok, Some, IsTrue}
use Rattle.lvm_num.specs.declared.record.Kind.TheVariants as kind
use Rattle.lvm_num.specs.declared.record.Stamp.{Stamp}
use Rattle.lvm_num.specs.declared.record.Framed.{Framed}
use Rattle.lvm_num.specs.declared.descriptor.PvRow.{PvRow}
use Rattle.lvm_num.specs.declared.descriptor.Descriptor.{Descriptor}
use Rattle.lvm_num.specs.declared.status.Status.{Status}
use Rattle.lvm_num.specs.Disks.{Disks}
use Rattle.lvm_num.specs.Descriptor.{IsValid, is_member}
use Rattle.lvm_num.specs.DescriptorBytes.{descriptor_of}
use Rattle.lvm_num.specs.Record.{Frames, Stamped}
use Rattle.lvm_num.specs.Votes.{all_disks, CanRead, CanWrite}
use Rattle.lvm_vol.specs.Facts.{Fact}
use Rattle.lvm_disk.specs.Device.{Image, IsWholeImage}
use Rattle.lvm_kept.specs.Contents.{Contents, contents_of}
use Rattle.lvm_kept.specs.Group.{has_room, members_in}
use Rattle.lvm_kept.specs.Kept.{Kept}
use Rattle.lvm_kept.specs.Plans.{ChangesBy}
use Rattle.lvm_kept.specs.Torn.{IsOfRecord}
use Rattle.lvm_status.specs.Rerowed.{IsRerowed}
use Rattle.lvm_rec.specs.declared.homes.Homes.{Homes}
use Rattle.lvm_rec.specs.Homes.{second_slots}
use Rattle.lvm_rec.specs.Slots.{slot_for}
use Rattle.lvm_write.specs.Written.{write_of}
use Rattle.lvm_steps.specs.Laws.{IsNoLater}
use Rattle.lvm_commit.specs.Committed.{next_stamp, MayMark, ShowsCommitted, HoldsCommitted}
use Rattle.lvm_commit.specs.LawsOfWrites.{StandsWritten}
use Rattle.lvm_change_votes.specs.Meeting.{AreNeighbours}
use Rattle.lvm_change_laws.specs.Turning.{AreTwo}

-- ---- when it may

-- the two differ in the rule of votes and in the size of the group alone
abbrev pub DiffersInRule : Descriptor → Descriptor → Type 0
DiffersInRule group next = next ≡ record group { quorum = next.quorum; even = next.even; big = next.big }

-- The rule may change so: both descriptors are valid, the members that aren't missing have votes enough to write by both, and none is missing where quorum
-- checking is switched off, since all votes must then be found.
pub record MayChangeRule (group next : Descriptor) (there : Disks) : Type 0 where
  pub valid : IsValid group
  pub valid_next : IsValid next
  pub differs : DiffersInRule group next
  pub enough : CanWrite group there
  pub enough_too : CanWrite next there
  pub found : (next.quorum ≡ true) ⊎ (group.quorum ≡ false) ⊎ ((d : ℕ) → IsTrue (is_member next d) → IsTrue (there d))

-- those whose disk isn't among these stay, in their order
abbrev pub staying : Disks → List PvRow → List PvRow
staying leaves rows = filter (λ (row : PvRow). not (leaves row.disk)) rows

-- the rows of members, none of which is a spare
abbrev pub unspared : List PvRow → List PvRow
unspared rows = map (λ (row : PvRow). record row { spare = false }) rows

-- Members on these disks leave a group; its rule of votes, its size and which of its members are spares may change with it. Both descriptors are valid and neighbours, which
-- else are alike; the members that aren't missing have votes enough to write by both; and none of the next one is missing where quorum checking is switched off.
pub record MayChange (leaves : Disks) (group next : Descriptor) (there : Disks) : Type 0 where
  pub valid : IsValid group
  pub valid_next : IsValid next
  pub differs : next ≡ record group { pvs = next.pvs; quorum = next.quorum; even = next.even; big = next.big }
  pub members : unspared next.pvs ≡ staying leaves (unspared group.pvs)
  pub near : AreNeighbours group next
  pub enough : CanWrite group there
  pub enough_too : CanWrite next there
  pub found : (next.quorum ≡ true) ⊎ (group.quorum ≡ false) ⊎ ((d : ℕ) → IsTrue (is_member next d) → IsTrue (there d))

abbrev pub no_member : Disks
no_member disk = false

-- So a rule may change: no member leaves.
abbrev pub RuleIsChange : Type 0
RuleIsChange = (group next : Descriptor) (there : Disks) → MayChangeRule group next there → MayChange no_member group next there

-- ---- what it lets

-- The disks are open to the next descriptor of a group: the two are of one group, all disks together can read by the next one, and its members that aren't missing have the
-- sectors that it asks for.
pub record IsOpenTo (c : Contents) (group next : Descriptor) (there : Disks) : Type 0 where
  pub two : AreTwo group next
  pub reads : CanRead next (members_in c all_disks group.id next)
  pub room : (d : ℕ) → IsTrue (there d) → IsTrue (is_member next d) → IsTrue (has_room c d next)

-- So a session's group may turn to it, where those members have votes enough to write by both.
pub record MayTurnTo (c : Contents) (group next : Descriptor) (there : Disks) : Type 0 where
  pub opened : IsOpenTo c group next there
  pub enough : CanWrite group there
  pub enough_too : CanWrite next there

-- Where it may change so they are open to it,
abbrev pub ChangeOpens : Type 0
ChangeOpens = (c : Contents) (leaves : Disks) (group next : Descriptor) (status : Status) (there : Disks) → MayChange leaves group next there → ShowsCommitted c group status there → IsOpenTo c group next there

-- and stay so where statuses are written.
abbrev pub StatusesLeaveOpen : Type 0
StatusesLeaveOpen = (old new : Contents) (group next : Descriptor) (there written : Disks) → new ≡ record old { status = new.status } → ((d : ℕ) → IsTrue (written d) → IsTrue (there d))
    → IsOpenTo old group next there → IsOpenTo new group next written

-- The status in the rows of the next descriptor may follow the committed one: of the group's copies and volumes it says the same.
abbrev pub RerowedMayFollow : Type 0
RerowedMayFollow = (c : Contents) (group next : Descriptor) (was told : Status) → AreTwo group next → IsRerowed next was told → MayMark c group was told

-- ---- while the next descriptor is written

-- Whatever of it has landed, the history is kept;
abbrev pub TurnWriteKeeps : Type 0
TurnWriteKeeps = (group next : Descriptor) (status : Status) (there : Disks) (stamp : Stamp) (homes : Homes) (framed : Framed) (old new : Image) (facts : List Fact)
    → IsWholeImage old → HoldsCommitted old group status there stamp homes → MayTurnTo (contents_of old) group next there → Frames kind.Descriptor framed → descriptor_of framed.content ≡ Ok next
    → IsNoLater (next_stamp stamp) framed.stamp → ChangesBy (IsOfRecord (write_of kind.Descriptor framed there homes)) old new → Kept (contents_of old) facts → Kept (contents_of new) facts

-- the members by a descriptor among some disks
abbrev pub members_among : Descriptor → Disks → Disks
members_among d set disk = set disk && is_member d disk

-- and once it stands on members with votes enough to write by both, it is the committed one.
abbrev pub TurnIsHeld : Type 0
TurnIsHeld = (group next : Descriptor) (status : Status) (there written : Disks) (stamp : Stamp) (homes after : Homes) (framed : Framed) (old new : Image)
    → IsWholeImage old → HoldsCommitted old group status there stamp homes → MayTurnTo (contents_of old) group next there → Frames kind.Descriptor framed → descriptor_of framed.content ≡ Ok next
    → IsNoLater (next_stamp stamp) framed.stamp → StandsWritten (write_of kind.Descriptor framed there homes) written homes after old new → CanWrite group written → CanWrite next written
    → HoldsCommitted new next status (members_among next written) framed.stamp after

-- The disk shows this descriptor, which went to the slot that these homes say; the other slot holds the older one.
pub record IsShownOn (image : Image) (next : Descriptor) (homes : Homes) (disk : ℕ) : Type 0 where
  pub record_is : Stamped Descriptor
  pub value : record_is.value ≡ next
  pub shown : (contents_of image).descriptor disk ≡ Some record_is
  pub older : slot_for descriptor_of kind.Descriptor (image.sector disk) ≡ (if second_slots kind.Descriptor homes disk then 0 else 1)

-- So it is on each of them, also on one that is no member any more.
abbrev pub TurnIsShown : Type 0
TurnIsShown = (group next : Descriptor) (status : Status) (there written : Disks) (stamp : Stamp) (homes after : Homes) (framed : Framed) (old new : Image)
    → IsWholeImage old → HoldsCommitted old group status there stamp homes → MayTurnTo (contents_of old) group next there → Frames kind.Descriptor framed → descriptor_of framed.content ≡ Ok next
    → IsNoLater (next_stamp stamp) framed.stamp → StandsWritten (write_of kind.Descriptor framed there homes) written homes after old new
    → (disk : ℕ) → IsTrue (written disk) → IsShownOn new next homes disk
