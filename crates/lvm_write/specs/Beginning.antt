-- The three writes with which a session of a group begins, and what lets them be made.
use Rattle.std.specs.Prelude.{◌≡◌, ◌⊎◌, ℕ, ◌≤◌, Bool, if◌then◌else◌, List, [], ◌∷◌, length, IsTrue, true, Some}
use Rattle.lvm_num.specs.declared.record.Framed.{Framed}
use Rattle.lvm_num.specs.declared.record.Kind.TheVariants as kind
use Rattle.lvm_num.specs.declared.descriptor.Descriptor.{Descriptor}
use Rattle.lvm_num.specs.declared.status.Status.{Status}
use Rattle.lvm_num.specs.Disks.{Disks}
use Rattle.lvm_num.specs.DescriptorBytes.{descriptor_of}
use Rattle.lvm_num.specs.StatusBytes.{status_of}
use Rattle.lvm_num.specs.Record.{Stamped, stamp_lt}
use Rattle.lvm_disk.specs.Device.{Device, Image}
use Rattle.lvm_kept.specs.Contents.{contents_of}
use Rattle.lvm_kept.specs.Group.{is_voter, status_among, Finds}
use Rattle.lvm_kept.specs.Plans.{Plan}
use Rattle.lvm_kept.specs.Torn.{RecordWrite, MayWriteAll, written as as_read, IsOfRecord, IsOfNote}
use Rattle.lvm_steps.specs.Making.{MayMake, IsUnused}
use Rattle.lvm_steps.specs.VaryingOn.{MayRestamp, CarriesMarks, HasNoActive}
use Rattle.lvm_rec.specs.declared.homes.Homes.{Homes}
use Rattle.lvm_write.specs.Notes.{empty_note_sector, NoteTold}
use Rattle.lvm_write.specs.Written.{write_of, StandsTold}

-- What is written when a session begins: its epoch, the contents of the two records with their sequences, to these disks, by the slots that come next.
pub record Beginning : Type 0 where
  pub epoch : ℕ
  pub descriptor : Framed
  pub status : Framed
  pub targets : Disks
  pub homes : Homes

-- the write of the descriptor
abbrev pub describes : Beginning → RecordWrite
describes b = write_of kind.Descriptor b.descriptor b.targets b.homes

-- the write of the status
abbrev pub states : Beginning → RecordWrite
states b = write_of kind.Status b.status b.targets b.homes

-- one of the three writes
pub data Part : Type 0 where
  TheDescriptor : Part
  TheStatus : Part
  TheNotes : Part

-- in which order they are made for a new group
abbrev pub new_order : List Part
new_order = TheNotes ∷ TheStatus ∷ TheDescriptor ∷ []

-- and for one that was there, whose notes are emptied or stay
abbrev pub again_order : Bool → List Part
again_order forget = TheDescriptor ∷ TheStatus ∷ (if forget then TheNotes ∷ [] else [])

-- the descriptor and the status with these sequences
abbrev pub beginning_by : ℕ → ℕ → ℕ → List ℕ → List ℕ → Disks → Homes → Beginning
beginning_by described stated epoch descriptor status targets homes = record {
  epoch = epoch;
  descriptor = record { stamp = record { epoch = epoch; seq = described }; content = descriptor };
  status = record { stamp = record { epoch = epoch; seq = stated }; content = status };
  targets = targets;
  homes = homes;
}

-- a new group: its status has sequence 1, its descriptor 2
abbrev pub new_beginning : ℕ → List ℕ → List ℕ → Disks → Homes → Beginning
new_beginning epoch descriptor status targets homes = beginning_by 2 1 epoch descriptor status targets homes

-- one that was there: its descriptor has sequence 1, its status 2
abbrev pub again_beginning : ℕ → List ℕ → List ℕ → Disks → Homes → Beginning
again_beginning epoch descriptor status targets homes = beginning_by 1 2 epoch descriptor status targets homes

-- what a part may bring to each sector
abbrev pub brought : Beginning → Part → Plan
brought b TheDescriptor = IsOfRecord (describes b)
brought b TheStatus = IsOfRecord (states b)
brought b TheNotes = IsOfNote b.targets (empty_note_sector b.epoch)

-- what some of the parts may bring
abbrev pub IsOfParts : Beginning → List Part → Plan
IsOfParts b [] d s value = ⊥
IsOfParts b (part ∷ parts) d s value = brought b part d s value ⊎ IsOfParts b parts d s value

-- the part stands on the disk, where the content is told
abbrev pub PartIsWritten : Beginning → Part → Device → ℕ → Type 0
PartIsWritten b TheDescriptor = StandsTold (describes b)
PartIsWritten b TheStatus = StandsTold (states b)
PartIsWritten b TheNotes = NoteTold (empty_note_sector b.epoch)

-- each of these parts stands on each target
abbrev pub AllStand : Beginning → List Part → Device → Type 0
AllStand b [] device = Unit {0}
AllStand b (part ∷ parts) device = ((d : ℕ) → IsTrue (b.targets d) → PartIsWritten b part device d) × AllStand b parts device

-- ---- what lets them be made, by what stands on the media

-- A new group.
pub record MayBeginNew (b : Beginning) (group : Descriptor) (status : Status) (image : Image) : Type 0 where
  pub make : MayMake (contents_of image) group
  pub describe : MayWriteAll Descriptor descriptor_of (describes b) group image
  pub state : MayWriteAll Status status_of (states b) status image
  -- by the clock
  pub unused : IsUnused (contents_of image) status.id b.status.stamp

-- A group that these disks find, without volumes in mode active where its notes are emptied.
pub record MayBeginAgain (b : Beginning) (forget : Bool) (group : Descriptor) (status : Status) (disks : Disks) (was : Stamped Status) (image : Image) : Type 0 where
  -- by the choice: the disks hold a quorum of the group, of which this is the newest status, and the records go to its voters
  pub members : 1 ≤ length group.pvs
  pub found : Finds (contents_of image) disks group.id group
  pub was_found : status_among (contents_of image) disks group.id ≡ Some was
  pub voters : (d : ℕ) → IsTrue (is_voter (contents_of image) disks group.id d) → IsTrue (b.targets d)
  pub restamp : MayRestamp (contents_of image) group b.targets (as_read (describes b) group)
  pub describe : MayWriteAll Descriptor descriptor_of (describes b) group image
  -- by the way the next status is built
  pub own : status.id ≡ group.id
  pub marks : CarriesMarks (contents_of image) group disks was.value status
  pub state : MayWriteAll Status status_of (states b) status image
  -- by the clock
  pub later : (d : ℕ) (r : Stamped Status) → (contents_of image).status d ≡ Some r → r.value.id ≡ group.id → stamp_lt r.stamp b.status.stamp ≡ true
  -- by its rows
  pub quiet : IsTrue forget → HasNoActive group
