-- What is listed of the group that is on.
use Rattle.std.specs.Prelude.{◌≡◌, ◌<◌, ◌≤◌, ◌⊎◌, ℕ, Bool, List, Option, Some, None, if◌then◌else◌}
use Rattle.lvm_num.specs.declared.descriptor.Descriptor.{Descriptor}
use Rattle.lvm_num.specs.declared.descriptor.PvRow.{PvRow}
use Rattle.lvm_num.specs.declared.status.Status.{Status}
use Rattle.lvm_num.specs.Descriptor.{member_of}
use Rattle.lvm_show.specs.Listings.{group_text, volumes_text, volume_map_text, disk_text}
use Rattle.lvm_core.specs.Looking.{IsNumberOf, HasNoVolumeNamed}
use Rattle.lvm_session.specs.State.{Core}
use Rattle.lvm_group_lines.specs.Replies.{Shows}
use Rattle.lvm_group_lines.specs.declared.reply.Refusal.{Refusal}
use Rattle.lvm_group_lines.specs.declared.reply.Reply.{Reply}
use Rattle.lvm_group_lines.specs.declared.reply.Refusal.TheVariants as refusal
use Rattle.lvm_group_lines.specs.declared.reply.Reply.TheVariants as reply

-- the answer is this refusal
abbrev pub IsAnswered : Reply → Refusal → Type 0
IsAnswered answer why = answer ≡ reply.Refused why

-- the listing of a group, or of its volumes
abbrev pub listing_of : Bool → Descriptor → Status → List ℕ
listing_of volumes group status = if volumes then volumes_text group status else group_text group status

-- `lsvg` of a group with this status, if it has the name
pub data NamedShows (volumes : Bool) (name : List ℕ) (group : Descriptor) (status : Status) (answer : Reply) : Type 0 where
  OtherGroup : (group.name ≡ name → ⊥) → IsAnswered answer refusal.NoGroup → NamedShows volumes name group status answer
  ListsGroup : group.name ≡ name → Shows (listing_of volumes group status) answer → NamedShows volumes name group status answer

-- and where none may be on
pub data GroupShows (volumes : Bool) (name : List ℕ) (session : Option Core) (answer : Reply) : Type 0 where
  NoGroupToList : session ≡ None → IsAnswered answer refusal.NoGroup → GroupShows volumes name session answer
  GroupThatIsOn : (core : Core) → session ≡ Some core → NamedShows volumes name core.descriptor core.status.committed answer → GroupShows volumes name session answer

-- `lslv -m` of a group with this status
pub data CopiesShow (name : List ℕ) (group : Descriptor) (status : Status) (answer : Reply) : Type 0 where
  NoSuchVolume : HasNoVolumeNamed group.lvs name → IsAnswered answer refusal.NoVolume → CopiesShow name group status answer
  ListsVolume : (lv : ℕ) → IsNumberOf group.lvs name lv → Shows (volume_map_text group status lv) answer → CopiesShow name group status answer

-- and where none may be on
pub data VolumeShows (name : List ℕ) (session : Option Core) (answer : Reply) : Type 0 where
  NoGroupForVolume : session ≡ None → IsAnswered answer refusal.NoGroup → VolumeShows name session answer
  VolumeOfGroup : (core : Core) → session ≡ Some core → CopiesShow name core.descriptor core.status.committed answer → VolumeShows name session answer

-- `lspv` of a group with this status: the disk is on the shelf, and a member
pub data MemberShows (disk disks : ℕ) (group : Descriptor) (status : Status) (answer : Reply) : Type 0 where
  NoSuchMember : (disks ≤ disk) ⊎ (member_of group disk ≡ None) → IsAnswered answer (refusal.NoDisk disk) → MemberShows disk disks group status answer
  ListsMember : (row : PvRow) → disk < disks → member_of group disk ≡ Some row → Shows (disk_text group status disk) answer → MemberShows disk disks group status answer

-- and where none may be on
pub data DiskShows (disk disks : ℕ) (session : Option Core) (answer : Reply) : Type 0 where
  NoGroupForDisk : session ≡ None → IsAnswered answer refusal.NoGroup → DiskShows disk disks session answer
  DiskOfGroup : (core : Core) → session ≡ Some core → MemberShows disk disks core.descriptor core.status.committed answer → DiskShows disk disks session answer
