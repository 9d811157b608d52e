-- How a session commits its records: what a commit needs, what it writes, and what it leaves.
use Rattle.std.specs.Prelude.{◌≡◌, ◌⊎◌, ◌≢◌, ℕ, ◌+◌, ◌^◌, ◌<◌, ◌≤◌, false, not, List, [], length, None, Ok, IsTrue, IsFalse, IfSome, count_by, ◌||◌, Bool, true, unwrap_or}
use Rattle.lvm_num.specs.declared.record.Kind.{Kind}
use Rattle.lvm_num.specs.declared.record.Kind.TheVariants as kind
use Rattle.lvm_num.specs.declared.place.Pp.{Pp}
use Rattle.lvm_num.specs.declared.descriptor.PvRow.{PvRow}
use Rattle.lvm_num.specs.declared.descriptor.LvRow.{LvRow}
use Rattle.lvm_num.specs.declared.descriptor.Descriptor.{Descriptor}
use Rattle.lvm_num.specs.declared.status.Status.{Status}
use Rattle.lvm_num.specs.Buffer.{Buffer, Sector}
use Rattle.lvm_num.specs.Disks.{Disks, has}
use Rattle.lvm_num.specs.Descriptor.{IsValid, copies_of}
use Rattle.lvm_num.specs.DescriptorBytes.{descriptor_of}
use Rattle.lvm_num.specs.Record.{Frames, longest_content}
use Rattle.lvm_num.specs.Status.{calls_stale, calls_missing}
use Rattle.lvm_num.specs.StatusBytes.{status_bytes}
use Rattle.lvm_num.specs.Votes.{votes_in, total_votes, is_enough_to_write, CanWrite}
use Rattle.lvm_disk.specs.Counts.{Rose}
use Rattle.lvm_disk.specs.Device.{Device, IsReady, image_of}
use Rattle.lvm_disk.specs.Steps.{BothTold}
use Rattle.lvm_disk.specs.Paths.{DeviceStep, Path}
use Rattle.lvm_vol.specs.Facts.{Fact}
use Rattle.lvm_kept.specs.Contents.{contents_of}
use Rattle.lvm_kept.specs.Plans.{Plan}
use Rattle.lvm_kept.specs.Torn.{RecordWrite, IsOfRecord}
use Rattle.lvm_kept.specs.Group.{IsOneOf, is_of, passes}
use Rattle.lvm_status.specs.passed.Status.{SameMissing, IsLeftIn}
use Rattle.lvm_status.specs.Members.{HasItsRows}
pub use Rattle.lvm_status.specs.Members.{HasSameRows}
use Rattle.lvm_status.specs.Update.{Stored, members_there}
use Rattle.lvm_steps.specs.Moments.{StaysKept, ImagesKept}
use Rattle.lvm_rec.specs.declared.homes.Homes.{Homes}
use Rattle.lvm_write.specs.Parts.{Spends}
use Rattle.lvm_write.specs.Written.{write_of, HaveRoom, KeepsShelf, StandsTold, IsDarkened, IsGivenUp}
use Rattle.lvm_commit.specs.declared.commit.CommitEnd.{CommitEnd}
use Rattle.lvm_commit.specs.declared.commit.CommitEnd.TheVariants as commit_end
use Rattle.lvm_commit.specs.Committed.{next_stamp, IsAlike, MayMark, HoldsCommitted}
use Rattle.lvm_commit.specs.LawsOfVolumes.{VolumesServe, LeavesOthers}
use Rattle.lvm_commit.specs.LawsOfFinding.{FindsNothingNewOn, FindsNoMoreOn}

-- ---- the answers

-- the buffer that comes back: Done or WentOff
abbrev pub IfBack : CommitEnd → (Buffer → Type 0) → Type 0
IfBack (commit_end.Done buf) P = P buf
IfBack (commit_end.WentOff have total buf) P = P buf
IfBack commit_end.Dark P = Unit {0}
IfBack commit_end.Stuck P = Unit {0}

-- it is Done, and nothing has changed
abbrev pub EndsAtOnce : CommitEnd → Type 0 → Type 0
EndsAtOnce (commit_end.Done buf) Same = Same
EndsAtOnce (commit_end.WentOff have total buf) Same = ⊥
EndsAtOnce commit_end.Dark Same = ⊥
EndsAtOnce commit_end.Stuck Same = ⊥

-- ---- the members

-- the members that aren't missing
abbrev pub there : Stored → Disks
there u = members_there u.group u.wanted

-- how many they are
abbrev pub many_there : Stored → ℕ
many_there u = count_by (λ (row : PvRow). not (calls_missing u.wanted row.disk)) u.group.pvs

-- the session is one of this group
abbrev pub IsOf : Descriptor → Stored → Type 0
IsOf group u = record group { lvs = [] } ≡ u.group

-- What a session needs before it writes records: its group is valid, with a row for each member, it has begun, nothing is in flight, and the members
-- that aren't missing have room for records and votes enough to write.
pub record MaySettle (group : Descriptor) (u : Stored) (device : Device) : Type 0 where
  pub valid : IsValid group
  pub own : IsOf group u
  pub idle : u.in_flight ≡ None
  pub id : u.wanted.id ≡ u.group.id
  pub rows : HasItsRows u.group u.wanted
  pub epoch : u.stamp.epoch ≢ 0
  pub room : HaveRoom device (there u)
  pub votes : CanWrite u.group (there u)

-- so many numbers are left for stamps, and one more for each member that isn't missing
abbrev pub HasNumbers : ℕ → Stored → Type 0
HasNumbers more u = u.stamp.seq + more + many_there u < 2 ^ 32

-- So many records may be committed: the shelf takes transfers, the session may settle, and numbers are left for the records' stamps.
pub record MayCommit (records : ℕ) (group : Descriptor) (u : Stored) (device : Device) : Type 0 where
  pub ready : IsReady device
  pub settle : MaySettle group u device
  pub numbers : HasNumbers records u

-- These are the bytes of the descriptor, and one record has room for them.
pub record IsContentOf (group : Descriptor) (content : List ℕ) : Type 0 where
  pub fits : length content ≤ longest_content kind.Descriptor
  pub describes : descriptor_of content ≡ Ok group

-- ---- what is left

-- Nothing is in flight, what is wanted is committed, and the members that aren't missing have votes enough to write.
pub record IsCommitted (u : Stored) : Type 0 where
  pub idle : u.in_flight ≡ None
  pub same : u.committed ≡ u.wanted
  pub votes : CanWrite u.group (there u)

-- the members that aren't missing have these votes, too few to write, and a transfer to one that was there has failed
pub record HasLostQuorum (first last : Stored) (old new : Device) (have total : ℕ) : Type 0 where
  pub have_is : have ≡ votes_in last.group (there last)
  pub total_is : total ≡ total_votes last.group
  pub few : IsFalse (is_enough_to_write last.group have)
  pub disk : ℕ
  pub was : IsTrue (there first disk)
  pub failed : Rose (old.counts.faults disk) (new.counts.faults disk)

-- The group stays, and of what is wanted only this changes: members become missing, each of them after a transfer to it has failed, and further
-- partitions stale.
pub record OnlyLoses (first last : Stored) (old new : Device) : Type 0 where
  pub group : last.group ≡ first.group
  pub rows : HasSameRows first.wanted last.wanted
  pub stale : (p : Pp) → IsTrue (calls_stale first.wanted p) → IsTrue (calls_stale last.wanted p)
  pub dirty : last.wanted.dirty ≡ first.wanted.dirty
  pub stays : (d : ℕ) → IsTrue (calls_missing first.wanted d) → IsTrue (calls_missing last.wanted d)
  pub lost : (d : ℕ) → IsTrue (calls_missing last.wanted d) → IsFalse (calls_missing first.wanted d) → IsTrue (there first d) × Rose (old.counts.faults d) (new.counts.faults d)

-- without an update in flight no write of one is told apart
abbrev pub IsForgotten : Stored → Type 0
IsForgotten u = u.in_flight ≡ None → (disk : ℕ) → (has u.writes.unstarted disk ≡ false) × (has u.writes.started disk ≡ false) × (has u.writes.written disk ≡ false) × (has u.writes.failed disk ≡ false)

-- no copy of the group's volumes is left behind: one on a disk that is missing, of whose logical partition another one is usable, is wanted stale
abbrev pub NoneIsLeft : Descriptor → Stored → Type 0
NoneIsLeft group u = (p : Pp) → IsLeftIn (there u) u.wanted group.lvs p → IsTrue (calls_stale u.wanted p)

-- a copy of one of the group's volumes, and a copy of its logical partition beside it
pub record HasAnother (group : Descriptor) (p : Pp) : Type 0 where
  pub row : LvRow
  pub lp : ℕ
  pub volume : IsOneOf group.lvs row
  pub inside : lp < row.lps
  pub one : IsOneOf (copies_of row lp) p
  pub other : Pp
  pub among : IsOneOf (copies_of row lp) other

-- It is a copy of one of the group's volumes on a disk that is missing at last. Another copy of its logical partition isn't wanted stale, and was on a
-- member that wasn't missing at first.
pub record IsPassedOver (group : Descriptor) (first last : Stored) (p : Pp) : Type 0 where
  pub its : HasAnother group p
  pub absent : IsFalse (there last p.disk)
  pub fresh : IsFalse (calls_stale last.wanted its.other)
  pub was_there : IsTrue (there first its.other.disk)

-- No copy is left behind where none was, and no partition becomes stale for another reason.
pub record MarksLeft (group : Descriptor) (first last : Stored) : Type 0 where
  pub none : NoneIsLeft group first → NoneIsLeft group last
  pub only : (p : Pp) → IsTrue (calls_stale last.wanted p) → IsTrue (calls_stale first.wanted p) ⊎ IsPassedOver group first last p

-- no transfer to a member that isn't missing has failed
abbrev pub AreWell : Stored → Device → Device → Type 0
AreWell last old new = (d : ℕ) → IsTrue (there last d) → new.counts.faults d ≡ old.counts.faults d

-- The stamps rise within their session: by so many numbers at most, and by one more for each member that became missing.
pub record SpendsNumbers (more : ℕ) (first last : Stored) : Type 0 where
  pub epoch : last.stamp.epoch ≡ first.stamp.epoch
  pub rises : first.stamp.seq ≤ last.stamp.seq
  pub most : last.stamp.seq + many_there last ≤ first.stamp.seq + more + many_there first

-- ---- what is written

-- The sector is one of a record under a stamp of this session after one and up to another, in a slot of a member that wasn't missing.
pub record IsOfSession (first last : Stored) (write : RecordWrite) (d s : ℕ) (value : Sector) : Type 0 where
  pub frames : Frames write.kind write.framed
  pub slots : (disk : ℕ) → write.slots disk < 2
  pub targets : (disk : ℕ) → IsTrue (write.targets disk) → IsTrue (there first disk)
  pub epoch : write.framed.stamp.epoch ≡ first.stamp.epoch
  pub later : first.stamp.seq < write.framed.stamp.seq
  pub latest : write.framed.stamp.seq ≤ last.stamp.seq
  pub its : IsOfRecord write d s value

-- it states the status of the group
pub record StatesGroup (group : Descriptor) (write : RecordWrite) : Type 0 where
  pub kind : write.kind ≡ kind.Status
  pub status : Status
  pub own : status.id ≡ group.id
  pub content : write.framed.content ≡ status_bytes status

-- it has these bytes of a descriptor
pub record Describes (content : List ℕ) (write : RecordWrite) : Type 0 where
  pub kind : write.kind ≡ kind.Descriptor
  pub content_is : write.framed.content ≡ content

-- the sector is one of a status of the group,
abbrev pub IsOfStatus : Stored → Stored → Plan
IsOfStatus first last d s value = (write : RecordWrite) × StatesGroup first.group write × IsOfSession first last write d s value

-- or of the descriptor of these bytes, or of a status
abbrev pub IsOfCommit : List ℕ → Stored → Stored → Plan
IsOfCommit content first last d s value = (write : RecordWrite) × (Describes content write ⊎ StatesGroup first.group write) × IsOfSession first last write d s value

-- This one record is written to the members that aren't missing, under the next stamp, and what was wanted still is.
pub record IsOneRecord (kind : Kind) (content : List ℕ) (first last : Stored) (homes : Homes) (old new : Device) : Type 0 where
  pub wanted : last.wanted ≡ first.wanted
  pub stamp : last.stamp ≡ next_stamp first.stamp
  pub writes : KeepsShelf (there first) (IsOfRecord (write_of kind (record { stamp = next_stamp first.stamp; content = content }) (there first) homes)) old new

-- So it is where no member becomes missing.
abbrev pub IsPlain : Kind → List ℕ → Stored → Stored → Homes → Device → Device → Type 0
IsPlain kind content first last homes old new = SameMissing first.wanted last.wanted → IsOneRecord kind content first last homes old new

-- that of what is wanted of the status, where nothing else is committed
abbrev pub IsPlainStatus : Stored → Stored → Homes → Device → Device → Type 0
IsPlainStatus first last homes old new = (first.wanted ≡ first.committed → ⊥) → IsPlain kind.Status (status_bytes first.wanted) first last homes old new

-- ---- what stays kept

-- the disks hold what the session says is committed of the group, where the media is told
abbrev pub SessionIsHeld : Device → Descriptor → Stored → Homes → Type 0
SessionIsHeld device group u homes = IfSome device.media (λ media. HoldsCommitted (image_of device.sizes media) group u.committed (there u) u.stamp homes)

-- what is wanted of the group's volumes may follow what is committed, where the media is told
abbrev pub WantsMarks : Device → Descriptor → Stored → Type 0
WantsMarks device group u = IfSome device.media (λ media. MayMark (contents_of (image_of device.sizes media)) group u.committed u.wanted)

-- What was kept is kept at each moment while a status is committed that may follow.
abbrev pub StatusStaysKept : Descriptor → Stored → Homes → Device → Device → Type 0
StatusStaysKept group first homes old new = Path DeviceStep (λ d. WantsMarks old group first → SessionIsHeld old group first homes → StaysKept old d) old new

-- So it is while the next descriptor is committed, which the history lets differ from the group by some volumes.
abbrev pub DescriptorStaysKept : List ℕ → Stored → Homes → Device → Device → Type 0
DescriptorStaysKept content first homes old new = Path DeviceStep
    (λ d. (group next : Descriptor) (among : ℕ → Bool) (facts : List Fact) → descriptor_of content ≡ Ok next → IsOf group first → SessionIsHeld old group first homes
    → IfSome old.media (λ media. VolumesServe (contents_of (image_of old.sizes media)) facts group among next) → ImagesKept old facts → ImagesKept d facts)
    old new

-- ---- what is found

-- Where the disks held what was committed, nothing is found that wasn't found before,
abbrev pub StatusFindsNothingNew : Stored → Homes → Device → Device → Type 0
StatusFindsNothingNew first homes old new = (group : Descriptor) → IsOf group first → SessionIsHeld old group first homes → FindsNothingNewOn old new

-- or it is the next descriptor, which differs from the group in its volumes alone.
abbrev pub CommitFindsNoMore : List ℕ → Stored → Homes → Device → Device → Type 0
CommitFindsNoMore content first homes old new =
    (group next : Descriptor) → descriptor_of content ≡ Ok next → IsOf group first → IsAlike next group → SessionIsHeld old group first homes → FindsNoMoreOn next old new

-- whatever is found of other groups was found before, where the media is told
abbrev pub OthersAreLeft : ℕ → Device → Device → Type 0
OthersAreLeft id old new = BothTold old.media new.media (λ was is. LeavesOthers (contents_of (image_of old.sizes was)) (contents_of (image_of new.sizes is)) id)

-- each disk that showed a descriptor of the group shows one still, also one that was lost, where the media is told
abbrev pub MembersAreLeft : ℕ → Device → Device → Type 0
MembersAreLeft id old new =
    BothTold old.media new.media (λ was is. (d : ℕ) → passes (is_of id) ((contents_of (image_of old.sizes was)).descriptor d) ≡ true → passes (is_of id) ((contents_of (image_of new.sizes is)).descriptor d) ≡ true)

-- Where the disks held what was committed, they hold what now is, and other groups are left as they were: of the same group,
abbrev pub StaysHeld : Stored → Stored → Homes → Homes → Device → Device → Type 0
StaysHeld first last homes_old homes_new old new =
    (group : Descriptor) → IsOf group first → SessionIsHeld old group first homes_old → SessionIsHeld new group last homes_new × OthersAreLeft group.id old new

-- or of the next one, which differs from it in its volumes alone; then the members are left too.
abbrev pub ComesHeld : List ℕ → Stored → Stored → Homes → Homes → Device → Device → Type 0
ComesHeld content first last homes_old homes_new old new =
    (group next : Descriptor) → descriptor_of content ≡ Ok next → IsOf group first → IsAlike next group → SessionIsHeld old group first homes_old
    → SessionIsHeld new next last homes_new × OthersAreLeft group.id old new × MembersAreLeft group.id old new

-- ---- what is committed

-- The call wrote a record of this status, with a number below this one, and members with votes enough to write had it at a moment on the way.
pub record WasCommitted (first : Stored) (status : Status) (below : ℕ) (old new : Device) : Type 0 where
  pub write : RecordWrite
  pub kind : write.kind ≡ kind.Status
  pub content : write.framed.content ≡ status_bytes status
  pub epoch : write.framed.stamp.epoch ≡ first.stamp.epoch
  pub later : first.stamp.seq < write.framed.stamp.seq
  pub earlier : write.framed.stamp.seq < below
  pub members : Disks
  pub votes : CanWrite first.group members
  pub moment : Device
  pub before : Path DeviceStep (λ d. Unit {0}) old moment
  pub after : Path DeviceStep (λ d. Unit {0}) moment new
  pub stands : (d : ℕ) → IsTrue (members d) → StandsTold write moment d

-- What was committed still is, or what a record of the call before its last one committed.
abbrev pub StaysCommitted : Stored → Stored → Device → Device → Type 0
StaysCommitted first last old new = (last.committed ≡ first.committed) ⊎ WasCommitted first last.committed last.stamp.seq old new

-- what is committed or in flight calls it stale
abbrev pub is_held_so : Stored → Pp → Bool
is_held_so u p = calls_stale u.committed p || calls_stale (unwrap_or u.in_flight u.committed) p

-- Neither calls a further partition stale that isn't wanted stale.
abbrev pub HoldsWithin : Stored → Stored → Type 0
HoldsWithin first last = (p : Pp) → is_held_so last p ≡ true → (is_held_so first p ≡ true) ⊎ (calls_stale last.wanted p ≡ true)

-- ---- what a commit leaves, and how it ends

-- Whatever the answer: the group stays, members may be lost and the copies stale that they leave behind, numbers are spent for stamps, only this was
-- brought to the members that weren't missing, and patience fell by what was waited.
pub record CommitLeaves (group : Descriptor) (P : Plan) (before after : ℕ) (first last : Stored) (old new : Device) : Type 0 where
  pub loses : OnlyLoses first last old new
  pub left : MarksLeft group first last
  pub forgotten : IsForgotten first → IsForgotten last
  pub numbers : SpendsNumbers 1 first last
  pub keeps : KeepsShelf (there first) P old new
  pub spends : Spends before after old new

-- The buffer of this number is back, nothing is out, the power was on all the time, and no transfer to a member that isn't missing has failed.
pub record ComesBack (number : ℕ) (last : Stored) (old new : Device) (buf : Buffer) : Type 0 where
  pub number_is : buf.number ≡ number
  pub ready : IsReady new
  pub cuts : new.counts.cuts ≡ old.counts.cuts
  pub well : AreWell last old new

-- What is wanted is committed; what was held is held further, and where no member was lost one record was written, or none.
pub record EndsCommitted (Held Plain : Type 0) (number : ℕ) (last : Stored) (old new : Device) (buf : Buffer) : Type 0 where
  pub back : ComesBack number last old new buf
  pub committed : IsCommitted last
  pub held : Held
  pub plain : Plain

-- Too few members are left, and each record that was written lost one.
pub record EndsWithoutQuorum (number : ℕ) (first last : Stored) (old new : Device) (have total : ℕ) (buf : Buffer) : Type 0 where
  pub back : ComesBack number last old new buf
  pub lost : HasLostQuorum first last old new have total
  pub spent : SpendsNumbers 0 first last
  pub committed : StaysCommitted first last old new

-- how a commit ends, by its answer
abbrev pub SettleEnds : Type 0 → Type 0 → ℕ → ℕ → Stored → Stored → Device → Device → CommitEnd → Type 0
SettleEnds Held Plain number before first last old new (commit_end.Done buf) = EndsCommitted Held Plain number last old new buf
SettleEnds Held Plain number before first last old new (commit_end.WentOff have total buf) = EndsWithoutQuorum number first last old new have total buf
SettleEnds Held Plain number before first last old new commit_end.Dark = IsDarkened number old new × StaysCommitted first last old new
SettleEnds Held Plain number before first last old new commit_end.Stuck = IsGivenUp number before old new × StaysCommitted first last old new

-- so ends that of a status, of which nothing is written where nothing else is wanted than is committed
abbrev pub StatusEnds : ℕ → ℕ → Stored → Stored → Homes → Homes → Device → Device → CommitEnd → Type 0
StatusEnds number before first last homes next old new result = SettleEnds (StaysHeld first last homes next old new) (IsPlainStatus first last homes old new) number before first last old new result

-- and that of the descriptor of these bytes
abbrev pub DescriptorEnds : List ℕ → ℕ → ℕ → Stored → Stored → Homes → Homes → Device → Device → CommitEnd → Type 0
DescriptorEnds content number before first last homes next old new result =
    SettleEnds (ComesHeld content first last homes next old new) (IsPlain kind.Descriptor content first last homes old new) number before first last old new result
