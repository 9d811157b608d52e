-- What a session's disks show of a volume that is being made or removed.
use Rattle.std.specs.Prelude.{◌≡◌, ℕ, ◌<◌, ◌==◌, Bool, ◌++◌, ◌∷◌, [], List, None, IsTrue, IsFalse, is_some}
use Rattle.lvm_num.specs.declared.place.Pp.{Pp}
use Rattle.lvm_num.specs.declared.record.Stamp.{Stamp}
use Rattle.lvm_num.specs.declared.descriptor.Mode.{Mode}
use Rattle.lvm_num.specs.declared.descriptor.LvRow.{LvRow}
use Rattle.lvm_num.specs.declared.descriptor.Descriptor.{Descriptor}
use Rattle.lvm_num.specs.declared.status.Status.{Status}
use Rattle.lvm_num.specs.Buffer.{zero_sector}
use Rattle.lvm_num.specs.Disks.{Disks}
use Rattle.lvm_num.specs.Descriptor.{copies_of, volume_of}
use Rattle.lvm_num.specs.Record.{Stamped}
use Rattle.lvm_num.specs.Status.{calls_stale}
use Rattle.lvm_num.specs.Votes.{all_disks, CanWrite}
use Rattle.lvm_vol.specs.declared.entry.Vol.TheVariants.{Lv}
use Rattle.lvm_vol.specs.Facts.{Fact, Making, Made, Split, Removed, Cut}
use Rattle.lvm_vol.specs.May.{known, IsValue}
use Rattle.lvm_vol.specs.Standing.{Open, volumes_in}
use Rattle.lvm_disk.specs.Device.{Image, Flight, Device, image_of, MayLeave, IsWholeImage}
use Rattle.lvm_disk.specs.Steps.{BothTold}
use Rattle.lvm_kept.specs.Contents.{Contents, contents_of}
use Rattle.lvm_kept.specs.Group.{Finds, IsFound, IsOneFound, block_at, IsBlockOf, IsOneOf}
pub use Rattle.lvm_kept.specs.Group.{IsOnlyGroup}
use Rattle.lvm_kept.specs.Committed.{IsWithinDisks}
use Rattle.lvm_kept.specs.Kept.{StandsAs, Kept}
use Rattle.lvm_kept.specs.Changes.{IsFoundByAll, IsFoundByNone}
use Rattle.lvm_kept.specs.Moments.{Moment}
use Rattle.lvm_kept.specs.Raw.{OnlyAdds}
use Rattle.lvm_kept.specs.Torn.{DescriptorsChange}
use Rattle.lvm_steps.specs.Moments.{RunBegins, Keeps}
use Rattle.lvm_steps.specs.Requests.{IsOfData, at}
use Rattle.lvm_steps.specs.Committing.{DiffersInVolume, VolumeIsServed}
use Rattle.lvm_parting.specs.Among.{DiffersAmong, MayCommitAmong}
use Rattle.lvm_steps.specs.VolumeEntries.{AreZeros}
use Rattle.lvm_rec.specs.declared.homes.Homes.{Homes}
use Rattle.lvm_steps.specs.Laws.{IsNoLater, ShowsBefore}
use Rattle.lvm_commit.specs.Committed.{next_stamp, ShowsCommitted, HoldsCommitted}
use Rattle.lvm_commit.specs.Laws.{IsLaterDescriptor}

-- ---- the descriptor that names it, or names it no more

-- Whatever the disks show has a stamp before each that the session may use next.
abbrev pub NextIsLater : Type 0
NextIsLater = (image : Image) (group : Descriptor) (status : Status) (there : Disks) (stamp next : Stamp) (homes : Homes)
    → IsWholeImage image → HoldsCommitted image group status there stamp homes → IsNoLater (next_stamp stamp) next → ShowsBefore next (contents_of image)

-- What is asked of the history and of the blocks where the next descriptor is to be committed: it differs by one volume alone, which by the history may be
-- named or not, as it says; where it names it, it has the shape with which it was made, and its blocks are served.
pub record VolumeServes (c : Contents) (facts : List Fact) (group : Descriptor) (lv : ℕ) (next : Descriptor) : Type 0 where
  pub differs : DiffersInVolume lv group next
  pub stands : StandsAs group.mib (volumes_in facts lv).standing (volumes_in facts lv).shape (volume_of next lv)
  pub served : (row : LvRow) → IsOneOf next.lvs row → row.number ≡ lv → VolumeIsServed c facts group row

-- So it is asked where it differs by several, of each of them.
pub record VolumesServe (c : Contents) (facts : List Fact) (group : Descriptor) (among : ℕ → Bool) (next : Descriptor) : Type 0 where
  pub differs : DiffersAmong among group next
  pub stands : (lv : ℕ) → IsTrue (among lv) → StandsAs group.mib (volumes_in facts lv).standing (volumes_in facts lv).shape (volume_of next lv)
  pub served : (row : LvRow) → IsOneOf next.lvs row → IsTrue (among row.number) → VolumeIsServed c facts group row

-- One is several.
abbrev pub OneServes : Type 0
OneServes = (c : Contents) (facts : List Fact) (group : Descriptor) (lv : ℕ) (next : Descriptor) → VolumeServes c facts group lv next → VolumesServe c facts group (λ n. n == lv) next

-- Then it may be, since the disks show what is committed.
abbrev pub CommittedMayCommit : Type 0
CommittedMayCommit = (c : Contents) (group : Descriptor) (status : Status) (there targets : Disks) (facts : List Fact) (among : ℕ → Bool) (next : Stamped Descriptor)
    → ShowsCommitted c group status there → ((d : ℕ) → IsTrue (targets d) → IsTrue (there d)) → IsLaterDescriptor c group next → VolumesServe c facts group among next.value
    → MayCommitAmong c facts group among targets next

-- each logical partition of the volume has a copy on a member that isn't missing, which the status doesn't call stale
abbrev pub HasFreshCopies : Status → Disks → LvRow → Type 0
HasFreshCopies status there row = (lp : ℕ) → lp < row.lps → (p : Pp) × IsOneOf (copies_of row lp) p × IsTrue (there p.disk) × IsFalse (calls_stale status p)

-- Zeros on all copies of a new volume are found with each of its partitions fresh, since whatever status is read is the committed one.
abbrev pub ZerosAreFound : Type 0
ZerosAreFound = (c : Contents) (group : Descriptor) (status : Status) (there : Disks) (facts : List Fact) (row : LvRow)
    → IsWithinDisks c → CanWrite group there → ShowsCommitted c group status there → Kept c facts
    → ((lp n : ℕ) (p : Pp) → IsOneOf (copies_of row lp) p → IsBlockOf group.mib row lp n → block_at c group.mib p n ≡ zero_sector)
    → ((lp n : ℕ) → IsBlockOf group.mib row lp n → IsValue (known (facts ++ Cut ∷ []) (Lv row.number) n) zero_sector)
    → HasFreshCopies status there row → AreZeros c facts group row

-- ---- its entries

-- whatever is found of another group was found before
abbrev pub LeavesOthers : Contents → Contents → ℕ → Type 0
LeavesOthers old new id = (other : ℕ) (k : Descriptor) → (other ≡ id → ⊥) → IsFound new other k → IsFound old other k

-- A descriptor of the group leaves the others as they were found,
abbrev pub DescriptorLeavesOthers : Type 0
DescriptorLeavesOthers = (id : ℕ) (targets : Disks) (next : Stamped Descriptor) (old new : Contents)
    → next.value.id ≡ id → DescriptorsChange targets next old new → LeavesOthers old new id

-- and so do statuses, notes and data.
abbrev pub RestLeavesOthers : Type 0
RestLeavesOthers = (id : ℕ) (old new : Contents) → new ≡ record old { status = new.status; note = new.note; block = new.block } → LeavesOthers old new id

-- So the only group stays the only one.
abbrev pub OnlyGroupStays : Type 0
OnlyGroupStays = (id : ℕ) (old new : Contents) → LeavesOthers old new id → IsOnlyGroup old id → IsOnlyGroup new id

-- no crash image finds another group
abbrev pub IsOnlyGroupOn : Device → ℕ → Type 0
IsOnlyGroupOn device id = (image : Image) → MayLeave device image → IsOnlyGroup (contents_of image) id

-- So it stays by one transfer of data, however it ends and if it doesn't,
abbrev pub OnlyGroupStaysByData : Type 0
OnlyGroupStaysByData = (id : ℕ) (f : Flight) (old new : Device) → IsOfData f → OnlyAdds f old new → IsOnlyGroupOn old id → IsOnlyGroupOn new id

-- and once nothing is out, where the media leaves the others as they were found.
abbrev pub OnlyGroupStaysOn : Type 0
OnlyGroupStaysOn = (id : ℕ) (old new : Device)
    → new.flights ≡ [] → BothTold old.media new.media (λ was is. LeavesOthers (contents_of (image_of old.sizes was)) (contents_of (image_of new.sizes is)) id) → IsOnlyGroupOn old id → IsOnlyGroupOn new id

-- on each crash image whatever sets of disks find is of one group
abbrev pub IsOneFoundOn : Device → Type 0
IsOneFoundOn device = (image : Image) → MayLeave device image → IsOneFound (contents_of image)

-- by whatever was told before a span, no crash image finds another group
abbrev pub IsOnlyGroupSince : ℕ → Moment → Device → ℕ → Type 0
IsOnlyGroupSince run first device id = (past : List Fact) → RunBegins run past first → IsOnlyGroupOn device id

-- The first is enough for the second at the end of a span, where each crash image finds the group.
abbrev pub OneFoundIsOnlySince : Type 0
OneFoundIsOnlySince = (run : ℕ) (first : Moment) (device : Device) (facts : List Fact) (group : Descriptor)
    → Keeps run first (at device facts) → ((image : Image) → MayLeave device image → Finds (contents_of image) all_disks group.id group) → IsOneFoundOn device
    → IsOnlyGroupSince run first device group.id

-- A volume that the committed descriptor names is found by all,
abbrev pub NamedIsFound : Type 0
NamedIsFound = (c : Contents) (group : Descriptor) (status : Status) (there : Disks) (facts : List Fact) (lv : ℕ)
    → IsWithinDisks c → CanWrite group there → ShowsCommitted c group status there → Kept c facts → IsOnlyGroup c group.id → IsTrue (is_some (volume_of group lv)) → IsFoundByAll c lv

-- and one that it doesn't name by none.
abbrev pub UnnamedIsNotFound : Type 0
UnnamedIsNotFound = (c : Contents) (group : Descriptor) (status : Status) (there : Disks) (facts : List Fact) (lv : ℕ)
    → IsWithinDisks c → CanWrite group there → ShowsCommitted c group status there → Kept c facts → IsOnlyGroup c group.id → volume_of group lv ≡ None → IsFoundByNone c lv

-- by whatever was told before the span, each crash image shows what is committed, and no other group is found in it
pub record LeavesCommitted (run : ℕ) (first : Moment) (device : Device) (group : Descriptor) (status : Status) (there : Disks) : Type 0 where
  pub shows : (past : List Fact) → RunBegins run past first → (image : Image) → MayLeave device image → ShowsCommitted (contents_of image) group status there
  pub only : IsOnlyGroupSince run first device group.id

-- So a volume that isn't named may be in the making,
abbrev pub VolumeBeginsInSession : Type 0
VolumeBeginsInSession = (run : ℕ) (first : Moment) (device : Device) (facts : List Fact) (group : Descriptor) (status : Status) (there : Disks) (lv blocks : ℕ) (mode : Mode)
    → Keeps run first (at device facts) → CanWrite group there → LeavesCommitted run first device group status there → volume_of group lv ≡ None
    → Keeps run first (at device (facts ++ Making lv blocks mode ∷ []))

-- or copies of one that is named may be about to become it,
abbrev pub VolumeSplitsInSession : Type 0
VolumeSplitsInSession = (run : ℕ) (first : Moment) (device : Device) (facts : List Fact) (group : Descriptor) (status : Status) (there : Disks) (from lv : ℕ)
    → Keeps run first (at device facts) → CanWrite group there → LeavesCommitted run first device group status there → volume_of group lv ≡ None
    → Keeps run first (at device (facts ++ Split from lv ∷ []))

-- is made once it is named,
abbrev pub VolumeIsMadeInSession : Type 0
VolumeIsMadeInSession = (run : ℕ) (first : Moment) (device : Device) (facts : List Fact) (group : Descriptor) (status : Status) (there : Disks) (lv : ℕ)
    → Keeps run first (at device facts) → CanWrite group there → LeavesCommitted run first device group status there → IsTrue (is_some (volume_of group lv))
    → ((past : List Fact) → (volumes_in (past ++ facts) lv).standing ≡ Open) → Keeps run first (at device (facts ++ Made lv ∷ []))

-- and is gone once it isn't named any more.
abbrev pub VolumeIsGoneInSession : Type 0
VolumeIsGoneInSession = (run : ℕ) (first : Moment) (device : Device) (facts : List Fact) (group : Descriptor) (status : Status) (there : Disks) (lv : ℕ)
    → Keeps run first (at device facts) → CanWrite group there → LeavesCommitted run first device group status there → volume_of group lv ≡ None
    → Keeps run first (at device (facts ++ Removed (Lv lv) ∷ []))
