-- Which changes of what the disks show keep the history, and which entries do.
use Rattle.std.specs.Prelude.{◌≡◌, ◌⊎◌, ℕ, ◌<◌, ◌≤◌, List, ◌∷◌, [], ◌++◌, Option, None, Some, IsTrue, is_some, true}
use Rattle.std.specs.List.{AllByRecursion}
use Rattle.lvm_disk.specs.passed.Num.{Pp, LvRow, Descriptor, Status, Sector, zero_sector, Disks, data_start, volume_of, all_disks, Stamped, stamp_lt}
use Rattle.lvm_vol.specs.declared.entry.Vol.{Vol}
use Rattle.lvm_vol.specs.declared.entry.Vol.TheVariants.{Disk, Lv}
use Rattle.lvm_vol.specs.Facts.{Request, Fact, Begun, Cut}
use Rattle.lvm_vol.specs.Standing.{Open, Settled, Volume, volumes_in}
use Rattle.lvm_vol.specs.May.{Known, known, IsValue, May}
use Rattle.lvm_disk.specs.Device.{Image}
use Rattle.lvm_kept.specs.Contents.{Contents, contents_of}
use Rattle.lvm_kept.specs.Group.{is_voter, status_among, Finds, IsFound, members_in, status_by, ReadsGroup, fresh_on, block_at, IsBlockOf, IsOneOf, IsSome, HoldOne}
use Rattle.lvm_kept.specs.Committed.{IsWithinDisks}
use Rattle.lvm_kept.specs.Kept.{MayDiffer, BlocksKept, CopiesAgree, RawAgrees, Kept}

-- ---- nothing yet

-- the disks are all zeros
abbrev pub IsBlank : Image → Type 0
IsBlank image = (d s : ℕ) → d < image.disks → s < image.size d → image.sector d s ≡ zero_sector

-- Disks of zeros keep the empty history.
abbrev pub BlankIsKept : Type 0
BlankIsKept = (image : Image) → IsBlank image → Kept (contents_of image) []

-- ---- data

-- each of the copies holds at the block what it held
abbrev pub Unchanged : Contents → Contents → ℕ → List Pp → ℕ → Type 0
Unchanged old new mib copies b = AllByRecursion (λ p. block_at new mib p b ≡ block_at old mib p b) copies

-- each of the copies holds an allowed value at the block, and they hold one or may differ there
pub record Excused (old new : Contents) (mib : ℕ) (status : Option (Stamped Status)) (row : LvRow) (copies : List Pp) (k : Known) (b : ℕ) : Type 0 where
  pub allowed : AllByRecursion (λ p. IsValue k (block_at new mib p b)) copies
  pub differ : HoldOne new mib copies b ⊎ MayDiffer old status row.number row.mode copies k b

abbrev pub BlocksChange : Contents → Contents → List Fact → Descriptor → Disks → Option (Stamped Status) → Type 0
BlocksChange old new facts group disks status =
    (row : LvRow) (lp b : ℕ) → IsOneOf group.lvs row → IsBlockOf group.mib row lp b
    → Unchanged old new group.mib (fresh_on disks status row lp) b
    ⊎ Excused old new group.mib status row (fresh_on disks status row lp) (known (facts ++ Cut ∷ []) (Lv row.number) b) b

-- a change of data alone: of blocks that may have their new values, of stale copies, or of disks in no group.
pub record DataChange (old new : Contents) (facts : List Fact) : Type 0 where
  pub rest : new ≡ record old { block = new.block }
  pub copies : (disks : Disks) (id : ℕ) (group : Descriptor) → Finds old disks id group → BlocksChange old new facts group (is_voter old disks id) (status_among old disks id)
  pub across : (b : Disks) (id : ℕ) (h k : Descriptor) → ReadsGroup old b id h → IsFound old id k → BlocksChange old new facts k (members_in old all_disks id k) (status_by old b id h)
  pub raw : (d b : ℕ) → d < old.disks → old.descriptor d ≡ None → data_start ≤ b → b < old.size d → (new.block d b ≡ old.block d b) ⊎ May (known (facts ++ Cut ∷ []) (Disk d) b) (new.block d b)

-- Such a change of data keeps the history.
abbrev pub DataChangeKeeps : Type 0
DataChangeKeeps = (old new : Contents) (facts : List Fact) → DataChange old new facts → Kept old facts → Kept new facts

-- ---- notes

-- where copies may differ by the old notes, they hold one value or may differ by the new ones
abbrev pub StayExcused : Contents → Contents → List Fact → Descriptor → Disks → Option (Stamped Status) → Type 0
StayExcused old new facts group disks status =
    (row : LvRow) (lp b : ℕ) → IsOneOf group.lvs row → IsBlockOf group.mib row lp b
    → HoldOne old group.mib (fresh_on disks status row lp) b
    ⊎ MayDiffer new status row.number row.mode (fresh_on disks status row lp) (known (facts ++ Cut ∷ []) (Lv row.number) b) b

-- a change of consistency records alone, none of which leaves out what it must name
pub record NoteChange (old new : Contents) (facts : List Fact) : Type 0 where
  pub rest : new ≡ record old { note = new.note }
  pub copies : (disks : Disks) (id : ℕ) (group : Descriptor) → Finds old disks id group → StayExcused old new facts group (is_voter old disks id) (status_among old disks id)
  pub across : (b : Disks) (id : ℕ) (h k : Descriptor) → ReadsGroup old b id h → IsFound old id k → StayExcused old new facts k (members_in old all_disks id k) (status_by old b id h)

-- Such a change of notes keeps the history.
abbrev pub NoteChangeKeeps : Type 0
NoteChangeKeeps = (old new : Contents) (facts : List Fact) → NoteChange old new facts → Kept old facts → Kept new facts

-- ---- statuses

-- The status would do for the group: by it the fresh copies that quorums find hold what the history allows, and each logical partition has one.
pub record Serves (c : Contents) (facts : List Fact) (id : ℕ) (status : Stamped Status) : Type 0 where
  pub copies : (disks : Disks) (group : Descriptor) → Finds c disks id group → BlocksKept c facts group (is_voter c disks id) (Some status)
  pub across : (k : Descriptor) → IsFound c id k → BlocksKept c facts k (members_in c all_disks id k) (Some status)
  pub some : (k : Descriptor) → IsFound c id k → (row : LvRow) (lp : ℕ) → IsOneOf k.lvs row → lp < row.lps → IsSome (fresh_on (members_in c all_disks id k) (Some status) row lp)

-- the group has no volume, whoever looks for it
abbrev pub HasNoVolume : Contents → ℕ → Type 0
HasNoVolume c id = (k : Descriptor) → IsFound c id k → k.lvs ≡ []

-- A change of statuses alone, in which each disk has its old one or the next, and each quorum finds its old one, or the next where that would do,
-- or whichever where the group has no volume.
pub record StatusChange (old new : Contents) (facts : List Fact) (next : Stamped Status) : Type 0 where
  pub rest : new ≡ record old { status = new.status }
  pub own : (d : ℕ) → (new.status d ≡ old.status d) ⊎ (new.status d ≡ Some next)
  pub stamp : (d : ℕ) (r : Stamped Status) → old.status d ≡ Some r → r.value.id ≡ next.value.id → r.stamp ≡ next.stamp → r ≡ next
  pub found : (b : Disks) (id : ℕ) (h : Descriptor) → ReadsGroup old b id h
      → (status_by new b id h ≡ status_by old b id h) ⊎ ((status_by new b id h ≡ Some next) × Serves old facts id next) ⊎ HasNoVolume old id

-- Such a change of statuses keeps the history.
abbrev pub StatusChangeKeeps : Type 0
StatusChangeKeeps = (old new : Contents) (facts : List Fact) (next : Stamped Status) → StatusChange old new facts next → Kept old facts → Kept new facts

-- ---- descriptors

-- A change of descriptors alone, in which disks of the group that showed a descriptor of it show the next one, which is later than each and whose
-- value a quorum finds already: as when a varyon gives the group's descriptor a new stamp.
pub record Restamping (old new : Contents) (next : Stamped Descriptor) : Type 0 where
  pub rest : new ≡ record old { descriptor = new.descriptor }
  pub own : (d : ℕ) → (new.descriptor d ≡ old.descriptor d) ⊎ ((new.descriptor d ≡ Some next) × ((r : Stamped Descriptor) × (old.descriptor d ≡ Some r) × (r.value.id ≡ next.value.id)))
  pub later : (d : ℕ) (r : Stamped Descriptor) → old.descriptor d ≡ Some r → r.value.id ≡ next.value.id → stamp_lt r.stamp next.stamp ≡ true
  pub found : IsFound old next.value.id next.value

-- Such a change of descriptors keeps the history.
abbrev pub RestampingKeeps : Type 0
RestampingKeeps = (old new : Contents) (facts : List Fact) (next : Stamped Descriptor) → IsWithinDisks old → Restamping old new next → Kept old facts → Kept new facts

-- ---- entries

-- after the entry, each block may have what it might have before, and differ where it might before
pub record OnlyAllowsMore (facts : List Fact) (f : Fact) : Type 0 where
  pub may : (lv b : ℕ) (value : Sector) → IsValue (known (facts ++ Cut ∷ []) (Lv lv) b) value → IsValue (known ((facts ++ f ∷ []) ++ Cut ∷ []) (Lv lv) b) value
  pub raw : (d b : ℕ) (value : Sector) → May (known (facts ++ Cut ∷ []) (Disk d) b) value → May (known ((facts ++ f ∷ []) ++ Cut ∷ []) (Disk d) b) value
  pub loose : (lv b : ℕ) → IsTrue (known (facts ++ Cut ∷ []) (Lv lv) b).loose → IsTrue (known ((facts ++ f ∷ []) ++ Cut ∷ []) (Lv lv) b).loose

-- with the entry too each block that quorums find is kept, and each of a disk in no group
pub record BlocksStayKept (c : Contents) (facts : List Fact) (f : Fact) : Type 0 where
  pub copies : CopiesAgree c (facts ++ f ∷ [])
  pub across : (b : Disks) (id : ℕ) (h k : Descriptor) → ReadsGroup c b id h → IsFound c id k → BlocksKept c (facts ++ f ∷ []) k (members_in c all_disks id k) (status_by c b id h)
  pub raw : RawAgrees c (facts ++ f ∷ [])

-- then what was kept of the blocks still is
abbrev pub MoreIsKept : Type 0
MoreIsKept = (c : Contents) (facts : List Fact) (f : Fact) → OnlyAllowsMore facts f → Kept c facts → BlocksStayKept c facts f

-- each quorum's descriptor has the volume, and all disks hold a quorum
pub record IsFoundByAll (c : Contents) (lv : ℕ) : Type 0 where
  pub there : (id : ℕ) (group : Descriptor) → IsFound c id group → IsTrue (is_some (volume_of group lv))
  pub id : ℕ
  pub group : Descriptor
  pub found : Finds c all_disks id group

-- no quorum's descriptor has it
abbrev pub IsFoundByNone : Contents → ℕ → Type 0
IsFoundByNone c lv = (id : ℕ) (group : Descriptor) → IsFound c id group → volume_of group lv ≡ None

-- How an entry may change how a volume stands: not at all; from open to settled, where each quorum finds it; to open; or in any way but to settled,
-- where no quorum finds it.
abbrev pub VolumeMayStand : Contents → ℕ → Volume → Volume → Type 0
VolumeMayStand c lv old new =
    (new ≡ old)
    ⊎ ((old.standing ≡ Open) × (new ≡ record old { standing = Settled }) × IsFoundByAll c lv)
    ⊎ (new ≡ record old { standing = Open })
    ⊎ ((new.standing ≡ Settled → ⊥) × IsFoundByNone c lv)

-- An entry with which the blocks stay kept, and each volume stands as it may, keeps the history.
abbrev pub EntryKeeps : Type 0
EntryKeeps = (c : Contents) (facts : List Fact) (f : Fact) → BlocksStayKept c facts f → ((lv : ℕ) → VolumeMayStand c lv (volumes_in facts lv) (volumes_in (facts ++ f ∷ []) lv)) → Kept c facts → Kept c (facts ++ f ∷ [])

-- The beginning of a request only allows more,
abbrev pub BeginningAllowsMore : Type 0
BeginningAllowsMore = (facts : List Fact) (r : Request) → OnlyAllowsMore facts (Begun r)

-- a request on a disk, on a settled volume, or on an open one that each quorum finds
abbrev pub MayBeginRequest : Contents → List Fact → Vol → Type 0
MayBeginRequest c facts (Lv lv) = ((volumes_in facts lv).standing ≡ Settled) ⊎ (((volumes_in facts lv).standing ≡ Open) × IsFoundByAll c lv)
MayBeginRequest c facts (Disk d) = Unit {0}

-- and such a request leaves each volume as it may stand.
abbrev pub BeginningStands : Type 0
BeginningStands = (c : Contents) (facts : List Fact) (r : Request) → MayBeginRequest c facts r.vol → (lv : ℕ) → VolumeMayStand c lv (volumes_in facts lv) (volumes_in (facts ++ Begun r ∷ []) lv)
