-- A session of a group, and what stands on the disks: when the one describes the other.
use Rattle.std.specs.Prelude.{◌≡◌, ◌⊎◌, ◌↔◌, ℕ, ◌<◌, ◌≤◌, Bool, false, ◌||◌, List, [], length, Option, Some, None, IsTrue, option_map}
use Rattle.lvm_num.specs.declared.place.Pp.{Pp}
use Rattle.lvm_num.specs.declared.descriptor.PvRow.{PvRow}
use Rattle.lvm_num.specs.declared.descriptor.LvRow.{LvRow}
use Rattle.lvm_num.specs.declared.descriptor.Descriptor.{Descriptor}
use Rattle.lvm_num.specs.declared.status.Status.{Status}
use Rattle.lvm_num.specs.Disks.{Disks}
use Rattle.lvm_num.specs.Descriptor.{copies_of, member_of, volume_of, is_pp}
use Rattle.lvm_num.specs.Geometry.{partition_of}
use Rattle.lvm_num.specs.Status.{calls_stale, calls_dirty}
use Rattle.lvm_num.specs.Votes.{all_disks, votes_in, is_enough_to_read, is_enough_to_write}
use Rattle.lvm_num.specs.Record.{Stamped}
use Rattle.lvm_vol.specs.declared.entry.Vol.TheVariants.{Lv}
use Rattle.lvm_vol.specs.Facts.{Fact}
use Rattle.lvm_vol.specs.May.{known}
use Rattle.lvm_vol.specs.Standing.{volumes_in}
use Rattle.lvm_kept.specs.Contents.{Contents}
use Rattle.lvm_kept.specs.Group.{if_passes, is_status_of, Finds, IsFound, members_in, ReadsGroup, block_at, IsBlockOf, is_named, IsOneOf}
use Rattle.lvm_kept.specs.Kept.{StandsAs, RawAgrees}
use Rattle.lvm_even.specs.Members.{members_showing}
use Rattle.lvm_invariant.specs.State.{Marks, View, Beside, ModelState}
use Rattle.lvm_num.specs.Modes.{is_active, is_passive}
use Rattle.lvm_invariant.specs.Found.{Votes}

-- ---- what a session sees of the disks

-- it is the partition beside the group's copies
abbrev pub is_beside : Option Beside → Pp → Bool
is_beside None p = false
is_beside (Some o) p = is_pp p o.place

-- the marks of a status, as they are seen: the partition beside counts as stale
abbrev pub marks_of : Option Beside → Status → Marks
marks_of beside status = record { stale = λ p. is_beside beside p || calls_stale status p; dirty = calls_dirty status }

abbrev pub as_marks : Option Beside → Stamped Status → Stamped Marks
as_marks beside r = record { stamp = r.stamp; value = marks_of beside r.value }

-- those of the newest status of a disk, if it is of the group
abbrev pub marks_shown : Option Beside → ℕ → Option (Stamped Status) → Option (Stamped Marks)
marks_shown beside id shown = option_map (as_marks beside) (if_passes (is_status_of id) shown)

-- what the disks show to a session of the group
abbrev pub view_of : Option Beside → Descriptor → Contents → View
view_of beside group c = record { block = λ lv b p. block_at c group.mib p b; names = is_named c; status = λ d. marks_shown beside group.id (c.status d) }

-- ---- the group

-- the votes are those of the group
pub record AreVotesOf (group : Descriptor) (votes : Votes) : Type 0 where
  pub reads : (set : Disks) → votes.reads set ≡ is_enough_to_read group (votes_in group set)
  pub writes : (set : Disks) → votes.writes set ≡ is_enough_to_write group (votes_in group set)

-- Of the groups beside this one: two sets of disks that can read one have a common member, and by what is found of it the partitions are of one size,
-- and as many on the members that are shared.
pub record OthersStand (c : Contents) (id : ℕ) : Type 0 where
  pub common : (a b : Disks) (other : ℕ) (g h : Descriptor) → (other ≡ id → ⊥) → ReadsGroup c a other g → ReadsGroup c b other h → (d : ℕ) × IsTrue (members_in c a other g d) × IsTrue (members_in c b other h d)
  pub size : (other : ℕ) (g h : Descriptor) → (other ≡ id → ⊥) → IsFound c other g → IsFound c other h → g.mib ≡ h.mib
  pub partitions : (other : ℕ) (g h : Descriptor) → (other ≡ id → ⊥) → IsFound c other g → IsFound c other h → (d : ℕ) (p q : PvRow) → member_of g d ≡ Some p → member_of h d ≡ Some q → p.pps ≡ q.pps

-- All disks together find the group by this descriptor, and whichever disks find a group find this one so, or another one where neither has a volume.
pub record GroupStands (c : Contents) (group : Descriptor) : Type 0 where
  pub a_member : 1 ≤ length group.pvs
  pub size : 1 ≤ group.mib
  pub found : Finds c all_disks group.id group
  pub alone : (disks : Disks) (id : ℕ) (g : Descriptor) → Finds c disks id g → (id ≡ group.id) ⊎ ((group.lvs ≡ []) × (g.lvs ≡ []))
  pub only : (disks : Disks) (g : Descriptor) → Finds c disks group.id g → g ≡ group
  pub others : OthersStand c group.id
  -- descriptors of a group under one stamp are one
  pub once : (d e : ℕ) (r t : Stamped Descriptor) → c.descriptor d ≡ Some r → c.descriptor e ≡ Some t → r.value.id ≡ t.value.id → r.stamp ≡ t.stamp → r ≡ t

-- ---- its volumes

-- a block of a volume of the group
pub record IsBlockIn (group : Descriptor) (lv b : ℕ) : Type 0 where
  pub row : LvRow
  pub lp : ℕ
  pub volume : IsOneOf group.lvs row
  pub number : row.number ≡ lv
  pub inside : IsBlockOf group.mib row lp b

-- a copy of a logical partition, or the partition beside, for this block
abbrev pub IsPlaceOf : Option Beside → LvRow → ℕ → ℕ → Pp → Type 0
IsPlaceOf None row lp b p = IsOneOf (copies_of row lp) p
IsPlaceOf (Some o) row lp b p = IsOneOf (copies_of row lp) p ⊎ ((p ≡ o.place) × IsTrue (o.its row.number b))

-- No volume has the partition beside, and it stands for blocks of one logical partition.
pub record IsFreePlace (group : Descriptor) (o : Beside) : Type 0 where
  pub free : (row : LvRow) (lp : ℕ) → IsOneOf group.lvs row → lp < row.lps → IsOneOf (copies_of row lp) o.place → ⊥
  pub one : (lv b l c : ℕ) → IsTrue (o.its lv b) → IsTrue (o.its l c) → (lv ≡ l) × (partition_of group.mib b ≡ partition_of group.mib c)

-- The session's copies are those of the group that stand on members which are there, of which each logical partition has one, and the partition beside; its
-- modes are the group's, and the history has the group's volumes.
pub record HasVolumes (s : ModelState) (facts : List Fact) (group : Descriptor) (members : Disks) : Type 0 where
  pub copies : (row : LvRow) (lp b : ℕ) (p : Pp) → IsOneOf group.lvs row → IsBlockOf group.mib row lp b → IsTrue (s.is_copy row.number b p) ↔ (IsPlaceOf s.beside row lp b p × IsTrue (members p.disk))
  pub free : (o : Beside) → s.beside ≡ Some o → IsFreePlace group o
  pub inside : (lv b : ℕ) (p : Pp) → IsTrue (s.is_copy lv b p) → IsBlockIn group lv b
  pub some : (row : LvRow) (lp : ℕ) → IsOneOf group.lvs row → lp < row.lps → (p : Pp) × IsOneOf (copies_of row lp) p × IsTrue (members p.disk)
  pub notes : (row : LvRow) → IsOneOf group.lvs row → s.is_active row.number ≡ is_active row.mode
  pub mark : (row : LvRow) → IsOneOf group.lvs row → s.is_passive row.number ≡ is_passive row.mode
  pub modes : (row : LvRow) (lp b : ℕ) → IsOneOf group.lvs row → IsBlockOf group.mib row lp b → (known facts (Lv row.number) b).mode ≡ row.mode
  pub history : (lv : ℕ) → StandsAs group.mib (volumes_in facts lv).standing (volumes_in facts lv).shape (volume_of group lv)

-- ---- its statuses

-- The status in flight is this one, of the group, and statuses of a group under one stamp are one.
pub record HasStatuses (s : ModelState) (group : Descriptor) (in_flight : Option (Stamped Status)) (c : Contents) : Type 0 where
  pub same : s.in_flight ≡ option_map (as_marks s.beside) in_flight
  pub own : (u : Stamped Status) → in_flight ≡ Some u → u.value.id ≡ group.id
  pub once : (d e : ℕ) (r t : Stamped Status) → c.status d ≡ Some r → c.status e ≡ Some t → r.value.id ≡ t.value.id → r.stamp ≡ t.stamp → r ≡ t
  pub new : (u : Stamped Status) (d : ℕ) (r : Stamped Status) → in_flight ≡ Some u → c.status d ≡ Some r → r.value.id ≡ u.value.id → r.stamp ≡ u.stamp → r ≡ u

-- ---- all of it

-- The blocks of copies, the notes and the statuses that stand on the disks are what the state says.
pub record Shows (s : ModelState) (group : Descriptor) (in_flight : Option (Stamped Status)) (c : Contents) : Type 0 where
  pub blocks : (lv b : ℕ) (p : Pp) → IsTrue (s.is_copy lv b p) → s.media.block lv b p ≡ block_at c group.mib p b
  pub names : (d lv track_group : ℕ) → s.media.names d lv track_group ≡ is_named c d lv track_group
  pub status : (d : ℕ) → s.media.status d ≡ marks_shown s.beside group.id (c.status d)
  pub statuses : HasStatuses s group in_flight c

-- So is all that stands on the disks, and disks in no group hold what the history allows. (The history is the state's while the session is on;
-- once it is over, that one with the landings of what was open.)
pub record Describes (s : ModelState) (facts : List Fact) (group : Descriptor) (in_flight : Option (Stamped Status)) (c : Contents) : Type 0 where
  pub stands : GroupStands c group
  pub volumes : HasVolumes s facts group (members_showing c group)
  pub shown : Shows s group in_flight c
  pub raw : RawAgrees c facts
