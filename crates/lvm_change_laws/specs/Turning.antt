-- A group turns from one descriptor to the next, by which it has other members or another rule of votes, and the same volumes.
use Rattle.std.specs.Prelude.{◌≡◌, ◌⊎◌, ℕ, ◌<◌, true, List, Some, None, IsTrue}
use Rattle.lvm_disk.specs.passed.Num.{Pp, PvRow, LvRow, Descriptor, Status, Disks, copies_of, member_of, volume_of, all_disks, CanRead, Stamped, stamp_lt}
use Rattle.lvm_num.specs.Descriptor.{IsValid}
use Rattle.lvm_vol.specs.Facts.{Fact}
use Rattle.lvm_vol.specs.Standing.{volumes_in}
use Rattle.lvm_kept.specs.Contents.{Contents}
use Rattle.lvm_kept.specs.Group.{passes, is_of, has_room, Finds, members_in, status_by, fresh_on, IsOneOf, IsSome}
use Rattle.lvm_kept.specs.Kept.{StandsAs, BlocksKept, Kept}
use Rattle.lvm_kept.specs.Committed.{IsWithinDisks}
use Rattle.lvm_kept.specs.Torn.{DescriptorsChange}
use Rattle.lvm_commit.specs.LawsOfVolumes.{LeavesOthers}
use Rattle.lvm_change_votes.specs.Meeting.{AreNeighbours, HasMembers}

-- ---- the two descriptors

-- They are of one group, with the same volumes on partitions of one size, whose copies stand on members of both; they are neighbours, and what a common member
-- needs of its disk is the same.
pub record AreTwo (g h : Descriptor) : Type 0 where
  pub id : g.id ≡ h.id
  pub size : g.mib ≡ h.mib
  pub volumes : g.lvs ≡ h.lvs
  pub some_g : HasMembers g
  pub some_h : HasMembers h
  pub near : AreNeighbours g h
  pub partitions : (d : ℕ) (p q : PvRow) → member_of g d ≡ Some p → member_of h d ≡ Some q → p.pps ≡ q.pps
  pub room : (c : Contents) (d : ℕ) (p q : PvRow) → member_of g d ≡ Some p → member_of h d ≡ Some q → has_room c d g ≡ has_room c d h
  pub places : (row : LvRow) (lp : ℕ) (p : Pp) → IsOneOf g.lvs row → IsOneOf (copies_of row lp) p → (a : PvRow) × (b : PvRow) × (member_of g p.disk ≡ Some a) × (member_of h p.disk ≡ Some b)

-- So are two valid descriptors that differ in members and in the rule of votes, where common members have as many partitions.
pub record DifferInMembers (g h : Descriptor) : Type 0 where
  pub valid_g : IsValid g
  pub valid_h : IsValid h
  pub id : g.id ≡ h.id
  pub size : g.mib ≡ h.mib
  pub volumes : g.lvs ≡ h.lvs
  pub near : AreNeighbours g h
  pub partitions : (d : ℕ) (p q : PvRow) → member_of g d ≡ Some p → member_of h d ≡ Some q → p.pps ≡ q.pps

abbrev pub ValidAreTwo : Type 0
ValidAreTwo = (g h : Descriptor) → DifferInMembers g h → AreTwo g h

-- ---- what the disks show meanwhile

-- nothing of the group is found but the two
abbrev pub FindsTwo : Contents → Descriptor → Descriptor → Type 0
FindsTwo c g h = (disks : Disks) (k : Descriptor) → Finds c disks g.id k → (k ≡ g) ⊎ (k ≡ h)

-- whatever status is read of it, by the one or by the other, is one of these two
pub record ReadsTwo (c : Contents) (g h : Descriptor) (was is : Stamped Status) : Type 0 where
  pub by_one : (b : Disks) → CanRead g (members_in c b g.id g) → (status_by c b g.id g ≡ Some was) ⊎ (status_by c b g.id g ≡ Some is)
  pub by_other : (b : Disks) → CanRead h (members_in c b g.id h) → (status_by c b g.id h ≡ Some was) ⊎ (status_by c b g.id h ≡ Some is)

-- By the status the volumes' copies hold what the history allows, and each logical partition has a fresh one.
pub record DoesFor (c : Contents) (facts : List Fact) (g : Descriptor) (status : Stamped Status) : Type 0 where
  pub blocks : BlocksKept c facts g (members_in c all_disks g.id g) (Some status)
  pub some : (row : LvRow) (lp : ℕ) → IsOneOf g.lvs row → lp < row.lps → IsSome (fresh_on (members_in c all_disks g.id g) (Some status) row lp)

-- The history has the group's volumes, and each of the two statuses would do.
pub record Served (c : Contents) (facts : List Fact) (g : Descriptor) (was is : Stamped Status) : Type 0 where
  pub volumes : (lv : ℕ) → StandsAs g.mib (volumes_in facts lv).standing (volumes_in facts lv).shape (volume_of g lv)
  pub by_was : DoesFor c facts g was
  pub by_is : DoesFor c facts g is

-- ---- a write of the next descriptor

-- What lets the second of the two be written to disks that show the group, or to one that is to be a member and shows no group, also where it was written to
-- some of them before.
pub record MayMakeTransition (old new : Contents) (facts : List Fact) (g h : Descriptor) (targets : Disks) (next : Stamped Descriptor) (was is : Stamped Status) : Type 0 where
  pub two : AreTwo g h
  pub value : next.value ≡ h
  pub change : DescriptorsChange targets next old new
  pub showing : (d : ℕ) → IsTrue (targets d) → IsTrue (passes (is_of g.id) (old.descriptor d)) ⊎ ((old.descriptor d ≡ None) × (member_of g d ≡ None))
  pub later : (d : ℕ) (r : Stamped Descriptor) → old.descriptor d ≡ Some r → r.value.id ≡ g.id → (stamp_lt r.stamp next.stamp ≡ true) ⊎ (r ≡ next)
  pub finds : FindsTwo old g h
  pub after : ReadsTwo new g h was is
  pub served : Served old facts g was is
  -- once some disk shows it, all disks together can read it
  pub reads : (d : ℕ) → new.descriptor d ≡ Some next → CanRead h (members_in new all_disks g.id h)

-- Whatever of it has landed keeps the history, still nothing else is found of the group, and of others what was found.
abbrev pub TransitionKeeps : Type 0
TransitionKeeps = (old new : Contents) (facts : List Fact) (g h : Descriptor) (targets : Disks) (next : Stamped Descriptor) (was is : Stamped Status)
    → IsWithinDisks old → IsWithinDisks new → MayMakeTransition old new facts g h targets next was is → Kept old facts
    → Kept new facts × FindsTwo new g h × LeavesOthers old new g.id

-- ---- once it is written

-- Where each set that can read the one, and each that can read the other, has one of these disks, and they show the next descriptor, which no disk shows a later
-- one than: nothing else is found.
abbrev pub TurnIsDone : Type 0
TurnIsDone = (c : Contents) (g h : Descriptor) (set : Disks) (next : Stamped Descriptor)
    → IsWithinDisks c → g.id ≡ h.id → next.value ≡ h → FindsTwo c g h
    → ((d : ℕ) → IsTrue (set d) → c.descriptor d ≡ Some next)
    → ((d : ℕ) (r : Stamped Descriptor) → c.descriptor d ≡ Some r → r.value.id ≡ g.id → (stamp_lt r.stamp next.stamp ≡ true) ⊎ (r ≡ next))
    → ((a : Disks) → CanRead g a → (d : ℕ) × IsTrue (a d) × IsTrue (set d)) → ((a : Disks) → CanRead h a → (d : ℕ) × IsTrue (a d) × IsTrue (set d))
    → (disks : Disks) (k : Descriptor) → Finds c disks g.id k → k ≡ h

-- ---- statuses

-- The disks of a set have one of two statuses of the group, and no member by either descriptor another one that isn't earlier.
pub record StandTwo (c : Contents) (g h : Descriptor) (set : Disks) (was is : Stamped Status) : Type 0 where
  pub own : was.value.id ≡ g.id
  pub next_own : is.value.id ≡ g.id
  pub later : (is ≡ was) ⊎ (stamp_lt was.stamp is.stamp ≡ true)
  pub have : (d : ℕ) → IsTrue (set d) → (c.status d ≡ Some was) ⊎ (c.status d ≡ Some is)
  pub newest : (d : ℕ) (r : Stamped Status) → IsTrue (has_room c d g) ⊎ IsTrue (has_room c d h) → c.status d ≡ Some r → r.value.id ≡ g.id → (stamp_lt r.stamp was.stamp ≡ true) ⊎ (r ≡ was) ⊎ (r ≡ is)

-- Then whatever is read is one of the two, where each set that can read the one or the other has one of these disks.
abbrev pub ReadsAreTwo : Type 0
ReadsAreTwo = (c : Contents) (g h : Descriptor) (set : Disks) (was is : Stamped Status)
    → IsWithinDisks c → StandTwo c g h set was is
    → ((a : Disks) → CanRead g a → (d : ℕ) × IsTrue (a d) × IsTrue (set d)) → ((a : Disks) → CanRead h a → (d : ℕ) × IsTrue (a d) × IsTrue (set d))
    → ReadsTwo c g h was is

-- ---- a write of a status meanwhile

-- What lets the second of the two statuses be written to disks that show the group, or to one that is to be a member and shows no group.
pub record MayStateTurn (old new : Contents) (facts : List Fact) (g h : Descriptor) (targets : Disks) (was is : Stamped Status) : Type 0 where
  pub two : AreTwo g h
  pub own : (d : ℕ) → (new.status d ≡ old.status d) ⊎ (IsTrue (targets d) × (new.status d ≡ Some is))
  pub rest : new ≡ record old { status = new.status }
  pub showing : (d : ℕ) → IsTrue (targets d) → IsTrue (passes (is_of g.id) (old.descriptor d)) ⊎ (old.descriptor d ≡ None)
  pub id : is.value.id ≡ g.id
  pub later : (d : ℕ) (r : Stamped Status) → old.status d ≡ Some r → r.value.id ≡ g.id → (stamp_lt r.stamp is.stamp ≡ true) ⊎ (r ≡ is)
  pub finds : FindsTwo old g h
  pub after : ReadsTwo new g h was is
  pub served : Served old facts g was is

-- Whatever of it has landed keeps the history.
abbrev pub StateTurnKeeps : Type 0
StateTurnKeeps = (old new : Contents) (facts : List Fact) (g h : Descriptor) (targets : Disks) (was is : Stamped Status)
    → MayStateTurn old new facts g h targets was is → Kept old facts → Kept new facts × FindsTwo new g h × LeavesOthers old new g.id
