-- What stands on the disks of a session at which nothing is under way, where its members may change.
use Rattle.std.specs.Prelude.{◌≡◌, ◌⊎◌, ℕ, ◌<◌, ◌≤◌, ◌++◌, ◌∷◌, [], true, false, List, Some, None, IsTrue}
use Rattle.lvm_disk.specs.passed.Num.{Descriptor, Status, Disks, data_start, all_disks, CanRead, CanWrite, Stamped, stamp_lt}
use Rattle.lvm_vol.specs.declared.entry.Vol.TheVariants.{Disk}
use Rattle.lvm_vol.specs.Facts.{Fact, Cut}
use Rattle.lvm_vol.specs.May.{May, known}
use Rattle.lvm_kept.specs.Contents.{Contents}
use Rattle.lvm_kept.specs.Group.{passes, is_of, has_room, members_in, status_by}
use Rattle.lvm_kept.specs.Committed.{IsWithinDisks}
use Rattle.lvm_kept.specs.Kept.{Kept}
use Rattle.lvm_commit.specs.Committed.{ShowsCommitted}
use Rattle.lvm_commit.specs.LawsOfVolumes.{LeavesOthers}
use Rattle.lvm_change_laws.specs.Turning.{AreTwo, FindsTwo, Served}

-- ---- what is read

-- Where the members that aren't missing have votes enough to write, whatever status is read is the committed one,
abbrev pub CommittedIsRead : Type 0
CommittedIsRead = (c : Contents) (group : Descriptor) (status : Status) (there : Disks) → IsWithinDisks c → CanWrite group there → (shows : ShowsCommitted c group status there)
    → (b : Disks) → CanRead group (members_in c b group.id group) → status_by c b group.id group ≡ Some shows.stands

-- and what is kept is kept by it: so a turn to another descriptor may begin.
abbrev pub CommittedServes : Type 0
CommittedServes = (c : Contents) (group : Descriptor) (status : Status) (there : Disks) (facts : List Fact) → IsWithinDisks c → CanWrite group there → (shows : ShowsCommitted c group status there)
    → Kept c facts → Served c facts group shows.stands shows.stands

-- ---- once a turn is over

-- Disks that had the next descriptor before any other was written: enough of them to write by both descriptors, the members by the next one among them with its
-- status and the sectors that they need.
pub record HasChanged (c : Contents) (g h : Descriptor) (written there : Disks) (next : Stamped Descriptor) (status : Status) (stands : Stamped Status) : Type 0 where
  pub two : AreTwo g h
  pub value : next.value ≡ h
  pub finds : FindsTwo c g h
  pub have : (d : ℕ) → IsTrue (written d) → c.descriptor d ≡ Some next
  pub latest : (d : ℕ) (r : Stamped Descriptor) → c.descriptor d ≡ Some r → r.value.id ≡ g.id → (stamp_lt r.stamp next.stamp ≡ true) ⊎ (r ≡ next)
  pub enough : CanWrite g written
  pub enough_too : CanWrite h written
  pub reads : CanRead h (members_in c all_disks g.id h)
  pub among : (d : ℕ) → IsTrue (there d) → IsTrue (written d)
  pub room : (d : ℕ) → IsTrue (there d) → IsTrue (has_room c d h)
  pub own : status.id ≡ h.id
  pub committed : stands.value ≡ status
  pub stated : (d : ℕ) → IsTrue (there d) → c.status d ≡ Some stands
  pub last : (d : ℕ) (r : Stamped Status) → c.status d ≡ Some r → r.value.id ≡ h.id → (stamp_lt r.stamp stands.stamp ≡ true) ⊎ (r ≡ stands)

-- Then the next descriptor is the committed one.
abbrev pub TurnIsCommitted : Type 0
TurnIsCommitted = (c : Contents) (g h : Descriptor) (written there : Disks) (next : Stamped Descriptor) (status : Status) (stands : Stamped Status)
    → IsWithinDisks c → HasChanged c g h written there next status stands → ShowsCommitted c h status there

-- ---- a disk that has left

-- One disk that is no member, and shows a descriptor of the group, loses it, or keeps it; of its blocks the history knows nothing.
pub record MayErase (old new : Contents) (facts : List Fact) (group : Descriptor) (x : ℕ) : Type 0 where
  pub no_member : has_room old x group ≡ false
  pub shows : IsTrue (passes (is_of group.id) (old.descriptor x))
  pub own : (d : ℕ) → (new.descriptor d ≡ old.descriptor d) ⊎ ((d ≡ x) × (new.descriptor d ≡ None))
  pub rest : new ≡ record old { descriptor = new.descriptor }
  pub unknown : (b : ℕ) → data_start ≤ b → b < old.size x → May (known (facts ++ Cut ∷ []) (Disk x) b) (old.block x b)

-- Then what was kept is kept, and what was committed is shown.
abbrev pub ErasingKeeps : Type 0
ErasingKeeps = (old new : Contents) (facts : List Fact) (group : Descriptor) (status : Status) (there : Disks) (x : ℕ)
    → IsWithinDisks old → CanWrite group there → ShowsCommitted old group status there → MayErase old new facts group x → Kept old facts
    → Kept new facts × ShowsCommitted new group status there × LeavesOthers old new group.id
