-- What is committed is shown as long as a session lasts.
use Rattle.std.specs.Prelude.{◌≡◌, ◌⊎◌, ℕ, true, Some, IsTrue}
use Rattle.lvm_num.specs.declared.descriptor.Descriptor.{Descriptor}
use Rattle.lvm_num.specs.declared.status.Status.{Status}
use Rattle.lvm_num.specs.Disks.{Disks}
use Rattle.lvm_num.specs.Record.{Stamped, stamp_lt}
use Rattle.lvm_kept.specs.Contents.{Contents}
use Rattle.lvm_commit.specs.Committed.{ShowsCommitted}
use Rattle.lvm_crash.specs.Left.{KeepsGroup}

-- What a session at rest must know of its status: it is on each member that isn't missing, and no disk shows a later one of the group.
pub record StatusIsOn (c : Contents) (group : Descriptor) (stands : Stamped Status) (there : Disks) : Type 0 where
  pub own : stands.value.id ≡ group.id
  pub stated : (d : ℕ) → IsTrue (there d) → c.status d ≡ Some stands
  pub last : (d : ℕ) (r : Stamped Status) → c.status d ≡ Some r → r.value.id ≡ group.id → (stamp_lt r.stamp stands.stamp ≡ true) ⊎ (r ≡ stands)

-- Then what was committed at its beginning, but for the status, is still shown, to fewer members or the same.
abbrev pub CommittedLasts : Type 0
CommittedLasts = (group : Descriptor) (was : Status) (stands : Stamped Status) (before after : Disks) (old new : Contents)
    → ShowsCommitted old group was before → KeepsGroup old new → ((d : ℕ) → IsTrue (after d) → IsTrue (before d)) → StatusIsOn new group stands after
    → (shows : ShowsCommitted new group stands.value after) × (shows.stands ≡ stands)
