-- What quorums find once all parts of a beginning stand.
use Rattle.std.specs.Prelude.{◌≡◌, ◌⊎◌, ℕ, ◌≤◌, Bool, true, length, Some, IsTrue}
use Rattle.lvm_num.specs.declared.descriptor.Descriptor.{Descriptor}
use Rattle.lvm_num.specs.declared.status.Status.{Status}
use Rattle.lvm_num.specs.Disks.{Disks}
use Rattle.lvm_num.specs.Descriptor.{is_member}
use Rattle.lvm_num.specs.Record.{Stamped, stamp_lt}
use Rattle.lvm_num.specs.Votes.{all_disks}
use Rattle.lvm_disk.specs.Device.{Image}
use Rattle.lvm_kept.specs.Contents.{Contents, contents_of}
use Rattle.lvm_kept.specs.Group.{has_room, is_voter, status_among, Finds}
use Rattle.lvm_kept.specs.Committed.{IsWithinDisks}
use Rattle.lvm_kept.specs.Torn.{written as as_read}
use Rattle.lvm_steps.specs.VaryingOn.{HasNewest}
use Rattle.lvm_write.specs.Beginning.{Beginning, describes, states, MayBeginNew, MayBeginAgain}
use Rattle.lvm_write.specs.Shown.{HasBegun}

-- The disks find the descriptor of the beginning as the newest, and its status.
pub record FindsBeginning (b : Beginning) (group : Descriptor) (status : Status) (disks : Disks) (c : Contents) : Type 0 where
  pub newest : HasNewest c group disks (as_read (describes b) group)
  pub stated : status_among c disks group.id ≡ Some (as_read (states b) status)

-- Where some disks find the newest of all that are shown, so do all together.
abbrev pub AllFindNewest : Type 0
AllFindNewest =
    (c : Contents) (group : Descriptor) (disks : Disks) (newest : Stamped Descriptor) → IsWithinDisks c → 1 ≤ length group.pvs → HasNewest c group disks newest → Finds c all_disks group.id group

-- The targets find it after a new group's, where they are its members, each with the sectors that its partitions need,
abbrev pub NewIsFound : Type 0
NewIsFound =
    (b : Beginning) (group : Descriptor) (status : Status) (old : Image) (new : Contents) → MayBeginNew b group status old → HasBegun b true group status (contents_of old) new
    → status.id ≡ group.id → ((d : ℕ) → IsTrue (is_member group d) → IsTrue (b.targets d)) → ((d : ℕ) → IsTrue (b.targets d) → IsTrue (has_room (contents_of old) d group))
    → FindsBeginning b group status b.targets new

-- and after that of one that was there those that found it, with the voters that they had.
abbrev pub AgainIsFound : Type 0
AgainIsFound =
    (b : Beginning) (forget : Bool) (group : Descriptor) (status : Status) (disks : Disks) (was : Stamped Status) (old : Image) (new : Contents) → MayBeginAgain b forget group status disks was old
    → HasBegun b forget group status (contents_of old) new → FindsBeginning b group status disks new × (is_voter new disks group.id ≡ is_voter (contents_of old) disks group.id)

-- No disk shows a later status of the group, where none did.
abbrev pub StatusIsLast : Type 0
StatusIsLast =
    (b : Beginning) (forget : Bool) (group : Descriptor) (status : Status) (old new : Contents) → HasBegun b forget group status old new
    → ((d : ℕ) (r : Stamped Status) → old.status d ≡ Some r → r.value.id ≡ group.id → stamp_lt r.stamp b.status.stamp ≡ true)
    → (d : ℕ) (r : Stamped Status) → new.status d ≡ Some r → r.value.id ≡ group.id → (stamp_lt r.stamp b.status.stamp ≡ true) ⊎ (r ≡ as_read (states b) status)
