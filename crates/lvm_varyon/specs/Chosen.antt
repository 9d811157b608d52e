-- Whether the group of a name may come on under a moment, by what the disks that answered show.
use Rattle.std.specs.Prelude.{◌≡◌, ◌⊎◌, ℕ, ◌<◌, ◌≤◌, List, IsTrue}
use Rattle.lvm_num.specs.declared.descriptor.Descriptor.{Descriptor}
use Rattle.lvm_num.specs.declared.status.Status.{Status}
use Rattle.lvm_num.specs.Disks.{Disks}
use Rattle.lvm_num.specs.Record.{Stamped, last_moment}
use Rattle.lvm_num.specs.Votes.{all_disks}
use Rattle.lvm_kept.specs.Contents.{Contents}
use Rattle.lvm_kept.specs.Group.{is_voter, has_quorum}
use Rattle.lvm_quorum.specs.Choosing.{IsOnly, IsGreatestEpoch}

-- the members that answer
abbrev pub answering : Contents → Descriptor → Disks
answering c group = is_voter c all_disks group.id

-- Just this group has the name; it holds a quorum, and this is the newest status of its members that answer.
pub record HoldsByName (c : Contents) (name : List ℕ) (group : Descriptor) (was : Stamped Status) : Type 0 where
  pub newest : Stamped Descriptor
  pub is : newest.value ≡ group
  pub only : IsOnly c name group.id newest was
  pub quorum : IsTrue (has_quorum c all_disks group.id)

-- So it is, and the moment is later than each record of the group, and not the last one.
pub record MayComeOn (c : Contents) (name : List ℕ) (moment : ℕ) (group : Descriptor) (was : Stamped Status) : Type 0 where
  pub holds : HoldsByName c name group was
  pub seen : ℕ
  pub greatest : IsGreatestEpoch c group.id seen
  pub later : seen < moment
  pub early : moment < last_moment

-- So it is, but the moment isn't later than all records of the group, the last of which is of the one that is told; or it is the last one, which is then told.
pub record IsClockBehindGroup (c : Contents) (name : List ℕ) (moment seen : ℕ) : Type 0 where
  pub group : Descriptor
  pub was : Stamped Status
  pub holds : HoldsByName c name group was
  pub back : (IsGreatestEpoch c group.id seen × (moment ≤ seen)) ⊎ ((moment ≡ last_moment) × (seen ≡ last_moment))
