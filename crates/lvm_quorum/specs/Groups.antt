-- A group among the rows of a survey, and what is chosen of it.
use Rattle.std.specs.Prelude.{◌≡◌, ◌⊎◌, ℕ, ◌≤◌, max, List, Option, Some, None, Result, Ok, Err, IsTrue, IsFalse}
use Rattle.lvm_num.specs.declared.descriptor.Descriptor.{Descriptor}
use Rattle.lvm_num.specs.declared.status.Status.{Status}
use Rattle.lvm_num.specs.Disks.{has}
use Rattle.lvm_num.specs.Record.{Stamped}
use Rattle.lvm_num.specs.Votes.{all_disks, votes_in, total_votes}
use Rattle.lvm_quorum.specs.passed.Transfer.{Contents, descriptor_among, is_voter, has_quorum, status_among, if_passes, is_of, is_status_of}
use Rattle.lvm_quorum.specs.declared.choice.Choice.{Choice}
use Rattle.lvm_quorum.specs.declared.choice.ChooseFault.{ChooseFault}
use Rattle.lvm_quorum.specs.declared.choice.ChooseFault.TheVariants as fault
use Rattle.lvm_quorum.specs.declared.groups.Group.{Group}
use Rattle.lvm_quorum.specs.declared.shown.Shown.{Shown}
use Rattle.lvm_quorum.specs.Choosing.{IsGreatestEpoch}

-- a record that is shown, under its stamp
abbrev pub shown_record : {X : Type 0} → Shown X → Stamped X
shown_record shown = record { stamp = shown.stamp; value = shown.value.now }

abbrev pub shown_record_if : {X : Type 0} → Option (Shown X) → Option (Stamped X)
shown_record_if None = None
shown_record_if (Some shown) = Some (shown_record shown)

-- the epoch of a record, 0 where there is none
abbrev pub epoch_of : {X : Type 0} → Option (Stamped X) → ℕ
epoch_of None = 0
epoch_of (Some r) = r.stamp.epoch

-- the greater epoch of the two newest records of the group on a disk
abbrev pub epoch_on : Contents → ℕ → ℕ → ℕ
epoch_on c id d = max (epoch_of (if_passes (is_of id) (c.descriptor d))) (epoch_of (if_passes (is_status_of id) (c.status d)))

-- no disk shows a greater epoch of the group, and one shows this, or it is 0
pub record IsLastEpoch (c : Contents) (id seen : ℕ) : Type 0 where
  pub most : (d : ℕ) → epoch_on c id d ≤ seen
  pub one : (seen ≡ 0) ⊎ ((d : ℕ) × (epoch_on c id d ≡ seen))

-- a descriptor that a disk shows gives its group this name
pub record IsNamedBy (shown : Option (Stamped Descriptor)) (text : List ℕ) (id : ℕ) : Type 0 where
  pub newest : Stamped Descriptor
  pub on : shown ≡ Some newest
  pub its : newest.value.id ≡ id
  pub name : newest.value.name ≡ text

-- a group as the disks show it: its newest descriptor, its voters and their newest status
pub record IsGroup (c : Contents) (id : ℕ) (group : Group) : Type 0 where
  pub descriptor : descriptor_among c all_disks id ≡ Some (shown_record group.descriptor)
  pub voters : (d : ℕ) → has group.voters d ≡ is_voter c all_disks id d
  pub status : shown_record_if group.status ≡ status_among c all_disks id

-- the group as it is chosen: it holds a quorum
pub record IsChoiceOf (c : Contents) (id : ℕ) (choice : Choice) : Type 0 where
  pub group : Stamped Descriptor
  pub status : Stamped Status
  pub newest : descriptor_among c all_disks id ≡ Some group
  pub found : status_among c all_disks id ≡ Some status
  pub quorum : IsTrue (has_quorum c all_disks id)
  pub descriptor : choice.descriptor ≡ group.value
  pub newest_status : choice.status ≡ status.value
  pub answering : (d : ℕ) → has choice.answering d ≡ is_voter c all_disks id d
  pub seen : IsGreatestEpoch c id choice.seen

-- its voters don't, and have these votes of so many
pub record LacksVotes (c : Contents) (id have total : ℕ) : Type 0 where
  pub group : Stamped Descriptor
  pub status : Stamped Status
  pub newest : descriptor_among c all_disks id ≡ Some group
  pub found : status_among c all_disks id ≡ Some status
  pub quorum : IsFalse (has_quorum c all_disks id)
  pub have_is : have ≡ votes_in group.value (is_voter c all_disks id)
  pub total_is : total ≡ total_votes group.value

-- what may be answered of one group
abbrev pub GroupGives : Contents → ℕ → Result Choice ChooseFault → Type 0
GroupGives c id (Ok choice) = IsChoiceOf c id choice
GroupGives c id (Err fault.NoRecord) = status_among c all_disks id ≡ None
GroupGives c id (Err fault.Ambiguous) = ⊥
GroupGives c id (Err (fault.NoQuorum have total)) = LacksVotes c id have total
GroupGives c id (Err fault.Memory) = Unit {0}
