-- Which group a name chooses, by what the disks show.
use Rattle.std.specs.Prelude.{◌≡◌, ◌⊎◌, ℕ, ◌≤◌, List, Some, None, Result, Ok, Err, IsTrue, IsFalse}
use Rattle.lvm_num.specs.declared.descriptor.Descriptor.{Descriptor}
use Rattle.lvm_num.specs.declared.status.Status.{Status}
use Rattle.lvm_num.specs.Disks.{has}
use Rattle.lvm_num.specs.Record.{Stamped}
use Rattle.lvm_num.specs.Votes.{all_disks, votes_in, total_votes}
use Rattle.lvm_quorum.specs.passed.Transfer.{Contents, descriptor_among, is_voter, has_quorum, status_among}
use Rattle.lvm_quorum.specs.declared.choice.Choice.{Choice}
use Rattle.lvm_quorum.specs.declared.choice.ChooseFault.{ChooseFault}
use Rattle.lvm_quorum.specs.declared.choice.ChooseFault.TheVariants as fault

-- some disk's newest descriptor gives the group this name
pub record HasName (c : Contents) (text : List ℕ) (id : ℕ) : Type 0 where
  pub disk : ℕ
  pub newest : Stamped Descriptor
  pub on : c.descriptor disk ≡ Some newest
  pub its : newest.value.id ≡ id
  pub name : newest.value.name ≡ text

-- no group of the name has a status on a voter
abbrev pub HasNoRecord : Contents → List ℕ → Type 0
HasNoRecord c name = (id : ℕ) → HasName c name id → status_among c all_disks id ≡ None

-- one of them has
pub record HasRecord (c : Contents) (name : List ℕ) : Type 0 where
  pub id : ℕ
  pub named : HasName c name id
  pub status : Stamped Status
  pub found : status_among c all_disks id ≡ Some status

-- two groups have the name
pub record IsAmbiguous (c : Contents) (name : List ℕ) : Type 0 where
  pub one : ℕ
  pub other : ℕ
  pub differ : one ≡ other → ⊥
  pub one_named : HasName c name one
  pub other_named : HasName c name other

-- just this group has the name, this is its newest descriptor, and a voter has a status
pub record IsOnly (c : Contents) (name : List ℕ) (id : ℕ) (group : Stamped Descriptor) (status : Stamped Status) : Type 0 where
  pub named : HasName c name id
  pub only : (other : ℕ) → HasName c name other → other ≡ id
  pub newest : descriptor_among c all_disks id ≡ Some group
  pub found : status_among c all_disks id ≡ Some status

-- the epoch is that of a newest record of the group on some disk, and none of them has a greater one
pub record IsGreatestEpoch (c : Contents) (id seen : ℕ) : Type 0 where
  pub descriptors : (d : ℕ) (r : Stamped Descriptor) → c.descriptor d ≡ Some r → r.value.id ≡ id → r.stamp.epoch ≤ seen
  pub statuses : (d : ℕ) (r : Stamped Status) → c.status d ≡ Some r → r.value.id ≡ id → r.stamp.epoch ≤ seen
  pub one : ((d : ℕ) × (r : Stamped Descriptor) × (c.descriptor d ≡ Some r) × (r.value.id ≡ id) × (r.stamp.epoch ≡ seen))
      ⊎ ((d : ℕ) × (r : Stamped Status) × (c.status d ≡ Some r) × (r.value.id ≡ id) × (r.stamp.epoch ≡ seen))

-- The one group of the name, which holds a quorum, as the disks show it.
pub record IsChosenGroup (c : Contents) (name : List ℕ) (choice : Choice) : Type 0 where
  pub id : ℕ
  pub group : Stamped Descriptor
  pub status : Stamped Status
  pub only : IsOnly c name id group status
  pub quorum : IsTrue (has_quorum c all_disks id)
  pub descriptor : choice.descriptor ≡ group.value
  pub newest : choice.status ≡ status.value
  pub answering : (d : ℕ) → has choice.answering d ≡ is_voter c all_disks id d
  pub seen : IsGreatestEpoch c id choice.seen

-- The one group of the name, whose voters don't hold a quorum, with their votes and all votes.
pub record LacksQuorum (c : Contents) (name : List ℕ) (have total : ℕ) : Type 0 where
  pub id : ℕ
  pub group : Stamped Descriptor
  pub status : Stamped Status
  pub only : IsOnly c name id group status
  pub quorum : IsFalse (has_quorum c all_disks id)
  pub have_is : have ≡ votes_in group.value (is_voter c all_disks id)
  pub total_is : total ≡ total_votes group.value

-- What the choice may answer, each refusal exactly where it holds and those before it don't; want of memory is free.
abbrev pub ChooseGives : Contents → List ℕ → Result Choice ChooseFault → Type 0
ChooseGives c name (Ok choice) = IsChosenGroup c name choice
ChooseGives c name (Err fault.NoRecord) = HasNoRecord c name
ChooseGives c name (Err fault.Ambiguous) = HasRecord c name × IsAmbiguous c name
ChooseGives c name (Err (fault.NoQuorum have total)) = LacksQuorum c name have total
ChooseGives c name (Err fault.Memory) = Unit {0}
