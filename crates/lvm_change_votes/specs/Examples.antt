-- Small groups, worked by hand, whose members change.
use Rattle.std.specs.Prelude.{ℕ, Bool, true, false, ◌==◌, not, List, [], ◌∷◌}
use Rattle.lvm_num.specs.declared.descriptor.PvRow.{PvRow}
use Rattle.lvm_num.specs.declared.descriptor.Descriptor.{Descriptor}
use Rattle.lvm_num.specs.Disks.{Disks}
use Rattle.lvm_num.specs.Votes.{all_disks}
use Rattle.lvm_change_votes.specs.Meeting.{HasSameMembers, IsOneMore, MayReach}

-- a member of 6 partitions of 1 MiB
abbrev pub member : ℕ → PvRow
member d = record { disk = d; pps = 6; spare = false }

-- group 50 of these members without a volume, with quorum checking or without, even or not
abbrev pub group_of : Bool → Bool → List PvRow → Descriptor
group_of quorum even pvs = record { id = 50; name = 100 ∷ []; mib = 1; quorum = quorum; even = even; big = false; pvs = pvs; lvs = [] }

abbrev pub of_one : Bool → ℕ → Descriptor
of_one quorum d = group_of quorum false (member d ∷ [])

abbrev pub of_two : Bool → Bool → Descriptor
of_two quorum even = group_of quorum even (member 0 ∷ member 1 ∷ [])

abbrev pub of_three : Bool → Descriptor
of_three quorum = group_of quorum false (member 0 ∷ member 1 ∷ member 2 ∷ [])

abbrev pub of_four : Bool → Descriptor
of_four quorum = group_of quorum false (member 0 ∷ member 1 ∷ member 2 ∷ member 3 ∷ [])

abbrev pub all_but : ℕ → Disks
all_but lost d = not (d == lost)

-- A fourth disk joins three members: where all are there, with quorum checking or without, and where one is missing and it is on.
pub record FourthJoins : Type 0 where
  pub more : (quorum : Bool) → IsOneMore (of_three quorum) (of_four quorum)
  pub reached : (quorum : Bool) → MayReach (of_three quorum) (of_four quorum) all_disks
  pub without : MayReach (of_three true) (of_four true) (all_but 1)

-- Three members are reduced to one: to two that are even, then to two that aren't, of which the second leaves; or the first, from the even ones.
pub record ReducesToOne (quorum : Bool) : Type 0 where
  pub third : IsOneMore (of_two quorum true) (of_three quorum)
  pub uneven : HasSameMembers (of_two quorum true) (of_two quorum false)
  pub second : IsOneMore (of_one quorum 0) (of_two quorum false)
  pub first : IsOneMore (of_one quorum 1) (of_two quorum true)
  pub to_two : MayReach (of_three quorum) (of_two quorum true) all_disks
  pub to_uneven : MayReach (of_two quorum true) (of_two quorum false) all_disks
  pub to_one : MayReach (of_two quorum false) (of_one quorum 0) all_disks

-- with quorum checking or without
abbrev pub GroupsMayReduce : Type 0
GroupsMayReduce = (quorum : Bool) → ReducesToOne quorum
