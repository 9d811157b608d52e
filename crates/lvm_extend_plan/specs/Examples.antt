-- Small groups, worked by hand, that disks may join.
use Rattle.std.specs.Prelude.{◌≡◌, ℕ, Bool, true, false, List, [], ◌∷◌, Some}
use Rattle.lvm_num.specs.Descriptor.{IsValid}
use Rattle.lvm_change_votes.specs.Examples.{of_one, of_two, of_three}
use Rattle.lvm_group.specs.NewGroup.{member_for}
use Rattle.lvm_extend_plan.specs.Refusals.{AreJoining}
use Rattle.lvm_extend_plan.specs.Steps.{MayJoin, before_joining}

-- four disks of 8 MiB
abbrev pub sizes : List ℕ
sizes = 16384 ∷ 16384 ∷ 16384 ∷ 16384 ∷ []

-- A fourth disk may join three members; two may join two that aren't even, which become so first; and three may join one, which stays as it is first.
pub record MembersMayJoin (quorum : Bool) : Type 0 where
  pub valid : IsValid (of_three quorum)
  pub fourth : AreJoining sizes (of_three quorum) (3 ∷ [])
  pub may : MayJoin (of_three quorum) (member_for sizes 1 3)
  pub two : AreJoining sizes (of_two quorum false) (2 ∷ 3 ∷ [])
  pub even : before_joining (of_two quorum false) ≡ Some (of_two quorum true)
  pub one : AreJoining sizes (of_one quorum 0) (1 ∷ 2 ∷ 3 ∷ [])

-- with quorum checking or without
abbrev pub GroupsMayGrow : Type 0
GroupsMayGrow = (quorum : Bool) → MembersMayJoin quorum
