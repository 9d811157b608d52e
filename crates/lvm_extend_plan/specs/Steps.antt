-- The steps by which one member joins its group.
use Rattle.std.specs.Prelude.{◌≡◌, ◌≢◌, ℕ, ◌<◌, ◌≤◌, true, false, ◌&&◌, not, ◌==◌, if◌then◌else◌, List, [], ◌∷◌, length, Option, Some, None, IfSome, AllPairs, unwrap_or}
use Rattle.lvm_num.specs.declared.descriptor.PvRow.{PvRow}
use Rattle.lvm_num.specs.declared.descriptor.Descriptor.{Descriptor}
use Rattle.lvm_num.specs.Descriptor.{IsValid, IsMember, is_member, most_members}
use Rattle.lvm_change_votes.specs.Meeting.{AreNeighbours, IsOneMore}
use Rattle.lvm_group.specs.NewGroup.{member_for}
use Rattle.lvm_member_plan.specs.Descriptors.{with_even}
use Rattle.lvm_member_plan.specs.Steps.{IsStep}
use Rattle.lvm_extend_plan.specs.declared.steps.StepsIn.{StepsIn}
use Rattle.lvm_extend_plan.specs.Descriptors.{with_member, extended}
use Rattle.lvm_extend_plan.specs.Refusals.{AreJoining}

-- The member joins as the last one: what can read the one descriptor meets what can read the other, and what can read the greater one what can write the smaller one.
pub record IsStepIn (row : PvRow) (group next : Descriptor) : Type 0 where
  pub valid : IsValid group
  pub valid_next : IsValid next
  pub is : next ≡ with_member row group
  pub more : IsOneMore group next
  pub near : AreNeighbours group next

-- The member may join: it is none by now, and the group may have one more.
pub record MayJoin (d : Descriptor) (row : PvRow) : Type 0 where
  pub member : IsMember row
  pub apart : is_member d row.disk ≡ false
  pub few : length d.pvs < most_members d.big

-- two members that aren't even become so first
abbrev pub before_joining : Descriptor → Option Descriptor
before_joining d = if length d.pvs == 2 && not d.even then Some (with_even true d) else None

-- So it joins by one step, before which its group becomes even where it has to.
pub record AreStepsIn (d : Descriptor) (row : PvRow) (s : StepsIn) : Type 0 where
  pub before_is : s.before ≡ before_joining d
  pub before : IfSome s.before (IsStep [] d)
  pub into : IsStepIn row (unwrap_or s.before d) s.into
  pub last : s.into ≡ with_member row d

-- ---- one after the other

-- the first may join, the others may join the group with it, and all of them make the same group
pub record MayJoinFirst (sizes : List ℕ) (d : Descriptor) (disk : ℕ) (disks : List ℕ) : Type 0 where
  pub may : MayJoin d (member_for sizes d.mib disk)
  pub others : AreJoining sizes (with_member (member_for sizes d.mib disk) d) disks
  pub last : extended sizes disks (with_member (member_for sizes d.mib disk) d) ≡ extended sizes (disk ∷ disks) d

abbrev pub JoinOneByOne : Type 0
JoinOneByOne = (sizes : List ℕ) (d : Descriptor) (disk : ℕ) (disks : List ℕ)
    → length sizes ≤ 128 → AllPairs (λ (a b : ℕ). a ≢ b) (disk ∷ disks) → AreJoining sizes d (disk ∷ disks) → MayJoinFirst sizes d disk disks
