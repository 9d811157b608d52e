-- The steps by which one member leaves its group.
use Rattle.std.specs.Prelude.{◌≡◌, ◌⊎◌, ℕ, true, false, List, [], ◌∷◌, None, IfSome, IsTrue, unwrap_or}
use Rattle.lvm_num.specs.declared.descriptor.Descriptor.{Descriptor}
use Rattle.lvm_num.specs.Descriptor.{IsValid, is_member}
use Rattle.lvm_change_votes.specs.Meeting.{AreNeighbours}
use Rattle.lvm_member_plan.specs.declared.steps.StepsOut.{StepsOut}
use Rattle.lvm_member_plan.specs.Descriptors.{without_members, reduced, is_used}

-- Members on these disks leave, or none, and two members become even or are so no more: what can read the one descriptor meets what can read the other.
pub record IsStep (leaving : List ℕ) (group next : Descriptor) : Type 0 where
  pub valid : IsValid group
  pub valid_next : IsValid next
  pub is : next ≡ without_members leaving next.even group
  pub near : AreNeighbours group next

-- The member may leave: another one stays, and no volume has a partition on its disk.
pub record MayDepart (d : Descriptor) (disk : ℕ) : Type 0 where
  pub member : IsTrue (is_member d disk)
  pub other : ℕ
  pub stays : IsTrue (is_member d other)
  pub apart : other ≡ disk → ⊥
  pub unused : is_used d disk ≡ false

-- members may leave so one after the other
abbrev pub MayDepartAll : Descriptor → List ℕ → Type 0
MayDepartAll d [] = Unit {0}
MayDepartAll d (x ∷ xs) = IsValid d × MayDepart d x × MayDepartAll (reduced (x ∷ []) d) xs

-- A member leaves by one step, before which its group may become even, and behind which it is so no more.
pub record AreStepsOut (d : Descriptor) (disk : ℕ) (s : StepsOut) : Type 0 where
  pub before : IfSome s.before (IsStep [] d)
  pub out : IsStep (disk ∷ []) (unwrap_or s.before d) s.out
  pub after : IfSome s.after (IsStep [] s.out)
  pub last : unwrap_or s.after s.out ≡ reduced (disk ∷ []) d
  -- two steps at most
  pub few : (s.before ≡ None) ⊎ (s.after ≡ None)
