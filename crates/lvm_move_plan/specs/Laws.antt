-- What holds of the copies that stand on a disk, and of the moves by which they leave it.
use Rattle.std.specs.Prelude.{◌≡◌, ◌≢◌, ◌↔◌, ℕ, ◌<◌, false, List, [], ◌∷◌, map, All, AllPairs, Option, None, Some}
use Rattle.lvm_num.specs.Among.{IsOneOf}
use Rattle.lvm_num.specs.declared.place.Pp.{Pp}
use Rattle.lvm_num.specs.declared.descriptor.PvRow.{PvRow}
use Rattle.lvm_num.specs.declared.descriptor.Descriptor.{Descriptor}
use Rattle.lvm_num.specs.Descriptor.{IsValid, member_of, partitions_used}
use Rattle.lvm_map.specs.FirstFit.{is_among}
use Rattle.lvm_moved.specs.Moved.{MayStandOn, moved_descriptor}
use Rattle.lvm_move_plan.specs.declared.standing.VolumeCopy.{VolumeCopy}
use Rattle.lvm_move_plan.specs.declared.plan.PlannedMove.{PlannedMove}
use Rattle.lvm_move_plan.specs.Planned.{plan_refusal, planned_moves}
use Rattle.lvm_move_plan.specs.Standing.{ComesBefore, StandsOn, standing_on}

-- ---- the copies

-- Those that stand on a disk, and no others, are listed;
abbrev pub StandingAreListed : Type 0
StandingAreListed = (d : Descriptor) (lv : Option ℕ) (disk : ℕ) (c : VolumeCopy) → IsValid d → IsOneOf (standing_on d lv disk) c ↔ StandsOn d lv disk c

-- and in their order, each once.
abbrev pub StandingRise : Type 0
StandingRise = (d : Descriptor) (lv : Option ℕ) (disk : ℕ) → IsValid d → AllPairs ComesBefore (standing_on d lv disk)

-- Where nothing stands against the moves, they are of the copies that stand on the first disk, in order, each once.
abbrev pub EachMoves : Type 0
EachMoves = (d : Descriptor) (lv : Option ℕ) (from to : ℕ) → plan_refusal d lv from to ≡ None → map (λ (m : PlannedMove). m.copy) (planned_moves d lv from to) ≡ standing_on d lv from

-- ---- their places

-- a partition of the member that no volume has
pub record IsFreeOn (d : Descriptor) (disk : ℕ) (pp : Pp) : Type 0 where
  pub row : PvRow
  pub member : member_of d disk ≡ Some row
  pub there : pp.disk ≡ disk
  pub within : pp.pp < row.pps
  pub free : is_among (partitions_used d) pp ≡ false

-- the place of one of the moves is free, and any that is free below it is the place of another
pub record IsLowest (d : Descriptor) (disk : ℕ) (moves : List PlannedMove) (m : PlannedMove) : Type 0 where
  pub is_free : IsFreeOn d disk m.to
  pub below : (pp : Pp) → IsFreeOn d disk pp → pp.pp < m.to.pp → IsOneOf (map (λ (e : PlannedMove). e.to) moves) pp

-- The moves go to the lowest free partitions of the second disk, each to the next one.
abbrev pub PlacesAreLowest : Type 0
PlacesAreLowest =
    (d : Descriptor) (lv : Option ℕ) (from to : ℕ)
    → All (IsLowest d to (planned_moves d lv from to)) (planned_moves d lv from to) × AllPairs (λ (a b : PlannedMove). a.to.pp < b.to.pp) (planned_moves d lv from to)

-- ---- the groups in which they are made

-- the group in which the copy has moved, and in which all of these have, in order
abbrev pub after_move : Descriptor → PlannedMove → Descriptor
after_move d m = moved_descriptor d m.copy.lv m.copy.lp m.copy.number m.to

abbrev pub after_moves : Descriptor → List PlannedMove → Descriptor
after_moves d [] = d
after_moves d (m ∷ rest) = after_moves (after_move d m) rest

-- Where nothing stands against the moves the first copy may stand on its partition; and once it does, the other moves are still planned, and nothing stands against them.
pub record PlanGoesOn (d : Descriptor) (lv : Option ℕ) (from to : ℕ) (m : PlannedMove) (rest : List PlannedMove) : Type 0 where
  pub may : MayStandOn d m.copy.lv m.copy.lp m.copy.number m.to
  pub rest_is : planned_moves (after_move d m) lv from to ≡ rest
  pub still : plan_refusal (after_move d m) lv from to ≡ None

abbrev pub PlansGoOn : Type 0
PlansGoOn =
    (d : Descriptor) (lv : Option ℕ) (from to : ℕ) (m : PlannedMove) (rest : List PlannedMove)
    → IsValid d → from ≢ to → plan_refusal d lv from to ≡ None → planned_moves d lv from to ≡ m ∷ rest → PlanGoesOn d lv from to m rest

-- Once all are made the group is valid, and no copy that is asked for stands on the first disk.
abbrev pub PlansEmptyDisks : Type 0
PlansEmptyDisks =
    (d : Descriptor) (lv : Option ℕ) (from to : ℕ) → IsValid d → from ≢ to → plan_refusal d lv from to ≡ None
    → IsValid (after_moves d (planned_moves d lv from to)) × (standing_on (after_moves d (planned_moves d lv from to)) lv from ≡ [])

-- where no move is left, none stands there
abbrev pub NoneIsLeft : Type 0
NoneIsLeft = (d : Descriptor) (lv : Option ℕ) (from to : ℕ) → plan_refusal d lv from to ≡ None → planned_moves d lv from to ≡ [] → standing_on d lv from ≡ []
