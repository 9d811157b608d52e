-- Plans that are written out: a volume of two logical partitions, mirrored on two of three disks.
use Rattle.std.specs.Prelude.{◌≡◌, ℕ, true, false, List, [], ◌∷◌, Some, None}
use Rattle.lvm_num.specs.declared.descriptor.Mode.TheVariants as mode
use Rattle.lvm_num.specs.declared.descriptor.Policy.TheVariants as policy
use Rattle.lvm_num.specs.declared.place.Pp.{Pp}
use Rattle.lvm_num.specs.declared.descriptor.PvRow.{PvRow}
use Rattle.lvm_num.specs.declared.descriptor.LvRow.{LvRow}
use Rattle.lvm_num.specs.declared.descriptor.Descriptor.{Descriptor}
use Rattle.lvm_move_plan.specs.declared.plan.PlannedMove.{PlannedMove}
use Rattle.lvm_move_plan.specs.declared.plan.PlanFault.TheVariants as fault
use Rattle.lvm_move_plan.specs.Laws.{after_moves}
use Rattle.lvm_move_plan.specs.Planned.{plan_refusal, planned_moves}

-- a member of so many partitions, and one of its partitions
abbrev pub member : ℕ → ℕ → PvRow
member disk pps = record { disk = disk; pps = pps; spare = false }

abbrev pub at : ℕ → ℕ → Pp
at disk pp = record { disk = disk; pp = pp }

-- the volume with these partitions as its copies, in a group whose third disk has so many partitions
abbrev pub mirror_on : List Pp → LvRow
mirror_on map = record { number = 1; name = 108 ∷ []; copies = 2; mode = mode.Active; policy = policy.Parallel; lps = 2; map = map }

abbrev pub group_with : ℕ → List Pp → Descriptor
group_with pps map = record { id = 50; name = 100 ∷ []; mib = 1; quorum = true; even = false; big = false; pvs = member 0 6 ∷ member 1 6 ∷ member 2 pps ∷ []; lvs = mirror_on map ∷ [] }

-- each logical partition has its first copy on the first disk and its second on the second
abbrev pub mirrored : ℕ → Descriptor
mirrored pps = group_with pps (at 0 0 ∷ at 1 0 ∷ at 0 1 ∷ at 1 1 ∷ [])

-- the first copies move to the two lowest partitions of the third disk
abbrev pub two_moves : List PlannedMove
two_moves = record { copy = record { lv = 1; lp = 0; number = 1 }; to = at 2 0 } ∷ record { copy = record { lv = 1; lp = 1; number = 1 }; to = at 2 1 } ∷ []

-- To the third disk both move, and stand there then; to the second none may, for the first logical partition; where the third has one partition none may either; and where no
-- such volume is there, nothing is to be moved.
pub record PlansAreAsWorked : Type 0 where
  pub moves : planned_moves (mirrored 6) None 0 2 ≡ two_moves
  pub fine : plan_refusal (mirrored 6) None 0 2 ≡ None
  pub moved : after_moves (mirrored 6) two_moves ≡ group_with 6 (at 2 0 ∷ at 1 0 ∷ at 2 1 ∷ at 1 1 ∷ [])
  pub beside : plan_refusal (mirrored 6) (Some 1) 0 1 ≡ Some (fault.Strict 0)
  pub small : plan_refusal (mirrored 1) None 0 2 ≡ Some (fault.NoRoom 1)
  pub other : planned_moves (mirrored 6) (Some 2) 0 2 ≡ []
