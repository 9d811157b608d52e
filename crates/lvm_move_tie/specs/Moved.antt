-- The descriptor in which a copy stands on another partition, by the copies of its volumes.
use Rattle.std.specs.Prelude.{◌≡◌, ℕ, ◌-◌, Some, slice_get}
use Rattle.lvm_num.specs.declared.place.Pp.{Pp}
use Rattle.lvm_num.specs.declared.descriptor.Descriptor.{Descriptor}
use Rattle.lvm_num.specs.Descriptor.{IsValid, copies_of}
use Rattle.lvm_steps.specs.Committing.{DiffersInVolume}
use Rattle.lvm_moved.specs.Moved.{MayStandOn, moved_descriptor}
use Rattle.lvm_move_laws.specs.Moving.{MovesIn}

-- It has the copies of the group but for that one, in whose place it has this partition, and differs from the group in that volume alone.
pub record MovedMovesIn : Type 0 where
  pub moves : (d : Descriptor) (lv lp number : ℕ) (from to : Pp) → IsValid d → (may : MayStandOn d lv lp number to) → slice_get (copies_of may.row lp) (number - 1) ≡ Some from
      → MovesIn lv lp from to d (moved_descriptor d lv lp number to)
  pub differs : (d : Descriptor) (lv lp number : ℕ) (to : Pp) → DiffersInVolume lv d (moved_descriptor d lv lp number to)
