-- What holds of the descriptor in which a copy stands on another partition.
use Rattle.std.specs.Prelude.{ℕ}
use Rattle.lvm_num.specs.declared.place.Pp.{Pp}
use Rattle.lvm_num.specs.declared.descriptor.Descriptor.{Descriptor}
use Rattle.lvm_num.specs.Descriptor.{IsValid}
use Rattle.lvm_moved.specs.Moved.{MayStandOn, moved_descriptor}

-- It is valid.
abbrev pub MovedIsValid : Type 0
MovedIsValid = (d : Descriptor) (lv lp number : ℕ) (to : Pp) → IsValid d → MayStandOn d lv lp number to → IsValid (moved_descriptor d lv lp number to)
