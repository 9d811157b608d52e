-- The descriptor in which a copy stands on another partition is one to which it has moved.
use Rattle.std.specs.Prelude.{◌≡◌, ℕ, true}
use Rattle.lvm_num.specs.declared.place.Pp.{Pp}
use Rattle.lvm_num.specs.declared.descriptor.Descriptor.{Descriptor}
use Rattle.lvm_num.specs.Descriptor.{IsValid}
use Rattle.lvm_moved.specs.Moved.{MayStandOn, moved_descriptor}
use Rattle.lvm_session.specs.declared.bringing.OpenCopy.{OpenCopy}
use Rattle.lvm_session.specs.Sound.{IsCopy}
use Rattle.lvm_session.specs.State.{Core}
use Rattle.lvm_move_keeps.specs.Keeping.{HasMovedTo}

-- It is so of any that may stand there,
abbrev pub MovedHasMoved : Type 0
MovedHasMoved = (d : Descriptor) (lv lp number : ℕ) (to : Pp) → IsValid d → MayStandOn d lv lp number to → HasMovedTo lv lp to d (moved_descriptor d lv lp number to)

-- and of the destination of a move.
abbrev pub MoveHasMoved : Type 0
MoveHasMoved = (core : Core) (c : OpenCopy) → IsValid core.descriptor → IsCopy core c → c.moves ≡ true → HasMovedTo c.lv c.lp c.pp core.descriptor (moved_descriptor core.descriptor c.lv c.lp c.copy c.pp)
