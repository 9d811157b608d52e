-- Sessions that are written out, of which a disk is missing.
use Rattle.std.specs.Prelude.{◌≡◌, true, false, Bool, List, [], ◌∷◌, None, Ok, Err}
use Rattle.lvm_num.specs.declared.descriptor.Mode.{Mode}
use Rattle.lvm_num.specs.declared.descriptor.PvRow.{PvRow}
use Rattle.lvm_session.specs.State.{Core}
use Rattle.lvm_session.specs.Worked.{Says, behind, calm, core_of, fresh}
use Rattle.lvm_session.specs.WorkedMoves.{free_destination}
use Rattle.lvm_move_plan.specs.declared.standing.VolumeCopy.{VolumeCopy}
use Rattle.lvm_migrate.specs.declared.fault.MoveFault.TheVariants as move
use Rattle.lvm_rebuild.specs.declared.fault.RebuildFault.TheVariants as fault
use Rattle.lvm_rebuild.specs.Choosing.{choice_of, lost_copies, lost_members}
use Rattle.lvm_rebuild.specs.Rebuilding.{rebuild_refusal}

-- a member of a group is a spare, or none
abbrev pub spare_row : Bool → PvRow → PvRow
spare_row on row = record row { spare = on }

-- these of three members are spares
abbrev pub with_spares : Bool → Bool → List PvRow → List PvRow
with_spares second third (a ∷ b ∷ c ∷ []) = a ∷ spare_row second b ∷ spare_row third c ∷ []
with_spares second third rows = rows

-- The first of three disks is missing, and these others are spares. A volume is mirrored on the first two, of which the status says so much.
abbrev pub lost_core : Mode → Says → Bool → Bool → Core
lost_core m says second third =
    let s : Says = record says { missing = true } in
    let core : Core = core_of (record (calm m) { committed = s; wanted = s }) in
    record core { descriptor = record core.descriptor { pvs = with_spares second third core.descriptor.pvs } }

-- the copy on the first
abbrev pub lost_copy : VolumeCopy
lost_copy = record { lv = 1; lp = 0; number = 1 }

-- It goes to the lowest partition of the third disk where that is a spare, also where the second is one, which has the other copy. Where the third is none, no spare takes it; and where
-- the other copy is stale, none is usable.
pub record MayBeRebuilt (m : Mode) : Type 0 where
  pub members : lost_members (lost_core m fresh false true) ≡ 0 ∷ []
  pub copies : lost_copies (lost_core m fresh false true) ≡ lost_copy ∷ []
  pub fine : rebuild_refusal (lost_core m fresh false true) ≡ None
  pub third : choice_of (lost_core m fresh false true) (0 ∷ []) lost_copy ≡ Ok free_destination
  pub further : choice_of (lost_core m fresh true true) (0 ∷ []) lost_copy ≡ Ok free_destination
  pub beside : choice_of (lost_core m fresh true false) (0 ∷ []) lost_copy ≡ Err (fault.NoSpare 0)
  pub stale : choice_of (lost_core m behind false true) (0 ∷ []) lost_copy ≡ Err (fault.Move (move.NoFresh 0))

-- So it is in whatever mode the volume is.
abbrev pub MirrorsMayBeRebuilt : Type 0
MirrorsMayBeRebuilt = (m : Mode) → MayBeRebuilt m
