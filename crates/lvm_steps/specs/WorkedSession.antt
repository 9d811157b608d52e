-- A small group worked by hand: varied on with a disk away, and with its first volume in the making.
use Rattle.std.specs.Prelude.{◌==◌, ℕ, true, false, if◌then◌else◌, [], ◌∷◌, Some, None}
use Rattle.lvm_num.specs.declared.descriptor.Mode.TheVariants as mode
use Rattle.lvm_num.specs.declared.descriptor.Policy.TheVariants as policy
use Rattle.lvm_num.specs.declared.descriptor.LvRow.{LvRow}
use Rattle.lvm_num.specs.declared.descriptor.Descriptor.{Descriptor}
use Rattle.lvm_num.specs.declared.status.Status.{Status}
use Rattle.lvm_num.specs.Disks.{Disks}
use Rattle.lvm_num.specs.Record.{Stamped}
use Rattle.lvm_vol.specs.Facts.{Making}
use Rattle.lvm_kept.specs.Contents.{Contents}
use Rattle.lvm_kept.specs.Group.{IsOneFound}
use Rattle.lvm_kept.specs.Kept.{Kept}
use Rattle.lvm_kept.specs.Examples.{stamped, three, row_of, status_of_rows, only, either_of}
use Rattle.lvm_steps.specs.WorkedMaking.{four_blank, status_of_three}

-- the three members of group 50, of four disks
abbrev pub first_three : Disks
first_three d = if d == 0 then true else (if d == 1 then true else d == 2)

-- each of them has the descriptor and the status
abbrev pub of_three : Contents
of_three = record four_blank { descriptor = λ d. if first_three d then Some (stamped 2 three) else None; status = λ d. if first_three d then Some status_of_three else None }

-- a stamp of the session that began at moment 60
abbrev pub at_60 : {X : Type 0} → ℕ → X → Stamped X
at_60 seq value = record { stamp = record { epoch = 60; seq = seq }; value = value }

-- the second disk is away: the descriptor has gone to the first of the two others,
abbrev pub half_restamped : Contents
half_restamped = record of_three { descriptor = λ d. if only 0 d then Some (at_60 1 three) else of_three.descriptor d }

-- and to both,
abbrev pub restamped : Contents
restamped = record of_three { descriptor = λ d. if either_of 0 2 d then Some (at_60 1 three) else of_three.descriptor d }

-- and then the status that calls the second disk missing to the first of them
abbrev pub second_missing : Status
second_missing = status_of_rows (row_of 0 false ∷ record (row_of 1 false) { missing = true } ∷ row_of 2 false ∷ [])

abbrev pub half_restated : Contents
half_restated = record restamped { status = λ d. if only 0 d then Some (at_60 2 second_missing) else of_three.status d }

-- volume 1 of one logical partition, on the first partition of the first disk
abbrev pub first_volume : LvRow
first_volume = record { number = 1; name = 108 ∷ []; copies = 1; mode = mode.Off; policy = policy.Parallel; lps = 1; map = record { disk = 0; pp = 0 } ∷ [] }

abbrev pub with_volume : Descriptor
with_volume = record three { lvs = first_volume ∷ [] }

-- its descriptor has gone to the second disk alone
abbrev pub half_committed : Contents
half_committed = record of_three { descriptor = λ d. if only 1 d then Some (stamped 3 with_volume) else of_three.descriptor d }

-- All of these keep what they should, each by the law of the step that leads to it.
pub record WorkedSession : Type 0 where
  pub settled : Kept of_three []
  -- and no other group is found there
  pub one : IsOneFound of_three
  pub half_on : Kept half_restamped []
  pub stamped_anew : Kept restamped []
  pub stated_anew : Kept half_restated []
  pub begun : Kept of_three (Making 1 2048 mode.Off ∷ [])
  pub half_made : Kept half_committed (Making 1 2048 mode.Off ∷ [])
