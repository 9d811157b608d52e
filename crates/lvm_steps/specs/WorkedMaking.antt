-- The making of two small groups, worked by hand: what disks show in the midst of it.
use Rattle.std.specs.Prelude.{◌==◌, false, if◌then◌else◌, [], ◌∷◌, Some, None}
use Rattle.lvm_num.specs.declared.descriptor.Descriptor.{Descriptor}
use Rattle.lvm_num.specs.declared.status.Status.{Status}
use Rattle.lvm_num.specs.Record.{Stamped}
use Rattle.lvm_kept.specs.Contents.{Contents}
use Rattle.lvm_kept.specs.Kept.{Kept}
use Rattle.lvm_kept.specs.Examples.{member, stamped, three, no_note, zeros, row_of, status_of_rows}

-- four disks that show nothing
abbrev pub four_blank : Contents
four_blank = record { disks = 4; size = λ d. 16384; descriptor = λ d. None; status = λ d. None; note = no_note; block = zeros }

-- the first two of three named have the status of group 50
abbrev pub status_of_three : Stamped Status
status_of_three = stamped 1 (status_of_rows (row_of 0 false ∷ row_of 1 false ∷ row_of 2 false ∷ []))

abbrev pub half_stated : Contents
half_stated = record four_blank { status = λ d. if d == 2 then None else (if d == 3 then None else Some status_of_three) }

-- of the three the last one has its descriptor, and the fourth disk is in no group
abbrev pub half_described : Contents
half_described = record half_stated { descriptor = λ d. if d == 2 then Some (stamped 2 three) else None }

-- group 51 of the first disk and the third, by force
abbrev pub other_two : Descriptor
other_two = record three { id = 51; pvs = member 0 ∷ member 2 ∷ [] }

-- its descriptor has gone over that of group 50
abbrev pub overwritten : Contents
overwritten = record half_described { descriptor = λ d. if d == 2 then Some (stamped 4 other_two) else None }

-- the fourth disk shows a group of one that is named by a later moment than its stamp is of, as no `mkvg` leaves it
abbrev pub left_over : Descriptor
left_over = record three { id = 60; pvs = member 3 ∷ [] }

abbrev pub with_left_over : Contents
with_left_over = record four_blank { descriptor = λ d. if d == 3 then Some (stamped 2 left_over) else None }

-- at that moment a group of the first disk is made by force, and has the same id
abbrev pub newcomer : Descriptor
newcomer = record three { id = 60; pvs = member 0 ∷ [] }

abbrev pub of_one_id : Contents
of_one_id = record with_left_over { descriptor = λ d. if d == 0 then Some (record { stamp = record { epoch = 60; seq = 2 }; value = newcomer }) else with_left_over.descriptor d }

-- All of these keep the empty history, each by the law of the write that leads to it; but not a new group under an id that is shown.
pub record WorkedMaking : Type 0 where
  pub blank : Kept four_blank []
  pub stated : Kept half_stated []
  pub described : Kept half_described []
  pub forced : Kept overwritten []
  pub alone : Kept with_left_over []
  pub same_id : Kept of_one_id [] → ⊥
