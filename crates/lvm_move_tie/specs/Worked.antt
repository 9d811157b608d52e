-- A session, written out without bytes, whose second copy has moved: on two disks of one mirrored volume that is all zeros.
use Rattle.std.specs.Prelude.{ℕ, Bool, true, false, ◌&&◌, ◌||◌, ◌==◌, [], ◌∷◌, Some, None, nat_lt, slice_index_or}
use Rattle.lvm_num.specs.declared.place.Pp.{Pp}
use Rattle.lvm_num.specs.declared.descriptor.Mode.{Mode}
use Rattle.lvm_num.specs.declared.descriptor.Descriptor.{Descriptor}
use Rattle.lvm_num.specs.declared.status.Status.{Status}
use Rattle.lvm_num.specs.Descriptor.{is_pp}
use Rattle.lvm_num.specs.Record.{Stamped}
use Rattle.lvm_kept.specs.Contents.{Contents}
use Rattle.lvm_kept.specs.Examples.{no_note, of_two, row_of, stamped, status_of_rows, two, zeros}
use Rattle.lvm_invariant.specs.State.{Beside, ModelState}
use Rattle.lvm_invariant.specs.Found.{Votes}
use Rattle.lvm_invariant.specs.First.{at_rest, is_either, second_copy}
use Rattle.lvm_crash.specs.Session.{AreVotesOf, as_marks, marks_of, marks_shown}
use Rattle.lvm_crash.specs.Worked.{sizes}
use Rattle.lvm_places.specs.Places.{Marking}
use Rattle.lvm_moved.specs.Moved.{moved_descriptor}
use Rattle.lvm_move_laws.specs.Committing.{MayTakePlace}

-- the next partition of the second disk, which no volume has
abbrev pub free_partition : Pp
free_partition = record { disk = 1; pp = 1 }

-- the volume's blocks
abbrev pub is_block : ℕ → ℕ → Bool
is_block lv b = 1 == lv && nat_lt b 2048

-- it stands for them beside the group's copies
abbrev pub its_place : Beside
its_place = record { place = free_partition; its = is_block }

-- what both disks show, by which nothing is stale
abbrev pub nothing_stale : Stamped Status
nothing_stale = stamped 1 (status_of_rows (row_of 0 false ∷ row_of 1 false ∷ []))

abbrev pub shown_disks : Mode → Contents
shown_disks mode = record (of_two mode false no_note zeros) { size = λ d. slice_index_or sizes d 0 }

-- The partition is one copy more, and it has passed all track groups.
abbrev pub moved_state : Mode → ModelState
moved_state mode = record (at_rest mode false) {
  media = record (at_rest mode false).media { status = λ d. marks_shown (Some its_place) 50 ((shown_disks mode).status d) };
  is_copy = λ lv b c. is_block lv b && (is_either c || is_pp c free_partition);
  committed = as_marks (Some its_place) nothing_stale;
  wanted = marks_of (Some its_place) nothing_stale.value;
  open_copy = Some (record { target = free_partition; passed = λ lv g. true });
  beside = Some its_place;
}

-- the statuses as they stand
abbrev pub as_they_stand : Mode → Marking
as_they_stand mode = record {
  status = λ d. marks_shown None 50 ((shown_disks mode).status d);
  committed = as_marks None nothing_stale;
  in_flight = None;
  wanted = marks_of None nothing_stale.value;
}

-- the group with it in the place of the second copy
abbrev pub moved_group : Mode → Descriptor
moved_group mode = moved_descriptor (two mode) 1 0 2 free_partition

-- It may take the place of the second copy, in whatever mode the volume is.
abbrev pub PlacesMayBeTaken : Type 0
PlacesMayBeTaken = (mode : Mode) (votes : Votes) → AreVotesOf (two mode) votes
    → MayTakePlace votes (moved_state mode) (as_they_stand mode) its_place (two mode) (moved_group mode) 1 0 second_copy (shown_disks mode)
