-- A small group, worked by hand, that a disk has left.
use Rattle.std.specs.Prelude.{ℕ, Bool, true, false, ◌==◌, if◌then◌else◌, List, [], ◌∷◌, Option, Some, None}
use Rattle.lvm_disk.specs.passed.Num.{Descriptor, Status, Disks, Stamped, CanWrite}
use Rattle.lvm_vol.specs.declared.entry.Vol.TheVariants.{Disk}
use Rattle.lvm_vol.specs.Facts.{Fact, Removed}
use Rattle.lvm_kept.specs.Contents.{Contents}
use Rattle.lvm_kept.specs.Examples.{either_of, no_note, row_of, stamped, status_of_rows, zeros}
use Rattle.lvm_kept.specs.Committed.{IsWithinDisks}
use Rattle.lvm_kept.specs.Kept.{Kept}
use Rattle.lvm_commit.specs.Committed.{ShowsCommitted}
use Rattle.lvm_change_votes.specs.Examples.{of_two}
use Rattle.lvm_change_laws.specs.Committed.{MayErase}

-- the status of the two members
abbrev pub status : Status
status = status_of_rows (row_of 0 false ∷ row_of 1 false ∷ [])

-- Disks 0 and 1 show the group as it is, of two members that aren't even; disk 2, which has left, the one before, by which they were.
abbrev pub shown_by : Bool → ℕ → Option (Stamped Descriptor)
shown_by quorum d = if either_of 0 1 d then Some (stamped 7 (of_two quorum false)) else if d == 2 then Some (stamped 5 (of_two quorum true)) else None

abbrev pub stated_by : ℕ → Option (Stamped Status)
stated_by d = if either_of 0 1 d then Some (stamped 6 status) else if d == 2 then Some (stamped 4 status) else None

-- three disks of 8 MiB that do so
abbrev pub with_third : Bool → Contents
with_third quorum = record { disks = 3; size = λ d. 16384; descriptor = shown_by quorum; status = stated_by; note = no_note; block = zeros }

-- and with the descriptor of the third erased
abbrev pub without_third : Bool → Contents
without_third quorum = record (with_third quorum) { descriptor = λ d. if either_of 0 1 d then Some (stamped 7 (of_two quorum false)) else None }

-- the history says that nothing is known of its blocks
abbrev pub third_left : List Fact
third_left = Removed (Disk 2) ∷ []

-- It may lose its descriptor, and what is asked of the others besides holds.
pub record ThirdMayBeErased (quorum : Bool) : Type 0 where
  pub within : IsWithinDisks (with_third quorum)
  pub votes : CanWrite (of_two quorum false) (either_of 0 1)
  pub shows : ShowsCommitted (with_third quorum) (of_two quorum false) status (either_of 0 1)
  pub may : MayErase (with_third quorum) (without_third quorum) third_left (of_two quorum false) 2
  pub kept : Kept (with_third quorum) third_left

-- with quorum checking or without
abbrev pub ThirdsMayBeErased : Type 0
ThirdsMayBeErased = (quorum : Bool) → ThirdMayBeErased quorum
