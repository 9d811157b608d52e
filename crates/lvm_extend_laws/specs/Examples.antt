-- A small group, worked by hand, that a disk joins.
use Rattle.std.specs.Prelude.{Bool, false, ◌==◌, if◌then◌else◌, List, [], ◌∷◌, Some, None}
use Rattle.lvm_num.specs.declared.descriptor.Descriptor.{Descriptor}
use Rattle.lvm_num.specs.declared.status.Status.{Status}
use Rattle.lvm_num.specs.Record.{Stamped}
use Rattle.lvm_vol.specs.declared.entry.Vol.TheVariants.{Disk}
use Rattle.lvm_vol.specs.Facts.{Fact, Removed}
use Rattle.lvm_kept.specs.Contents.{Contents}
use Rattle.lvm_kept.specs.Committed.{IsWithinDisks}
use Rattle.lvm_kept.specs.Examples.{disks_with, either_of, no_note, only, row_of, stamped, status_of_rows, zeros}
use Rattle.lvm_kept.specs.Kept.{Kept}
use Rattle.lvm_change_votes.specs.Examples.{member, of_one, of_two}
use Rattle.lvm_extend_laws.specs.Joining.{LetsJoin, IsJoining, HasJoined}

-- the status of one member, and that of two
abbrev pub status : Status
status = status_of_rows (row_of 0 false ∷ [])

abbrev pub next_status : Stamped Status
next_status = stamped 3 (status_of_rows (row_of 0 false ∷ row_of 1 false ∷ []))

-- a second member joins
abbrev pub next_group : Bool → Stamped Descriptor
next_group quorum = stamped 4 (of_two quorum false)

-- Of two disks of 8 MiB the first shows the group of one, and the second nothing;
abbrev pub before : Bool → Contents
before quorum = disks_with 2 (only 0) (of_one quorum 0) status no_note zeros

-- then the second shows the group of two;
abbrev pub halfway : Bool → Contents
halfway quorum = record (before quorum) {
  descriptor = λ d. if d == 1 then Some (next_group quorum) else if d == 0 then Some (stamped 2 (of_one quorum 0)) else None;
  status = λ d. if d == 1 then Some next_status else if d == 0 then Some (stamped 1 status) else None;
}

-- and then both do.
abbrev pub behind : Bool → Contents
behind quorum = record (before quorum) { descriptor = λ d. if either_of 0 1 d then Some (next_group quorum) else None; status = λ d. if either_of 0 1 d then Some next_status else None }

-- the history says that nothing is known of the second disk's blocks
abbrev pub second_given_up : List Fact
second_given_up = Removed (Disk 1) ∷ []

-- It may join, and what is asked of the others besides holds.
pub record SecondJoins (quorum : Bool) : Type 0 where
  pub within : IsWithinDisks (before quorum)
  pub within_then : IsWithinDisks (behind quorum)
  pub lets : LetsJoin (before quorum) (of_one quorum 0) (of_two quorum false) (member 1) status (only 0) next_status (next_group quorum)
  pub on_the_way : IsJoining (before quorum) (halfway quorum) 1 (only 0) next_status (next_group quorum)
  pub over : IsJoining (before quorum) (behind quorum) 1 (only 0) next_status (next_group quorum)
  pub done : HasJoined (behind quorum) (of_one quorum 0) (of_two quorum false) 1 (only 0) (either_of 0 1) next_status (next_group quorum)
  pub kept : Kept (before quorum) second_given_up

-- with quorum checking or without
abbrev pub SecondsJoin : Type 0
SecondsJoin = (quorum : Bool) → SecondJoins quorum
