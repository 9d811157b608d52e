-- The status with which a group comes on.
use Rattle.std.specs.Prelude.{◌≡◌, ◌⊎◌, ◌↔◌, ℕ, ◌<◌, ◌&&◌, ◌==◌, Bool, not, Some, IsTrue, IsFalse}
use Rattle.std.specs.List.{list_any}
use Rattle.lvm_num.specs.declared.place.Pp.{Pp}
use Rattle.lvm_num.specs.declared.descriptor.LvRow.{LvRow}
use Rattle.lvm_num.specs.declared.descriptor.Descriptor.{Descriptor}
use Rattle.lvm_num.specs.declared.status.Status.{Status}
use Rattle.lvm_num.specs.Disks.{Disks}
use Rattle.lvm_num.specs.Descriptor.{is_member, copies_of}
pub use Rattle.lvm_num.specs.Modes.{is_passive}
use Rattle.lvm_num.specs.Record.{Stamped}
use Rattle.lvm_num.specs.Status.{IsValidStatus, calls_stale, calls_missing, calls_dirty}
use Rattle.lvm_kept.specs.Group.{fresh_on, IsOneOf, IsSome}
use Rattle.lvm_status.specs.Table.{has_row}

-- the group has a volume of this number in mode passive
abbrev pub has_passive : Descriptor → ℕ → Bool
has_passive group number = list_any (λ (row : LvRow). row.number == number && is_passive row.mode) group.lvs

-- A copy on a member that doesn't answer, whose logical partition has a fresh copy on one that does.
pub record IsLeftBehind (group : Descriptor) (answering : Disks) (was : Stamped Status) (p : Pp) : Type 0 where
  pub row : LvRow
  pub lp : ℕ
  pub volume : IsOneOf group.lvs row
  pub inside : lp < row.lps
  pub one : IsOneOf (copies_of row lp) p
  pub absent : IsFalse (answering p.disk)
  pub other : IsSome (fresh_on answering (Some was) row lp)

-- The next status of a group after the one that was found, where these members answer: a row for exactly the members, missing exactly
-- those that don't answer, stale exactly the members' partitions that were and those that are left behind, dirty exactly the passive volumes that were.
pub record IsNextStatus (group : Descriptor) (answering : Disks) (was : Stamped Status) (next : Status) : Type 0 where
  pub valid : IsValidStatus next
  pub id : next.id ≡ group.id
  pub rows : (d : ℕ) → has_row next d ≡ is_member group d
  pub big : next.big ≡ group.big
  pub missing : (d : ℕ) → calls_missing next d ≡ (is_member group d && not (answering d))
  pub stale : (p : Pp) → IsTrue (is_member group p.disk) → IsTrue (calls_stale next p) ↔ (IsTrue (calls_stale was.value p) ⊎ IsLeftBehind group answering was p)
  pub strangers : (p : Pp) → IsFalse (is_member group p.disk) → IsFalse (calls_stale next p)
  pub dirty : (number : ℕ) → calls_dirty next number ≡ (calls_dirty was.value number && has_passive group number)
