-- Tables with a row for each member, and what is true of an updater's tables and sets.
use Rattle.std.specs.Prelude.{◌≡◌, ℕ, Bool, true, length, map}
use Rattle.std.specs.List.{list_all}
use Rattle.lvm_status.specs.passed.Num.{PvRow, Descriptor, StatusRow, Status, is_member, IsValid, has}
use Rattle.lvm_status.specs.Table.{has_row}
use Rattle.lvm_status.specs.declared.writes.Writes.{Writes}

-- the status has a row for exactly the members
abbrev pub HasItsRows : Descriptor → Status → Type 0
HasItsRows d s = (disk : ℕ) → has_row s disk ≡ is_member d disk

-- the status is of the same group, with rows for the same disks
pub record HasSameRows (old new : Status) : Type 0 where
  pub id : new.id ≡ old.id
  pub big : new.big ≡ old.big
  pub disks : map (λ (row : StatusRow). row.disk) new.rows ≡ map (λ (row : StatusRow). row.disk) old.rows

-- each member has a row, and each row is that of a member
abbrev pub all_rows : Descriptor → Status → Bool
all_rows d s = list_all (λ (member : PvRow). has_row s member.disk) d.pvs

abbrev pub all_members : Descriptor → Status → Bool
all_members d s = list_all (λ (row : StatusRow). is_member d row.disk) s.rows

-- A valid group whose members have rows in the wanted status, as many as in the others; only members are written; and where it is known what is wanted is committed.
pub record IsFit (d : Descriptor) (committed wanted flying : Status) (writes : Writes) (known : Bool) : Type 0 where
  pub valid : IsValid d
  pub rows : HasItsRows d wanted
  pub as_many : length committed.rows ≡ length wanted.rows
  pub as_many_flying : length flying.rows ≡ length wanted.rows
  pub unstarted_members : (disk : ℕ) → has writes.unstarted disk ≡ true → is_member d disk ≡ true
  pub started_members : (disk : ℕ) → has writes.started disk ≡ true → is_member d disk ≡ true
  pub same : known ≡ true → wanted ≡ committed
