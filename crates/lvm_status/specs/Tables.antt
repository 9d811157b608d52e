-- The tables that a session's status needs once its group has other members.
use Rattle.std.specs.Prelude.{◌≡◌, [], length}
use Rattle.lvm_status.specs.passed.Num.{Descriptor, Status, IsValid}
use Rattle.lvm_status.specs.Rerowed.{HasRowsOf}

-- The group as it will be, of which the members and their votes matter, and a status in its rows.
pub record NextTables : Type 0 where
  pub group : Descriptor
  pub told : Status

-- A valid group without volumes, a status in its rows, and two tables with as many rows.
pub record AreReady (group : Descriptor) (told committed flying : Status) : Type 0 where
  pub valid : IsValid group
  pub no_volumes : group.lvs ≡ []
  pub rows : HasRowsOf group told
  pub as_many : length committed.rows ≡ length told.rows
  pub as_many_flying : length flying.rows ≡ length told.rows
