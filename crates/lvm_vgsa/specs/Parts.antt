-- A status and its rows, read part by part.
use Rattle.std.specs.Prelude.{ℕ, Bool, true, not, nat_lt, ◌==◌, ◌&&◌, List, [], Result, Ok}
use Rattle.std.specs.List.{list_all}
use Rattle.std.specs.Int.{w8, w16, w64}
use Rattle.lvm_num.specs.declared.status.StatusRow.{StatusRow}
use Rattle.lvm_num.specs.declared.status.Status.{Status}
use Rattle.lvm_num.specs.DescriptorBytes.{is_flag}
use Rattle.lvm_num.specs.Reading.{◌>>=◌, Rest, bytes_at, number_at, zeros_at, end_at}
use Rattle.lvm_num.specs.StatusBytes.{status_version_at, rows_and_size_at, status_rows_at, dirty_at}

-- the version, the group's id, the number of rows, and whether the group is big
unfoldable pub head_at : Rest → Result ((ℕ × ℕ × ℕ × Bool) × Rest) ℕ
head_at rest = do
  version ← status_version_at rest
  id ← number_at w64 (λ n. not (n == 0)) version.1
  size ← rows_and_size_at version.0 id.1
  Ok ((version.0, id.0, size.0.0, size.0.1), size.1)

-- the status that the bytes spell, by its parts
unfoldable pub status_by_parts : List ℕ → Result Status ℕ
status_by_parts bytes = do
  head ← head_at (0, bytes)
  rows ← status_rows_at head.0.2 [] head.1
  dirty ← dirty_at head.0.0 rows.1
  end_at (record { id = head.0.1; big = head.0.3; dirty = dirty.0; rows = rows.0 }) dirty.1

-- a member's disk, after those of these rows, and whether it is missing
unfoldable pub disk_and_missing_at : List StatusRow → Rest → Result ((ℕ × Bool) × Rest) ℕ
disk_and_missing_at earlier rest = do
  disk ← number_at w16 (λ n. nat_lt n 128 && list_all (λ row. nat_lt row.disk n) earlier) rest
  missing ← number_at w8 is_flag disk.1
  gap ← zeros_at 1 missing.1
  Ok ((disk.0, missing.0 == 1), gap)

-- a member's row, after these, by its parts
unfoldable pub row_by_parts : List StatusRow → Rest → Result (StatusRow × Rest) ℕ
row_by_parts earlier rest = do
  begin ← disk_and_missing_at earlier rest
  stale ← bytes_at 127 (λ bytes. true) begin.1
  after ← zeros_at 1 stale.1
  Ok (record { disk = begin.0.0; missing = begin.0.1; stale = stale.0 }, after)
