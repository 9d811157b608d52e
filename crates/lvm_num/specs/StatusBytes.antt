-- The bytes of a status.
use Rattle.std.specs.Prelude.{◌≡◌, ℕ, zero, suc, ◌+◌, ◌%◌, Bool, true, ◌&&◌, ◌||◌, not, nat_le, nat_lt, ◌==◌, if◌then◌else◌, List, [], ◌∷◌, ◌++◌, length, slice_index, Result, Ok, flat_map, bytes_eq}
use Rattle.std.specs.List.{list_all}
use Rattle.std.specs.Int.{w8, w16, w64, to_be_bytes}
use Rattle.lvm_num.specs.declared.status.StatusRow.{StatusRow}
use Rattle.lvm_num.specs.declared.status.Status.{Status}
use Rattle.lvm_num.specs.Descriptor.{most_members}
use Rattle.lvm_num.specs.Status.{IsValidStatus}
use Rattle.lvm_num.specs.DescriptorBytes.{flag, is_flag}
use Rattle.lvm_num.specs.Reading.{◌>>=◌, Rest, bytes_at, number_at, zeros_at, end_at}

-- ---- the spelling

-- version 3 where a volume is dirty, else version 2 where the group is big, else version 1
abbrev pub version_of : Bool → List ℕ → ℕ
version_of big [] = if big then 2 else 1
version_of big (n ∷ numbers) = 3

abbrev pub status_version : Status → ℕ
status_version s = version_of s.big s.dirty

abbrev pub status_magic : ℕ → List ℕ
status_magic version = 0x56 ∷ 0x47 ∷ 0x53 ∷ (48 + version) ∷ []

abbrev pub status_row_bytes : StatusRow → List ℕ
status_row_bytes row = to_be_bytes w16 row.disk ++ flag row.missing ∷ 0 ∷ row.stale ++ 0 ∷ []

-- the dirty volumes, where there are any
abbrev pub dirty_bytes : List ℕ → List ℕ
dirty_bytes [] = []
dirty_bytes (n ∷ numbers) = to_be_bytes w16 (length (n ∷ numbers)) ++ flat_map (to_be_bytes w16) (n ∷ numbers)

-- only version 3 says by a number whether the group is big
abbrev pub big_number : Status → ℕ
big_number s = if status_version s == 3 then flag s.big else 0

abbrev pub status_bytes : Status → List ℕ
status_bytes s =
    status_magic (status_version s) ++ to_be_bytes w64 s.id ++ to_be_bytes w16 (length s.rows) ++ to_be_bytes w16 (big_number s)
    ++ flat_map status_row_bytes s.rows ++ dirty_bytes s.dirty

-- the bytes are those of this valid status
pub record IsStatus (bytes : List ℕ) (s : Status) : Type 0 where
  pub valid : IsValidStatus s
  pub spelled : status_bytes s ≡ bytes

-- ---- reading it, with the place of the first fault

unfoldable pub status_version_at : Rest → Result (ℕ × Rest) ℕ
status_version_at rest = do
  field ← bytes_at 4 (λ bytes. bytes_eq bytes (status_magic 1) || bytes_eq bytes (status_magic 2) || bytes_eq bytes (status_magic 3)) rest
  Ok (slice_index field.0 3 % 48, field.1)

-- Whether the status is big: by its version, or in version 3 by the number that follows the number of rows.
-- More than 32 rows that aren't big are a fault of their number.
unfoldable pub rows_and_size_at : ℕ → Rest → Result ((ℕ × Bool) × Rest) ℕ
rows_and_size_at version rest = do
  count ← number_at w16 (λ n. nat_le 1 n && nat_le n (most_members (nat_le 2 version))) rest
  size ← number_at w16 (λ n. if version == 3 then nat_le n 1 && (n == 1 || nat_le count.0 32) else n == 0) count.1
  Ok ((count.0, version == 2 || size.0 == 1), size.1)

unfoldable pub status_row_at : List StatusRow → Rest → Result (StatusRow × Rest) ℕ
status_row_at earlier rest = do
  disk ← number_at w16 (λ n. nat_lt n 128 && list_all (λ row. nat_lt row.disk n) earlier) rest
  missing ← number_at w8 is_flag disk.1
  gap ← zeros_at 1 missing.1
  stale ← bytes_at 127 (λ bytes. true) gap
  after ← zeros_at 1 stale.1
  Ok (record { disk = disk.0; missing = missing.0 == 1; stale = stale.0 }, after)

unfoldable pub status_rows_at : ℕ → List StatusRow → Rest → Result (List StatusRow × Rest) ℕ
status_rows_at zero earlier rest = Ok (earlier, rest)
status_rows_at (suc n) earlier rest = do
  row ← status_row_at earlier rest
  status_rows_at n (earlier ++ row.0 ∷ []) row.1

unfoldable pub numbers_at : ℕ → List ℕ → Rest → Result (List ℕ × Rest) ℕ
numbers_at zero earlier rest = Ok (earlier, rest)
numbers_at (suc n) earlier rest = do
  number ← number_at w16 (λ n. nat_le 1 n && nat_le n 511 && list_all (λ m. nat_lt m n) earlier) rest
  numbers_at n (earlier ++ number.0 ∷ []) number.1

unfoldable pub dirty_at : ℕ → Rest → Result (List ℕ × Rest) ℕ
dirty_at version rest = if version == 3 then dirty_list rest else Ok ([], rest)
  where
    dirty_list : Rest → Result (List ℕ × Rest) ℕ
    dirty_list from = do
      count ← number_at w16 (λ n. nat_le 1 n && nat_le n 511) from
      numbers_at count.0 [] count.1

-- the status that the bytes spell, or the place of the first fault
unfoldable pub status_of : List ℕ → Result Status ℕ
status_of bytes = do
  version ← status_version_at (0, bytes)
  id ← number_at w64 (λ n. not (n == 0)) version.1
  head ← rows_and_size_at version.0 id.1
  rows ← status_rows_at head.0.0 [] head.1
  dirty ← dirty_at version.0 rows.1
  end_at (record { id = id.0; big = head.0.1; dirty = dirty.0; rows = rows.0 }) dirty.1
