-- A descriptor and its rows, read part by part.
use Rattle.std.specs.Prelude.{ℕ, Bool, true, not, nat_le, ◌==◌, List, [], ◌&&◌, nat_lt, bytes_eq, Result, Ok}
use Rattle.std.specs.List.{list_any, list_all}
use Rattle.std.specs.Int.{w8, w16, w32, w64}
use Rattle.lvm_num.specs.declared.descriptor.PvRow.{PvRow}
use Rattle.lvm_num.specs.declared.descriptor.LvRow.{LvRow}
use Rattle.lvm_num.specs.declared.descriptor.Mode.{Mode}
use Rattle.lvm_num.specs.declared.descriptor.Policy.{Policy}
use Rattle.lvm_num.specs.declared.descriptor.Descriptor.{Descriptor}
use Rattle.lvm_num.specs.Descriptor.{is_size, most_volumes}
use Rattle.lvm_num.specs.DescriptorBytes.{is_flag, mode_named, policy_named, name_at, version_at, member_count_at, members_at, volumes_at, maps_at}
use Rattle.lvm_num.specs.Reading.{◌>>=◌, Rest, number_at, zeros_at, end_at}

-- whether the group is big, and its id
unfoldable pub begin_at : Rest → Result ((Bool × ℕ) × Rest) ℕ
begin_at rest = do
  big ← version_at rest
  id ← number_at w64 (λ n. not (n == 0)) big.1
  Ok ((big.0, id.0), id.1)

-- the size of a partition, and the flags of quorum and of even votes
unfoldable pub rules_at : Rest → Result ((ℕ × Bool × Bool) × Rest) ℕ
rules_at rest = do
  mib ← number_at w16 is_size rest
  quorum ← number_at w8 is_flag mib.1
  even ← number_at w8 is_flag quorum.1
  Ok ((mib.0, quorum.0 == 1, even.0 == 1), even.1)

-- the numbers of members and of volumes
unfoldable pub counts_at : Bool → Bool → Rest → Result ((ℕ × ℕ) × Rest) ℕ
counts_at big even rest = do
  members ← member_count_at big even rest
  volumes ← number_at w16 (λ n. nat_le n (most_volumes big)) members.1
  after ← zeros_at 12 volumes.1
  Ok ((members.0, volumes.0), after)

-- so many members, and so many volumes with their partitions
unfoldable pub rows_at : Bool → ℕ → ℕ → Rest → Result ((List PvRow × List LvRow) × Rest) ℕ
rows_at big members volumes rest = do
  pvs ← members_at members [] rest
  bare ← volumes_at big volumes [] pvs.1
  lvs ← maps_at pvs.0 [] bare.0 bare.1
  Ok ((pvs.0, lvs.0), lvs.1)

-- the descriptor that the bytes spell, by its parts
unfoldable pub descriptor_by_parts : List ℕ → Result Descriptor ℕ
descriptor_by_parts bytes = do
  begin ← begin_at (0, bytes)
  name ← name_at (λ text. true) begin.1
  rules ← rules_at name.1
  counts ← counts_at begin.0.0 rules.0.2 rules.1
  rows ← rows_at begin.0.0 counts.0.0 counts.0.1 counts.1
  end_at (record { id = begin.0.1; name = name.0; mib = rules.0.0; quorum = rules.0.1; even = rules.0.2; big = begin.0.0; pvs = rows.0.0; lvs = rows.0.1 }) rows.1

-- a volume's number, above those of these volumes, and how many copies it has
unfoldable pub number_and_copies_at : Bool → List LvRow → Rest → Result ((ℕ × ℕ) × Rest) ℕ
number_and_copies_at big earlier rest = do
  number ← number_at w16 (λ n. nat_le 1 n && nat_le n (most_volumes big) && list_all (λ row. nat_lt row.number n) earlier) rest
  copies ← number_at w8 (λ n. nat_le 1 n && nat_le n 3) number.1
  Ok ((number.0, copies.0), copies.1)

-- a volume's mode and its policy
unfoldable pub mode_and_policy_at : Rest → Result ((Mode × Policy) × Rest) ℕ
mode_and_policy_at rest = do
  mode ← number_at w8 (λ n. nat_le n 2) rest
  policy ← number_at w8 (λ n. nat_le n 3) mode.1
  after ← zeros_at 3 policy.1
  Ok ((mode_named mode.0, policy_named policy.0), after)

-- a volume's row, behind these, by its parts
unfoldable pub volume_by_parts : Bool → List LvRow → Rest → Result (LvRow × Rest) ℕ
volume_by_parts big earlier rest = do
  begin ← number_and_copies_at big earlier rest
  ways ← mode_and_policy_at begin.1
  lps ← number_at w32 (λ n. nat_le 1 n) ways.1
  name ← name_at (λ bytes. not (list_any (λ row. bytes_eq row.name bytes) earlier)) lps.1
  after ← zeros_at 4 name.1
  Ok (record { number = begin.0.0; name = name.0; copies = begin.0.1; mode = ways.0.0; policy = ways.0.1; lps = lps.0; map = [] }, after)
