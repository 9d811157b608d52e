-- The bytes of a descriptor.
use Rattle.std.specs.Prelude.{◌≡◌, ℕ, zero, suc, ◌-◌, ◌*◌, ◌/◌, Bool, true, false, ◌&&◌, ◌||◌, not, nat_le, nat_lt, ◌==◌, if◌then◌else◌, List, [], ◌∷◌, ◌++◌, length, drop, replicate, Result, Ok, Err, flat_map, bytes_eq}
use Rattle.std.specs.List.{list_all, list_any}
use Rattle.std.specs.Int.{w8, w16, w32, w64, to_be_bytes}
use Rattle.lvm_num.specs.declared.place.Pp.{Pp}
use Rattle.lvm_num.specs.declared.descriptor.PvRow.{PvRow}
use Rattle.lvm_num.specs.declared.descriptor.LvRow.{LvRow}
use Rattle.lvm_num.specs.declared.descriptor.Mode.{Mode}
use Rattle.lvm_num.specs.declared.descriptor.Mode.TheVariants.{Active, Passive, Off}
use Rattle.lvm_num.specs.declared.descriptor.Policy.{Policy}
use Rattle.lvm_num.specs.declared.descriptor.Policy.TheVariants.{Parallel, Sequential, ParallelWrite, RoundRobin}
use Rattle.lvm_num.specs.declared.descriptor.Descriptor.{Descriptor}
use Rattle.lvm_num.specs.Name.{is_name, padded, unpadded}
use Rattle.lvm_num.specs.Descriptor.{is_size, most_members, most_volumes, IsValid}
use Rattle.lvm_num.specs.Reading.{◌>>=◌, Rest, bytes_at, number_at, zeros_at, end_at}

-- ---- the spelling

abbrev pub flag : Bool → ℕ
flag b = if b then 1 else 0

abbrev pub mode_code : Mode → ℕ
mode_code Off = 0
mode_code Active = 1
mode_code Passive = 2

abbrev pub policy_code : Policy → ℕ
policy_code Parallel = 0
policy_code Sequential = 1
policy_code ParallelWrite = 2
policy_code RoundRobin = 3

-- the first four bytes, by the version
abbrev pub descriptor_magic : Bool → List ℕ
descriptor_magic big = 0x56 ∷ 0x47 ∷ 0x44 ∷ (if big then 0x32 else 0x31) ∷ []

abbrev pub member_bytes : PvRow → List ℕ
member_bytes row = to_be_bytes w16 row.disk ++ to_be_bytes w16 row.pps ++ flag row.spare ∷ replicate 3 0

abbrev pub volume_bytes : LvRow → List ℕ
volume_bytes row =
    to_be_bytes w16 row.number ++ row.copies ∷ mode_code row.mode ∷ policy_code row.policy ∷ replicate 3 0
    ++ to_be_bytes w32 row.lps ++ padded row.name ++ replicate 4 0

abbrev pub partition_bytes : Pp → List ℕ
partition_bytes pp = to_be_bytes w16 pp.disk ++ to_be_bytes w16 pp.pp

-- the head, a row for each member, a row for each volume, and then the partitions of each volume
abbrev pub descriptor_bytes : Descriptor → List ℕ
descriptor_bytes d =
    descriptor_magic d.big ++ to_be_bytes w64 d.id ++ padded d.name ++ to_be_bytes w16 d.mib ++ flag d.quorum ∷ flag d.even ∷ []
    ++ to_be_bytes w16 (length d.pvs) ++ to_be_bytes w16 (length d.lvs) ++ replicate 12 0
    ++ flat_map member_bytes d.pvs ++ flat_map volume_bytes d.lvs ++ flat_map (λ row. flat_map partition_bytes row.map) d.lvs

-- the bytes are those of this valid descriptor
pub record IsDescriptor (bytes : List ℕ) (d : Descriptor) : Type 0 where
  pub valid : IsValid d
  pub spelled : descriptor_bytes d ≡ bytes

-- ---- reading it, with the place of the first fault

abbrev pub is_flag : ℕ → Bool
is_flag n = nat_le n 1

abbrev pub mode_named : ℕ → Mode
mode_named zero = Off
mode_named (suc zero) = Active
mode_named (suc (suc n)) = Passive

abbrev pub policy_named : ℕ → Policy
policy_named zero = Parallel
policy_named (suc zero) = Sequential
policy_named (suc (suc zero)) = ParallelWrite
policy_named (suc (suc (suc n))) = RoundRobin

-- sixteen bytes that are a name and zeros
abbrev pub is_name_field : List ℕ → Bool
is_name_field bytes = is_name (unpadded bytes) && bytes_eq (padded (unpadded bytes)) bytes

abbrev pub name_at : (List ℕ → Bool) → Rest → Result (List ℕ × Rest) ℕ
name_at test rest = do
  field ← bytes_at 16 (λ bytes. is_name_field bytes && test (unpadded bytes)) rest
  Ok (unpadded field.0, field.1)

-- the first four bytes say whether the group is big
unfoldable pub version_at : Rest → Result (Bool × Rest) ℕ
version_at rest = do
  field ← bytes_at 4 (λ bytes. bytes_eq bytes (descriptor_magic false) || bytes_eq bytes (descriptor_magic true)) rest
  Ok (bytes_eq field.0 (descriptor_magic true), field.1)

-- a member's row, behind these
unfoldable pub member_at : List PvRow → Rest → Result (PvRow × Rest) ℕ
member_at earlier rest = do
  disk ← number_at w16 (λ n. nat_lt n 128 && not (list_any (λ row. row.disk == n) earlier)) rest
  pps ← number_at w16 (λ n. nat_le 1 n && nat_le n 1016) disk.1
  spare ← number_at w8 is_flag pps.1
  after ← zeros_at 3 spare.1
  Ok (record { disk = disk.0; pps = pps.0; spare = spare.0 == 1 }, after)

unfoldable pub members_at : ℕ → List PvRow → Rest → Result (List PvRow × Rest) ℕ
members_at zero earlier rest = Ok (earlier, rest)
members_at (suc n) earlier rest = do
  row ← member_at earlier rest
  members_at n (earlier ++ row.0 ∷ []) row.1

-- a volume's row, behind these, with no partitions yet
unfoldable pub volume_at : Bool → List LvRow → Rest → Result (LvRow × Rest) ℕ
volume_at big earlier rest = do
  number ← number_at w16 (λ n. nat_le 1 n && nat_le n (most_volumes big) && list_all (λ row. nat_lt row.number n) earlier) rest
  copies ← number_at w8 (λ n. nat_le 1 n && nat_le n 3) number.1
  mode ← number_at w8 (λ n. nat_le n 2) copies.1
  policy ← number_at w8 (λ n. nat_le n 3) mode.1
  gap ← zeros_at 3 policy.1
  lps ← number_at w32 (λ n. nat_le 1 n) gap
  name ← name_at (λ bytes. not (list_any (λ row. bytes_eq row.name bytes) earlier)) lps.1
  after ← zeros_at 4 name.1
  Ok (record { number = number.0; name = name.0; copies = copies.0; mode = mode_named mode.0; policy = policy_named policy.0; lps = lps.0; map = [] }, after)

unfoldable pub volumes_at : Bool → ℕ → List LvRow → Rest → Result (List LvRow × Rest) ℕ
volumes_at big zero earlier rest = Ok (earlier, rest)
volumes_at big (suc n) earlier rest = do
  row ← volume_at big earlier rest
  volumes_at big n (earlier ++ row.0 ∷ []) row.1

-- the copies of the last logical partition that isn't whole yet
abbrev pub unfinished : ℕ → List Pp → List Pp
unfinished copies own = drop (length own / copies * copies) own

abbrev pub is_at : Pp → ℕ → ℕ → Bool
is_at p disk pp = p.disk == disk && p.pp == pp

-- The next partition of a volume: its member has it, no volume has it yet, and no copy of the same logical partition is on the disk.
unfoldable pub partition_at : List PvRow → List Pp → ℕ → List Pp → Rest → Result (Pp × Rest) ℕ
partition_at members used copies own rest = do
  disk ← number_at w16 (λ n. list_any (λ row. row.disk == n) members && not (list_any (λ p. p.disk == n) (unfinished copies own))) rest
  pp ← number_at w16 (λ n. list_any (λ row. row.disk == disk.0 && nat_lt n row.pps) members && not (list_any (λ p. is_at p disk.0 n) (used ++ own))) disk.1
  Ok (record { disk = disk.0; pp = pp.0 }, pp.1)

unfoldable pub partitions_at : List PvRow → List Pp → ℕ → ℕ → List Pp → Rest → Result (List Pp × Rest) ℕ
partitions_at members used copies zero own rest = Ok (own, rest)
partitions_at members used copies (suc n) own rest = do
  pp ← partition_at members used copies own rest
  partitions_at members used copies n (own ++ pp.0 ∷ []) pp.1

-- the partitions of each volume in turn
unfoldable pub maps_at : List PvRow → List Pp → List LvRow → Rest → Result (List LvRow × Rest) ℕ
maps_at members used [] rest = Ok ([], rest)
maps_at members used (row ∷ rows) rest = do
  own ← partitions_at members used row.copies (row.lps * row.copies) [] rest
  others ← maps_at members (used ++ own.0) rows own.1
  Ok (record row { map = own.0 } ∷ others.0, others.1)

-- the number of members, which a descriptor whose votes are even has two of; else the flag before it is the fault
unfoldable pub member_count_at : Bool → Bool → Rest → Result (ℕ × Rest) ℕ
member_count_at big even rest = do
  count ← number_at w16 (λ n. true) rest
  if even && not (count.0 == 2) then Err (rest.0 - 1) else number_at w16 (λ n. nat_le 1 n && nat_le n (most_members big)) rest

-- the descriptor that the bytes spell, or the place of the first fault
unfoldable pub descriptor_of : List ℕ → Result Descriptor ℕ
descriptor_of bytes = do
  big ← version_at (0, bytes)
  id ← number_at w64 (λ n. not (n == 0)) big.1
  name ← name_at (λ text. true) id.1
  mib ← number_at w16 is_size name.1
  quorum ← number_at w8 is_flag mib.1
  even ← number_at w8 is_flag quorum.1
  pvs ← member_count_at big.0 (even.0 == 1) even.1
  lvs ← number_at w16 (λ n. nat_le n (most_volumes big.0)) pvs.1
  gap ← zeros_at 12 lvs.1
  members ← members_at pvs.0 [] gap
  volumes ← volumes_at big.0 lvs.0 [] members.1
  maps ← maps_at members.0 [] volumes.0 volumes.1
  end_at (record { id = id.0; name = name.0; mib = mib.0; quorum = quorum.0 == 1; even = even.0 == 1; big = big.0; pvs = members.0; lvs = maps.0 }) maps.1
