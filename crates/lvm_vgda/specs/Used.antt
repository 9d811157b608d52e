-- A set of partitions against a list of them.
use Rattle.std.specs.Prelude.{◌≡◌, ℕ, ◌+◌, ◌*◌, ◌<◌, Bool, ◌&&◌, not, nat_lt, ◌==◌, List, Result, Ok}
use Rattle.std.specs.List.{list_any}
use Rattle.std.specs.Int.{w16}
use Rattle.lvm_num.specs.declared.place.Pp.{Pp}
use Rattle.lvm_num.specs.declared.descriptor.PvRow.{PvRow}
use Rattle.lvm_num.specs.Bits.{has_bit}
use Rattle.lvm_num.specs.DescriptorBytes.{is_at}
use Rattle.lvm_num.specs.Reading.{◌>>=◌, Rest, number_at}
use Rattle.lvm_vgda.specs.declared.used.UsedPps.{UsedPps}

-- whether a partition of a disk is in the set
abbrev pub has : UsedPps → ℕ → ℕ → Bool
has used disk pp = has_bit used.marks (1016 * disk + pp)

-- the set has the partitions of the list, and no others
abbrev pub Uses : UsedPps → List Pp → Type 0
Uses used pps = (disk pp : ℕ) → pp < 1016 → has used disk pp ≡ list_any (λ p. is_at p disk pp) pps

-- a member's partition that isn't one of those used
abbrev pub is_free : List PvRow → List Pp → ℕ → ℕ → Bool
is_free members used disk pp = list_any (λ row. row.disk == disk && nat_lt pp row.pps) members && not (list_any (λ p. is_at p disk pp) used)

-- the number of such a partition of a disk
abbrev pub free_at : List PvRow → List Pp → ℕ → Rest → Result (Pp × Rest) ℕ
free_at members used disk rest = do
  pp ← number_at w16 (λ n. is_free members used disk n) rest
  Ok (record { disk = disk; pp = pp.0 }, pp.1)
