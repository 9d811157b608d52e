-- The free partitions of members, as first fit takes them.
use Rattle.std.specs.Bool.{MatchBool}
use Rattle.std.specs.Prelude.{◌≡◌, ℕ, ◌%◌, nat_lt, not, Bool, false, List, [], ◌∷◌, length, map, filter, position, Option, Some, None, MatchOption, slice_get, slice_set}
use Rattle.lvm_num.specs.declared.place.Pp.{Pp}
use Rattle.lvm_num.specs.declared.descriptor.Descriptor.{Descriptor}
use Rattle.lvm_num.specs.Disks.{Disks}
pub use Rattle.lvm_num.specs.Marks.{IsBounded}
use Rattle.lvm_map.specs.FirstFit.{has_partition_on, free_of, may_take, Asked, kept_next, others_in}

-- the free partitions of each member that may take copies, with these used
abbrev pub free_partitions : Descriptor → Disks → List Pp → List (List Pp)
free_partitions d usable used = map (free_of used) (filter (may_take usable []) d.pvs)

-- whether a member with these free partitions may take a copy beside these others
abbrev pub is_open : List Pp → List Pp → Bool
is_open others [] = false
is_open others (pp ∷ rest) = not (has_partition_on others pp.disk)

-- one member's first free partition is taken
pub record PartitionIsTaken (others : List Pp) (old new : List (List Pp)) (pp : Pp) : Type 0 where
  pub member : ℕ
  pub rest : List Pp
  pub first : position (is_open others) old ≡ Some member
  pub had : slice_get old member ≡ Some (pp ∷ rest)
  pub has : new ≡ slice_set old member rest

-- the first partition of the first open member is taken, or none is open
abbrev pub TakesFirstFree : List Pp → List (List Pp) → List (List Pp) → Option Pp → Type 0
TakesFirstFree others old new taken = MatchOption taken ((position (is_open others) old ≡ None) × (new ≡ old)) (PartitionIsTaken others old new)

-- what comes behind the front of a map is a copy that is kept, or is taken
abbrev pub TakesNext : Asked → List Pp → List (List Pp) → List (List Pp) → Option Pp → Type 0
TakesNext asked front old new next =
    MatchBool (nat_lt (length front % asked.copies) asked.kept) ((next ≡ kept_next asked front) × (new ≡ old)) (TakesFirstFree (others_in asked front) old new next)
