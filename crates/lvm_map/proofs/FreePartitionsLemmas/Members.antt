-- The free partitions of each member, gathered and counted.
use Rattle.std.proofs.Common.{◌≡◌, ℕ, zero, suc, ◌+◌, ◌<◌, ◌≤◌, Bool, true, false, cond, not, List, [], ◌∷◌, ◌++◌, length, map, take, get_or, refl, sym, ap, subst, ◌∙◌, arith}
use Rattle.std.specs.Prelude.{All, filter, sum_by}
use Rattle.std.proofs.lemmas.List.{map-append, length-map}
use Rattle.std.proofs.lemmas.List.Concat.{length-flat_map}
use Rattle.std.proofs.lemmas.List.Elements.{All-head, All-tail, All-map, All-filter, filter_more}
use Rattle.std.proofs.lemmas.List.Folds.{fold-map}
use Rattle.lvm_num.specs.declared.place.Pp.{Pp}
use Rattle.lvm_num.specs.declared.descriptor.PvRow.{PvRow}
use Rattle.lvm_num.specs.declared.descriptor.Descriptor.{Descriptor}
use Rattle.lvm_num.specs.Descriptor.{IsMember, IsValid}
use Rattle.lvm_num.specs.Disks.{Disks}
use Rattle.lvm_num.proofs.Lists.{few_filter}
use Rattle.lvm_map.specs.FirstFit.{is_among, free_of, may_take, partitions_of, choices}
use Rattle.lvm_map.specs.FreePartitions.{free_partitions}
use Rattle.lvm_map.proofs.FirstFitLemmas.FreeLists.{partitions-size}

-- ---- gathered one by one

of_one : {X Y : Type 0} (f : X → Y) (x : X) (b : Bool) → cond b (f x ∷ []) [] ≡ map f (cond b (x ∷ []) [])
of_one f x true = refl
of_one f x false = refl

pub gathered : {X Y : Type 0} (f : X → Y) (p : X → Bool) (rows : List X) (i : ℕ) (e : X) (before after : List Y) → i < length rows → before ≡ map f (filter p (take i rows))
    → after ≡ before ++ cond (p (get_or rows i e)) (f (get_or rows i e) ∷ []) [] → after ≡ map f (filter p (take (i + 1) rows))
gathered {X} {Y} f p rows i e before after lt old step =
    let row = get_or rows i e in
    step
    ∙ ap (λ (ys : List Y). ys ++ cond (p row) (f row ∷ []) []) old
    ∙ ap (λ (ys : List Y). map f (filter p (take i rows)) ++ ys) (of_one f row (p row))
    ∙ sym (map-append f (filter p (take i rows)) (cond (p row) (row ∷ []) []))
    ∙ ap (λ (xs : List X). map f xs) (sym (filter_more p rows i e lt))

-- one of the rows of members
abbrev pub no_row : PvRow
no_row = record { disk = 0; pps = 0; spare = false }

pub member_at : (d : Descriptor) → IsValid d → (rows : List PvRow) → rows ≡ d.pvs → (i : ℕ) → i < length rows → IsMember (get_or rows i no_row)
member_at d valid rows is i lt =
    let size = ap (λ (rs : List PvRow). length rs) is in
    subst (λ (rs : List PvRow). IsMember (get_or rs i no_row)) (sym is) (valid.members.each i no_row (omega arith))

-- ---- counted

pub list_at : {X : Type 0} (f : X → List Pp) (xs : List X) (i : ℕ) (d : X) → i < length xs → All (λ (free : List Pp). length free ≤ 1016) (map f xs) → length (f (get_or xs i d)) ≤ 1016
list_at f [] i d lt all = absurd (omega arith)
list_at f (x ∷ xs) zero d lt all = All-head (λ (free : List Pp). length free ≤ 1016) (f x) (map f xs) all
list_at f (x ∷ xs) (suc i) d lt all = list_at f xs i d (omega arith) (All-tail (λ (free : List Pp). length free ≤ 1016) (f x) (map f xs) all)

pub sum-lists : {X : Type 0} (f : X → List Pp) (xs : List X) → sum_by (λ (free : List Pp). length free) (map f xs) ≡ sum_by (λ x. length (f x)) xs
sum-lists f xs = fold-map (λ total (free : List Pp). total + length free) f 0 xs

free-le : (used : List Pp) (row : PvRow) → row.pps ≤ 1016 → length (free_of used row) ≤ 1016
free-le used row most = omega (arith, few_filter (λ pp. not (is_among used pp)) (partitions_of row), partitions-size row)

module _ (d : Descriptor) (valid : IsValid d) (usable : Disks) (used : List Pp) where
  pub few_members : length (free_partitions d usable used) ≤ 128
  few_members = omega (arith, length-map (filter (may_take usable []) d.pvs) (free_of used), few_filter (may_take usable []) d.pvs, members)
    where
      by_size : (big : Bool) → cond big 128 32 ≤ 128
      by_size true = omega arith
      by_size false = omega arith

      members : length d.pvs ≤ 128
      members = omega (arith, valid.head.members, by_size d.big)

  pub few_each : All (λ (free : List Pp). length free ≤ 1016) (free_partitions d usable used)
  few_each =
      All-map (λ (free : List Pp). length free ≤ 1016) (free_of used) (filter (may_take usable []) d.pvs)
      (All-filter (may_take usable []) (λ (row : PvRow). length (free_of used row) ≤ 1016) d.pvs (λ k e lt. free-le used (get_or d.pvs k e) (valid.members.each k e lt).partitions))

-- what is free of the members is what there is to choose from
pub free_is : (d : Descriptor) (usable : Disks) (used : List Pp) → sum_by (λ (free : List Pp). length free) (free_partitions d usable used) ≡ length (choices d usable used [])
free_is d usable used = sum-lists (free_of used) (filter (may_take usable []) d.pvs) ∙ sym (length-flat_map (free_of used) (filter (may_take usable []) d.pvs))
