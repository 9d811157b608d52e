-- The first choice of a place, by the free partitions of each member.
use Rattle.std.proofs.Common.{◌≡◌, ◌≢◌, inl, inr, ℕ, zero, suc, ◌+◌, ◌<◌, Bool, true, false, cond, ◌&&◌, not, List, [], ◌∷◌, ◌++◌, length, map, drop, get_or, set, Option, Some, None, refl, sym, ap, ◌∙◌, arith}
use Rattle.std.specs.Prelude.{AllPairs, nat_lt, filter, flat_map, position, option_and_then, option_to_list, slice_get, find}
use Rattle.std.specs.List.{position_or_len}
use Rattle.std.proofs.lemmas.Option.{slice_get_past}
use Rattle.std.proofs.lemmas.Bool.{cases_lt, lt-ltb}
use Rattle.std.proofs.lemmas.List.{length-map, map-set}
use Rattle.std.proofs.lemmas.List.Folds.{find_at}
use Rattle.std.proofs.lemmas.List.Quantifiers.{position-Some}
use Rattle.std.proofs.lemmas.List.Kept.{AllPairs-filter}
use Rattle.lvm_num.specs.declared.place.Pp.{Pp}
use Rattle.lvm_num.specs.declared.descriptor.PvRow.{PvRow}
use Rattle.lvm_num.specs.Disks.{Disks}
use Rattle.lvm_map.specs.FirstFit.{has_partition_on, free_of, may_take}
use Rattle.lvm_map.specs.FreePartitions.{is_open, PartitionIsTaken, TakesFirstFree}
use Rattle.lvm_map.proofs.FirstFitLemmas.FreeLists.{free-head_disk, members-taken}

abbrev pub first : List Pp → Option Pp
first pps = slice_get pps 0

-- ---- the first choice is that of the first open member

closed : (others free more : List Pp) (lists : List (List Pp)) → ((pp : Pp) (rest : List Pp) → free ≡ pp ∷ rest → has_partition_on others pp.disk ≡ true)
    → first more ≡ option_and_then first (find (is_open others) lists)
    → first more ≡ option_and_then first (cond (is_open others free) (Some free) (find (is_open others) lists))
closed others [] more lists on later = later
closed others (pp ∷ rest) more lists on later =
    later ∙ ap (λ b. option_and_then first (cond (not b) (Some (pp ∷ rest)) (find (is_open others) lists))) (sym (on pp rest refl))

open_ : (others free more : List Pp) (lists : List (List Pp)) → ((pp : Pp) (rest : List Pp) → free ≡ pp ∷ rest → has_partition_on others pp.disk ≡ false)
    → first more ≡ option_and_then first (find (is_open others) lists)
    → first (free ++ more) ≡ option_and_then first (cond (is_open others free) (Some free) (find (is_open others) lists))
open_ others [] more lists off later = later
open_ others (pp ∷ rest) more lists off later =
    ap (λ b. option_and_then first (cond (not b) (Some (pp ∷ rest)) (find (is_open others) lists))) (sym (off pp rest refl))

pub first_choice : (usable : Disks) (used others : List Pp) (rows : List PvRow)
    → first (flat_map (free_of used) (filter (may_take usable others) rows))
    ≡ option_and_then first (find (is_open others) (map (free_of used) (filter (may_take usable []) rows)))
first_choice usable used others [] = refl
first_choice usable used others (row ∷ rows) = by_tests (first_choice usable used others rows) (usable row.disk) row.spare (has_partition_on others row.disk) refl
  where
    its : (b : Bool) → has_partition_on others row.disk ≡ b → (pp : Pp) (rest : List Pp) → free_of used row ≡ pp ∷ rest → has_partition_on others pp.disk ≡ b
    its b is pp rest same = ap (has_partition_on others) (free-head_disk used row pp rest same) ∙ is

    by_tests : first (flat_map (free_of used) (filter (may_take usable others) rows))
        ≡ option_and_then first (find (is_open others) (map (free_of used) (filter (may_take usable []) rows)))
        → (u s o : Bool) → has_partition_on others row.disk ≡ o
        → first (flat_map (free_of used) (cond (u && not s && not o) (row ∷ filter (may_take usable others) rows) (filter (may_take usable others) rows)))
        ≡ option_and_then first (find (is_open others) (map (free_of used) (cond (u && not s && true) (row ∷ filter (may_take usable []) rows) (filter (may_take usable []) rows))))
    by_tests later false s o is = later
    by_tests later true true o is = later
    by_tests later true false true is =
        closed others (free_of used row) (flat_map (free_of used) (filter (may_take usable others) rows)) (map (free_of used) (filter (may_take usable []) rows)) (its true is) later
    by_tests later true false false is =
        open_ others (free_of used row) (flat_map (free_of used) (filter (may_take usable others) rows)) (map (free_of used) (filter (may_take usable []) rows)) (its false is) later

-- ---- what is found has a position

pub find_position : {X : Type 0} (p : X → Bool) (xs : List X) → find p xs ≡ option_and_then (slice_get xs) (position p xs)
find_position {X} p xs = find_at p xs ∙ by_place (nat_lt (position_or_len p xs) (length xs)) refl
  where
    by_place : (b : Bool) → nat_lt (position_or_len p xs) (length xs) ≡ b
        → slice_get xs (position_or_len p xs) ≡ option_and_then (slice_get xs) (cond b (Some (position_or_len p xs)) None)
    by_place true is = refl
    by_place false is = elim (cases_lt (position_or_len p xs) (length xs)) [
      | inl less ↦ absurd (true_false (sym (lt-ltb (position_or_len p xs) (length xs) less) ∙ is))
      | inr more ↦ slice_get_past xs (position_or_len p xs) more
    ]
      where
        true_false : true ≡ false → ⊥
        true_false e = cc

-- ---- what is taken is the first choice

module _ (usable : Disks) (used others : List Pp) (rows : List PvRow) where
  pub nothing_taken : position (is_open others) (map (free_of used) (filter (may_take usable []) rows)) ≡ None
      → first (flat_map (free_of used) (filter (may_take usable others) rows)) ≡ None
  nothing_taken none =
      first_choice usable used others rows
      ∙ ap (option_and_then first) (find_position (is_open others) (map (free_of used) (filter (may_take usable []) rows)))
      ∙ ap (λ k. option_and_then first (option_and_then (slice_get (map (free_of used) (filter (may_take usable []) rows))) k)) none

  pub first_taken : (new : List (List Pp)) (pp : Pp) → PartitionIsTaken others (map (free_of used) (filter (may_take usable []) rows)) new pp
      → first (flat_map (free_of used) (filter (may_take usable others) rows)) ≡ Some pp
  first_taken new pp taken =
      first_choice usable used others rows
      ∙ ap (option_and_then first) (find_position (is_open others) (map (free_of used) (filter (may_take usable []) rows)))
      ∙ ap (λ k. option_and_then first (option_and_then (slice_get (map (free_of used) (filter (may_take usable []) rows))) k)) taken.first
      ∙ ap (option_and_then first) taken.had

  pub taken_from : (new : List (List Pp)) (pp : Pp) → AllPairs (λ (a b : PvRow). a.disk ≢ b.disk) rows → PartitionIsTaken others (map (free_of used) (filter (may_take usable []) rows)) new pp
      → new ≡ map (free_of (used ++ pp ∷ [])) (filter (may_take usable []) rows)
  taken_from new pp apart taken =
      taken.has
      ∙ sym (members-taken used pp taken.rest (filter (may_take usable []) rows) taken.member
      (AllPairs-filter (λ (a b : PvRow). a.disk ≢ b.disk) (may_take usable []) rows apart) taken.had)

-- ---- the lists of a table

position_or_len-map : {X Y : Type 0} (p : Y → Bool) (f : X → Y) (xs : List X) → position_or_len p (map f xs) ≡ position_or_len (λ x. p (f x)) xs
position_or_len-map p f [] = refl
position_or_len-map {X} p f (x ∷ xs) =
    let rest = position_or_len-map p f xs in
    λ t. cond (not (p (f x))) (1 + rest t) 0

position-map : {X Y : Type 0} (p : Y → Bool) (f : X → Y) (xs : List X) → position p (map f xs) ≡ position (λ x. p (f x)) xs
position-map p f xs =
    let at = position_or_len-map p f xs in
    let size = length-map xs f in
    λ t. cond (nat_lt (at t) (size t)) (Some (at t)) None

get-map : {X Y : Type 0} (f : X → Y) (xs : List X) (i : ℕ) (d : X) → i < length xs → slice_get (map f xs) i ≡ Some (f (get_or xs i d))
get-map f [] i d lt = absurd (omega arith)
get-map f (x ∷ xs) zero d lt = refl
get-map f (x ∷ xs) (suc i) d lt = get-map f xs i d (omega arith)

-- one of the first open list is taken
module _ {X : Type 0} (f : X → List Pp) (others : List Pp) (xs : List X) where
  pub takes_none : None ≡ position (λ x. is_open others (f x)) xs → TakesFirstFree others (map f xs) (map f xs) None
  takes_none none = (position-map (is_open others) f xs ∙ sym none, refl)

  pub takes_first : (i : ℕ) (here new : X) (result : Option Pp) → Some i ≡ position (λ x. is_open others (f x)) xs → here ≡ get_or xs i here
      → f here ≡ option_to_list result ++ f new → f new ≡ drop 1 (f here) → TakesFirstFree others (map f xs) (map f (set xs i new)) result
  takes_first i here new None at is items rest =
      let found = position-Some (λ x. is_open others (f x)) xs i here (sym at) in
      absurd (shut (f here) (items ∙ rest) (ap (λ x. is_open others (f x)) is ∙ found.1))
    where
      shut : (free : List Pp) → free ≡ drop 1 free → is_open others free ≡ true → ⊥
      shut [] same is = cc
      shut (pp ∷ rest) same is = absurd (omega (arith, ap (λ (pps : List Pp). length pps) same))
  takes_first i here new (Some pp) at is items rest =
      let found = position-Some (λ x. is_open others (f x)) xs i here (sym at) in
      record {
        member = i;
        rest = f new;
        first = position-map (is_open others) f xs ∙ sym at;
        had = get-map f xs i here found.0 ∙ ap (λ x. Some (f x)) (sym is) ∙ ap (λ (pps : List Pp). Some pps) items;
        has = map-set f xs i new;
      }
