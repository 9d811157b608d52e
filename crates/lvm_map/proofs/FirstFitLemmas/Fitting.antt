-- First fit, one copy after the other.
use Rattle.std.proofs.Common.{◌≡◌, ◌≢◌, inl, inr, ℕ, zero, suc, ◌%◌, ◌<◌, Bool, true, false, cond, ◌&&◌, ◌||◌, List, [], ◌∷◌, ◌++◌, append_assoc, length, get_or, Some, None, refl, sym, ap, subst, ◌∙◌, arith}
use Rattle.std.specs.Prelude.{◌==◌, All, AllPairs, IsTrue, nat_lt, filter, slice_get, position}
use Rattle.std.specs.Bool.{MatchBool}
use Rattle.std.proofs.lemmas.Option.{slice_get_within, slice_get-get_or}
use Rattle.std.proofs.lemmas.Bool.{cases_lt}
use Rattle.std.proofs.lemmas.List.{length_push, take-append-le, take_all}
use Rattle.std.proofs.lemmas.List.Folds.{list_any-append}
use Rattle.lvm_num.specs.declared.place.Pp.{Pp}
use Rattle.lvm_num.specs.declared.descriptor.PvRow.{PvRow}
use Rattle.lvm_num.specs.declared.descriptor.Descriptor.{Descriptor}
use Rattle.lvm_num.specs.Descriptor.{partitions_used}
use Rattle.lvm_num.specs.Disks.{Disks}
use Rattle.lvm_map.specs.FirstFit.{is_among, may_take, choices, Asked, kept_next, others_in, next_fit, IsFirstFit}
use Rattle.lvm_map.specs.FreePartitions.{is_open, free_partitions, PartitionIsTaken, TakesFirstFree, TakesNext}
use Rattle.lvm_map.proofs.FirstFitLemmas.FreeLists.{members-known}
use Rattle.lvm_map.proofs.FreePartitionsLemmas.Choices.{nothing_taken, first_taken, taken_from}

-- ---- places of a list

pub get-left : {X : Type 0} (xs ys : List X) (k : ℕ) → k < length xs → slice_get (xs ++ ys) k ≡ slice_get xs k
get-left [] ys k lt = absurd (omega arith)
get-left (x ∷ xs) ys zero lt = refl
get-left (x ∷ xs) ys (suc k) lt = get-left xs ys k (omega arith)

pub get-end : {X : Type 0} (xs : List X) (x : X) (k : ℕ) → k ≡ length xs → slice_get (xs ++ x ∷ []) k ≡ Some x
get-end [] x zero is = refl
get-end [] x (suc k) is = absurd (omega arith)
get-end (y ∷ xs) x zero is = absurd (omega arith)
get-end (y ∷ xs) x (suc k) is = get-end xs x k (omega arith)

-- ---- a front with one more

pub fits-more : (d : Descriptor) (usable : Disks) (asked : Asked) (front : List Pp) (pp : Pp) → IsFirstFit d usable asked front
    → next_fit d usable asked front ≡ Some pp → IsFirstFit d usable asked (front ++ pp ∷ [])
fits-more d usable asked front pp fits next k lt = elim (cases_lt k (length front)) [
  | inl before ↦
      ap (next_fit d usable asked) (take-append-le k front (pp ∷ []) (omega arith)) ∙ fits k before ∙ sym (get-left front (pp ∷ []) k before)
  | inr after ↦
      let last : k ≡ length front = omega (arith, length_push front pp) in
      ap (next_fit d usable asked) (take-append-le k front (pp ∷ []) (omega arith) ∙ take_all k front after) ∙ next ∙ sym (get-end front pp k last)
]

-- a copy that is kept is used already
known : (used front old : List Pp) (k : ℕ) (pp : Pp) → All (λ (p : Pp). IsTrue (is_among used p)) old → Some pp ≡ slice_get old k → is_among (used ++ front) pp ≡ true
known used front old k pp all is =
    let at = slice_get-get_or old k pp (slice_get_within old k pp (sym is)) in
    let same : get_or old k pp ≡ pp = cc in
    let here : is_among used pp ≡ true = search (ap (is_among used) (sym same), all k pp (slice_get_within old k pp (sym is))) in
    list_any-append (λ (p : Pp). p.disk == pp.disk && p.pp == pp.pp) used front ∙ ap (λ b. b || is_among front pp) here

module _ (d : Descriptor) (usable : Disks) (asked : Asked) (front : List Pp) (old new : List (List Pp)) where
  pub next_is_some : (pp : Pp) → AllPairs (λ (a b : PvRow). a.disk ≢ b.disk) d.pvs → All (λ (p : Pp). IsTrue (is_among (partitions_used d) p)) asked.old
      → old ≡ free_partitions d usable (partitions_used d ++ front) → TakesNext asked front old new (Some pp)
      → (next_fit d usable asked front ≡ Some pp) × (new ≡ free_partitions d usable (partitions_used d ++ (front ++ pp ∷ [])))
  next_is_some pp apart all room takes = by_turn (nat_lt (length front % asked.copies) asked.kept) takes
    where
      by_turn : (b : Bool) → MatchBool b ((Some pp ≡ kept_next asked front) × (new ≡ old)) (TakesFirstFree (others_in asked front) old new (Some pp))
          → (cond b (kept_next asked front) (slice_get (choices d usable (partitions_used d ++ front) (others_in asked front)) 0) ≡ Some pp)
          × (new ≡ free_partitions d usable (partitions_used d ++ (front ++ pp ∷ [])))
      by_turn true kept = (
        sym kept.0,
        kept.1
            ∙ room
            ∙ sym (members-known (partitions_used d ++ front) pp (filter (may_take usable []) d.pvs) (known (partitions_used d) front asked.old _ pp all kept.0))
            ∙ ap (free_partitions d usable) (append_assoc (partitions_used d) front (pp ∷ [])),
      )
      by_turn false taken =
          let from = subst (λ (lists : List (List Pp)). PartitionIsTaken (others_in asked front) lists new pp) room taken in (
            first_taken usable (partitions_used d ++ front) (others_in asked front) d.pvs new pp from,
            taken_from usable (partitions_used d ++ front) (others_in asked front) d.pvs new pp apart from
                ∙ ap (free_partitions d usable) (append_assoc (partitions_used d) front (pp ∷ [])),
          )

  pub next_is_none : old ≡ free_partitions d usable (partitions_used d ++ front) → TakesNext asked front old new None → next_fit d usable asked front ≡ None
  next_is_none room takes = by_turn (nat_lt (length front % asked.copies) asked.kept) takes
    where
      by_turn : (b : Bool) → MatchBool b ((None ≡ kept_next asked front) × (new ≡ old)) (TakesFirstFree (others_in asked front) old new None)
          → cond b (kept_next asked front) (slice_get (choices d usable (partitions_used d ++ front) (others_in asked front)) 0) ≡ None
      by_turn true kept = sym kept.0
      by_turn false taken =
          nothing_taken usable (partitions_used d ++ front) (others_in asked front) d.pvs
          (subst (λ (lists : List (List Pp)). position (is_open (others_in asked front)) lists ≡ None) room taken.0)
