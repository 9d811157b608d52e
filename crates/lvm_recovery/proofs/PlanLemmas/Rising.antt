-- What is sorted, and of which no two are one, rises.
use Rattle.std.proofs.Common.{◌≡◌, inl, inr, ℕ, List, [], ◌∷◌, slice_index_or, refl, sym, ap, subst, ◌∙◌, true, arith, rules, AllPairs}
use Rattle.std.specs.List.{AllByRecursion, dedup}
use Rattle.std.specs.Cmp.{IsTotalOrder}
use Rattle.std.specs.Ordering.{eq_by_cmp, is_eq, ordering_then, nat_cmp}
use Rattle.std.specs.Cmp.Rules.{comparing}
use Rattle.std.proofs.lemmas.Cmp.{ranked}
use Rattle.std.specs.declared.cmp.Ordering.{Ordering}
use Rattle.std.specs.declared.cmp.Ordering.TheVariants.{Less, Equal, Greater}
use Rattle.std.specs.List.Sorted.{IsSorted, IsStrictlySortedBy}
use Rattle.std.specs.List.Retain.{IsFiltered, DiffersFromLast}
use Rattle.std.proofs.lemmas.List.Kept.{AllPairs-cons, IsStrictlySortedBy-dedup}
use Rattle.std.proofs.lemmas.List.Filters.{dedup_is}
use Rattle.lvm_num.proofs.Booleans.{same_answer}
use Rattle.lvm_num.proofs.AmongLemmas.{one_at}
use Rattle.lvm_kept.specs.Group.{IsOneOf}
use Rattle.lvm_recovery.specs.declared.plan.TrackGroup.{TrackGroup}
use Rattle.lvm_recovery.specs.Plan.{IsBefore}
use Rattle.lvm_recovery.proofs.CopyingLemmas.AllCopied.{at_index}
use Rattle.lvm_recovery.proofs.PlanLemmas.NamedBy.{same_group, is_same, same_self}

at_rec : {X : Type 0} (P : X → Type 0) (l : List X) (x : X) → AllByRecursion P l → IsOneOf l x → P x
at_rec P [] x all one = absurd one
at_rec P (y ∷ l) x all (inl same) = subst P (sym same) all.0
at_rec P (y ∷ l) x all (inr one) = at_rec P l x all.1 one

strict_pairs : (R : TrackGroup → TrackGroup → Ordering) (before : (x y : TrackGroup) → R x y ≡ Less → IsBefore x y) (l : List TrackGroup) → IsStrictlySortedBy R l → AllPairs IsBefore l
unfolding IsStrictlySortedBy
strict_pairs R before [] strict = λ i j d lt within. absurd (omega (arith, within))
strict_pairs R before (x ∷ l) strict = AllPairs-cons IsBefore x l
    (λ k d low. let y = slice_index_or l k d in before x y (at_rec (λ (z : TrackGroup). R x z ≡ Less) l y strict.0 (one_at l k y (at_index l k d low))))
    (strict_pairs R before l strict.1)

pub rising_of : {R : TrackGroup → TrackGroup → Ordering} → IsTotalOrder R → ((x y : TrackGroup) → same_group x y ≡ eq_by_cmp R x y) → ((x y : TrackGroup) → R x y ≡ Less → IsBefore x y) → (sorted final : List TrackGroup) → IsSorted R sorted
    → IsFiltered (DiffersFromLast same_group) [] sorted final → AllPairs IsBefore final
rising_of {R} o ties before sorted final up filtered =
    subst (AllPairs IsBefore) (sym (dedup_is same_group sorted final filtered)) (strict_pairs R before (dedup same_group sorted) (IsStrictlySortedBy-dedup o ties sorted up))

-- ---- the order

abbrev pub by_place : TrackGroup → TrackGroup → Ordering
by_place x y = ordering_then (nat_cmp x.volume y.volume) (nat_cmp x.group y.group)

pub by_place_is_total : IsTotalOrder by_place
by_place_is_total = search (comparing, rules)

cmp_self : (n : ℕ) → nat_cmp n n ≡ Equal
cmp_self n = go (nat_cmp n n) refl
  where
    go : (r : Ordering) → r ≡ nat_cmp n n → r ≡ Equal
    go Less e = absurd (let low = ranked n n Less e in omega (arith, low))
    go Equal e = refl
    go Greater e = absurd (let low = ranked n n Greater e in omega (arith, low))

module _ (x y : TrackGroup) where
  before_by : (p q : Ordering) → p ≡ nat_cmp x.volume y.volume → q ≡ nat_cmp x.group y.group → ordering_then p q ≡ Less → IsBefore x y
  before_by Less q e f is = inl (ranked x.volume y.volume Less e)
  before_by Equal Less e f is = inr (ranked x.volume y.volume Equal e, ranked x.group y.group Less f)
  before_by Equal Equal e f is = absurd cc
  before_by Equal Greater e f is = absurd cc
  before_by Greater q e f is = absurd cc

  equal_by : (p q : Ordering) → p ≡ nat_cmp x.volume y.volume → q ≡ nat_cmp x.group y.group → is_eq (ordering_then p q) ≡ true → x ≡ y
  equal_by Less q e f is = absurd cc
  equal_by Equal Less e f is = absurd cc
  equal_by Equal Equal e f is = ap (λ (n : ℕ). record { volume = n; group = x.group }) (ranked x.volume y.volume Equal e) ∙ ap (λ (n : ℕ). record { volume = y.volume; group = n }) (ranked x.group y.group Equal f)
  equal_by Equal Greater e f is = absurd cc
  equal_by Greater q e f is = absurd cc

  pub is_before : by_place x y ≡ Less → IsBefore x y
  is_before is = before_by (nat_cmp x.volume y.volume) (nat_cmp x.group y.group) refl refl is

self_is_equal : (x : TrackGroup) → is_eq (by_place x x) ≡ true
self_is_equal x = ap (λ (r : Ordering). is_eq (ordering_then r (nat_cmp x.group x.group))) (cmp_self x.volume) ∙ ap is_eq (cmp_self x.group)

pub ties_are_same : (x y : TrackGroup) → same_group x y ≡ eq_by_cmp by_place x y
ties_are_same x y = same_answer (same_group x y) (is_eq (by_place x y)) (λ is. subst (λ (z : TrackGroup). is_eq (by_place x z) ≡ true) (is_same x y is) (self_is_equal x))
    (λ is. subst (λ (z : TrackGroup). same_group x z ≡ true) (equal_by x y (nat_cmp x.volume y.volume) (nat_cmp x.group y.group) refl refl is) (same_self x))
