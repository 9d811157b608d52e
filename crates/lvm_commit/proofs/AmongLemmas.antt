-- A partition is a copy of one logical partition.
use Rattle.std.proofs.Common.{◌≡◌, inl, inr, ℕ, zero, suc, ◌+◌, ◌*◌, ◌<◌, ◌≤◌, List, [], ◌∷◌, ◌++◌, refl, sym, ap, subst, ◌∙◌, take, drop, arith}
use Rattle.std.specs.Prelude.{◌≢◌, AllPairs, Contains}
use Rattle.std.proofs.lemmas.Bool.{cases_lt}
use Rattle.std.proofs.lemmas.List.Elements.{Contains-append_right}
use Rattle.std.proofs.lemmas.List.{get_or_append_left, length-append}
use Rattle.std.proofs.Math.Nat.{mul-le-mul_right}
use Rattle.lvm_num.specs.declared.place.Pp.{Pp}
use Rattle.lvm_num.specs.declared.descriptor.LvRow.{LvRow}
use Rattle.lvm_num.specs.declared.descriptor.Descriptor.{Descriptor}
use Rattle.lvm_num.specs.Descriptor.{IsValid, copies_of, partitions_in}
use Rattle.lvm_num.proofs.AmongLemmas.{one_of_left, one_of_right}
use Rattle.lvm_kept.specs.Group.{IsOneOf}

-- ---- lists without repetition

abbrev AreApart : List Pp → Type 0
AreApart xs = AllPairs (λ (a b : Pp). a ≢ b) xs

pub contains : {X : Type 0} (xs : List X) (x : X) → IsOneOf xs x → Contains xs x
contains [] x one = absurd one
contains (y ∷ ys) x (inl here) = (0, omega arith, sym here)
contains (y ∷ ys) x (inr there) = Contains-append_right (y ∷ []) ys x (contains ys x there)

apart_tail : (x : Pp) (xs : List Pp) → AreApart (x ∷ xs) → AreApart xs
apart_tail x xs apart i j d less within = apart (suc i) (suc j) d (omega (arith, less)) (omega (arith, within))

-- none stands in the front and in the back
not_both : (xs ys : List Pp) (p : Pp) → AreApart (xs ++ ys) → IsOneOf xs p → IsOneOf ys p → ⊥
not_both [] ys p apart front back = front
not_both (x ∷ xs) ys p apart (inl here) back =
    let at = contains (xs ++ ys) p (one_of_right xs ys p back) in
    apart zero (suc at.0) p (omega arith) (omega (arith, at.1)) (sym here ∙ sym at.2)
not_both (x ∷ xs) ys p apart (inr there) back = not_both xs ys p (apart_tail x (xs ++ ys) apart) there back

apart_back : (xs ys : List Pp) → AreApart (xs ++ ys) → AreApart ys
apart_back [] ys apart = apart
apart_back (x ∷ xs) ys apart = apart_back xs ys (apart_tail x (xs ++ ys) apart)

in_front : {X : Type 0} (a k b : ℕ) (xs : List X) (x : X) → a + k ≤ b → IsOneOf (take k (drop a xs)) x → IsOneOf (take b xs) x
in_front zero zero b xs x le one = absurd one
in_front zero (suc k) zero xs x le one = absurd (omega (arith, le))
in_front zero (suc k) (suc b) [] x le one = absurd one
in_front zero (suc k) (suc b) (y ∷ ys) x le (inl here) = inl here
in_front zero (suc k) (suc b) (y ∷ ys) x le (inr there) = inr (in_front zero k b ys x (omega (arith, le)) there)
in_front (suc a) k zero xs x le one = absurd (omega (arith, le))
in_front (suc a) zero (suc b) [] x le one = absurd one
in_front (suc a) (suc k) (suc b) [] x le one = absurd one
in_front (suc a) k (suc b) (y ∷ ys) x le one = inr (in_front a k b ys x (omega (arith, le)) one)

in_back : {X : Type 0} (n k : ℕ) (xs : List X) (x : X) → IsOneOf (take k (drop n xs)) x → IsOneOf (drop n xs) x
in_back n k xs x one = of_front k (drop n xs) one
  where
    of_front : (k : ℕ) (ys : List _) → IsOneOf (take k ys) x → IsOneOf ys x
    of_front zero ys one = absurd one
    of_front (suc k) [] one = absurd one
    of_front (suc k) (y ∷ ys) (inl here) = inl here
    of_front (suc k) (y ∷ ys) (inr there) = inr (of_front k ys there)

joined : {X : Type 0} (n : ℕ) (xs : List X) → xs ≡ take n xs ++ drop n xs
joined zero xs = refl
joined (suc n) [] = refl
joined (suc n) (x ∷ xs) = ap (λ (ys : List _). x ∷ ys) (joined n xs)

-- ---- within a volume, and among volumes

-- two logical partitions share no copy
lower : (m : List Pp) (k a b : ℕ) (p : Pp) → AreApart m → a < b → IsOneOf (take k (drop (a * k) m)) p → IsOneOf (take k (drop (b * k) m)) p → ⊥
lower m k a b p apart less one other =
    let le : suc a * k ≤ b * k = mul-le-mul_right k less in
    not_both (take (b * k) m) (drop (b * k) m) p (subst AreApart (joined (b * k) m) apart) (in_front (a * k) k (b * k) m p (omega (arith, le)) one) (in_back (b * k) k m p other)

one_partition : (row : LvRow) (a b : ℕ) (p : Pp) → AreApart row.map → IsOneOf (copies_of row a) p → IsOneOf (copies_of row b) p → a ≡ b
one_partition row a b p apart one other = elim (cases_lt a b) [
  | inl less ↦ absurd (lower row.map row.copies a b p apart less one other)
  | inr more ↦ elim (cases_lt b a) [
    | inl greater ↦ absurd (lower row.map row.copies b a p apart greater other one)
    | inr equal ↦ omega (arith, more, equal)
  ]
]

pub of_map : (row : LvRow) (lp : ℕ) (p : Pp) → IsOneOf (copies_of row lp) p → IsOneOf row.map p
of_map row lp p one = subst (λ (m : List Pp). IsOneOf m p) (sym (joined (lp * row.copies) row.map)) (one_of_right (take (lp * row.copies) row.map) (drop (lp * row.copies) row.map) p (in_back (lp * row.copies) row.copies row.map p one))

pub of_rows : (rows : List LvRow) (row : LvRow) (p : Pp) → IsOneOf rows row → IsOneOf row.map p → IsOneOf (partitions_in rows) p
of_rows [] row p volume one = absurd volume
of_rows (r ∷ rows) row p (inl here) one = one_of_left r.map (partitions_in rows) p (subst (λ (x : LvRow). IsOneOf x.map p) here one)
of_rows (r ∷ rows) row p (inr there) one = one_of_right r.map (partitions_in rows) p (of_rows rows row p there one)

apart_front : (xs ys : List Pp) → AreApart (xs ++ ys) → AreApart xs
apart_front xs ys apart i j d less within =
    let long = length-append xs ys in
    λ e. apart i j d less (omega (arith, long, within)) (get_or_append_left xs ys d i (omega (arith, less, within)) ∙ e ∙ sym (get_or_append_left xs ys d j within))

record IsOne (row other : LvRow) : Type 0 where
  same : row ≡ other
  apart : AreApart row.map

one_row : (rows : List LvRow) (row other : LvRow) (p : Pp) → AreApart (partitions_in rows) → IsOneOf rows row → IsOneOf rows other → IsOneOf row.map p → IsOneOf other.map p → IsOne row other
one_row [] row other p apart one two a b = absurd one
one_row (r ∷ rows) row other p apart (inl is) (inl also) a b = record { same = is ∙ sym also; apart = subst (λ (x : LvRow). AreApart x.map) (sym is) (apart_front r.map (partitions_in rows) apart) }
one_row (r ∷ rows) row other p apart (inl is) (inr there) a b = absurd (not_both r.map (partitions_in rows) p apart (subst (λ (x : LvRow). IsOneOf x.map p) is a) (of_rows rows other p there b))
one_row (r ∷ rows) row other p apart (inr there) (inl is) a b = absurd (not_both r.map (partitions_in rows) p apart (subst (λ (x : LvRow). IsOneOf x.map p) is b) (of_rows rows row p there a))
one_row (r ∷ rows) row other p apart (inr one) (inr two) a b = one_row rows row other p (apart_back r.map (partitions_in rows) apart) one two a b

-- a partition stands in one place of a valid group
pub record IsOnePlace (row other : LvRow) (lp at : ℕ) : Type 0 where
  pub row_is : row ≡ other
  pub lp_is : lp ≡ at

pub one_place : (group : Descriptor) (row other : LvRow) (lp at : ℕ) (p : Pp) → IsValid group → IsOneOf group.lvs row → IsOneOf group.lvs other → IsOneOf (copies_of row lp) p → IsOneOf (copies_of other at) p
    → IsOnePlace row other lp at
one_place group row other lp at p valid one two a b =
    let is = one_row group.lvs row other p valid.maps.used_once one two (of_map row lp p a) (of_map other at p b) in
    record { row_is = is.same; lp_is = one_partition row lp at p is.apart a (subst (λ (x : LvRow). IsOneOf (copies_of x at) p) (sym is.same) b) }
