-- Each partition is used by one copy of one logical partition.
use Rattle.std.proofs.Common.{◌≡◌, ◌≢◌, inl, inr, ℕ, zero, suc, ◌+◌, ◌*◌, ◌<◌, ◌≤◌, List, [], ◌∷◌, ◌++◌, length, get_or, take, drop, sym, subst, ◌∙◌, arith, length-append}
use Rattle.std.specs.Prelude.{AllPairs}
use Rattle.std.proofs.lemmas.Bool.{cases_lt}
use Rattle.std.proofs.lemmas.List.{get_or-drop, get_or-take, length-drop, get_or_append_left, get_or-append-add}
use Rattle.std.proofs.Math.Nat.{mul-le-mul_left}
use Rattle.lvm_num.specs.declared.place.Pp.{Pp}
use Rattle.lvm_num.specs.declared.descriptor.LvRow.{LvRow}
use Rattle.lvm_num.specs.declared.descriptor.Descriptor.{Descriptor}
use Rattle.lvm_num.specs.Descriptor.{IsValid, copies_of, partitions_in}
use Rattle.lvm_num.proofs.Pairs.{AllPairs-left, AllPairs-right}
use Rattle.lvm_kept.specs.Group.{IsOneOf}
use Rattle.lvm_write.proofs.NextLemmas.{copy_in_map, in_partitions}

-- where an element stands
record At {X : Type 0} (xs : List X) (x : X) : Type 0 where
  place : ℕ
  within : place < length xs
  it : (d : X) → get_or xs place d ≡ x

at_one : {X : Type 0} (xs : List X) (x : X) → IsOneOf xs x → At xs x
at_one [] x is = absurd is
at_one (y ∷ ys) x (inl e) = record { place = 0; within = omega arith; it = λ d. sym e }
at_one (y ∷ ys) x (inr there) = let a = at_one ys x there in record { place = suc a.place; within = (let lt = a.within in omega (arith, lt)); it = a.it }

-- two parts of a list without doubles have no common element
apart : {X : Type 0} (xs ys : List X) (x : X) → AllPairs (λ (a b : X). a ≢ b) (xs ++ ys) → IsOneOf xs x → IsOneOf ys x → ⊥
apart xs ys x once one two =
    let a = at_one xs x one in
    let b = at_one ys x two in
    once a.place (length xs + b.place) x (let lt = a.within in omega (arith, lt)) (let lt = b.within in omega (arith, lt, length-append xs ys))
    (get_or_append_left xs ys x a.place a.within ∙ a.it x ∙ sym (get_or-append-add xs ys b.place x ∙ b.it x))

-- the copies of a logical partition stand at its places of the map
copy_at : (row : LvRow) (lp : ℕ) (p : Pp) → IsOneOf (copies_of row lp) p → (i : ℕ) × (lp * row.copies ≤ i) × (i < lp * row.copies + row.copies) × (i < length row.map) × ((d : Pp) → get_or row.map i d ≡ p)
copy_at row lp p is =
    let a = at_one (copies_of row lp) p is in
    let first : ℕ = lp * row.copies in
    let few : a.place < row.copies = few_taken row.copies (drop first row.map) a.place a.within in
    let rest : a.place < length (drop first row.map) = fewer_taken row.copies (drop first row.map) a.place a.within in (
      first + a.place,
      omega arith,
      omega (arith, few),
      omega (arith, rest, length-drop first row.map),
      λ d. sym (get_or-drop first row.map a.place d) ∙ sym (get_or-take row.copies (drop first row.map) a.place d few) ∙ a.it d,
    )
  where
    few_taken : (n : ℕ) (xs : List Pp) (i : ℕ) → i < length (take n xs) → i < n
    few_taken zero [] i lt = absurd (omega (arith, lt))
    few_taken zero (x ∷ xs) i lt = absurd (omega (arith, lt))
    few_taken (suc n) [] i lt = absurd (omega (arith, lt))
    few_taken (suc n) (x ∷ xs) zero lt = omega arith
    few_taken (suc n) (x ∷ xs) (suc i) lt = (let l = few_taken n xs i (omega (arith, lt)) in omega (arith, l))

    fewer_taken : (n : ℕ) (xs : List Pp) (i : ℕ) → i < length (take n xs) → i < length xs
    fewer_taken zero [] i lt = lt
    fewer_taken zero (x ∷ xs) i lt = absurd (omega (arith, lt))
    fewer_taken (suc n) [] i lt = lt
    fewer_taken (suc n) (x ∷ xs) zero lt = omega arith
    fewer_taken (suc n) (x ∷ xs) (suc i) lt = (let l = fewer_taken n xs i (omega (arith, lt)) in omega (arith, l))

-- of one volume it is one logical partition's
lower : (row : LvRow) (a b : ℕ) (p : Pp) → AllPairs (λ (x y : Pp). x ≢ y) row.map → IsOneOf (copies_of row a) p → IsOneOf (copies_of row b) p → a < b → ⊥
lower row a b p once one two less =
    let x = copy_at row a p one in
    let y = copy_at row b p two in
    let gap : row.copies * suc a ≤ row.copies * b = mul-le-mul_left row.copies (omega (arith, less)) in
    let before : x.0 < y.0 = (let l = x.2 in let m = y.1 in omega (arith, gap, l, m)) in
    once x.0 y.0 p before y.3 (x.4 p ∙ sym (y.4 p))

one_partition : (row : LvRow) (a b : ℕ) (p : Pp) → AllPairs (λ (x y : Pp). x ≢ y) row.map → IsOneOf (copies_of row a) p → IsOneOf (copies_of row b) p → a ≡ b
one_partition row a b p once one two = elim (cases_lt a b) [
  | inl less ↦ absurd (lower row a b p once one two less)
  | inr more ↦ elim (cases_lt b a) [
    | inl less ↦ absurd (lower row b a p once two one less)
    | inr same ↦ omega (arith, more, same)
  ]
]

one_volume : (rows : List LvRow) (r s : LvRow) (a b : ℕ) (p : Pp) → AllPairs (λ (x y : Pp). x ≢ y) (partitions_in rows) → IsOneOf rows r → IsOneOf rows s → IsOneOf (copies_of r a) p → IsOneOf (copies_of s b) p → (r ≡ s) × (a ≡ b)
one_volume [] r s a b p once one two here there = absurd one
one_volume (q ∷ qs) r s a b p once (inl e) (inl f) here there =
    let same : r ≡ s = e ∙ sym f in
    (same, one_partition s a b p (subst (λ (x : LvRow). AllPairs (λ (x y : Pp). x ≢ y) x.map) (sym f) (AllPairs-left (λ (x y : Pp). x ≢ y) q.map (partitions_in qs) once)) (subst (λ (x : LvRow). IsOneOf (copies_of x a) p) same here) there)
one_volume (q ∷ qs) r s a b p once (inl e) (inr two) here there =
    absurd (apart q.map (partitions_in qs) p once (subst (λ (x : LvRow). IsOneOf x.map p) e (copy_in_map r a p here)) (in_partitions qs s p two (copy_in_map s b p there)))
one_volume (q ∷ qs) r s a b p once (inr one) (inl f) here there =
    absurd (apart q.map (partitions_in qs) p once (subst (λ (x : LvRow). IsOneOf x.map p) f (copy_in_map s b p there)) (in_partitions qs r p one (copy_in_map r a p here)))
one_volume (q ∷ qs) r s a b p once (inr one) (inr two) here there = one_volume qs r s a b p (AllPairs-right (λ (x y : Pp). x ≢ y) q.map (partitions_in qs) once) one two here there

pub one_place : (d : Descriptor) → IsValid d → (r s : LvRow) (a b : ℕ) (p : Pp) → IsOneOf d.lvs r → IsOneOf d.lvs s → IsOneOf (copies_of r a) p → IsOneOf (copies_of s b) p → (r ≡ s) × (a ≡ b)
one_place d valid r s a b p one two here there = one_volume d.lvs r s a b p valid.maps.used_once one two here there
