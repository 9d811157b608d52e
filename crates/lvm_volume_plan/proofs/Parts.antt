-- Parts of a map, of each logical partition as many copies.
use Rattle.std.proofs.Common.{◌≡◌, ℕ, zero, suc, ◌+◌, ◌-◌, ◌*◌, ◌%◌, ◌<◌, ◌≤◌, List, ◌++◌, length, get_or, take, drop, flat_map, append_assoc, refl, sym, ap, subst, ◌∙◌, arith}
use Rattle.std.specs.Prelude.{All, AllPairs}
use Rattle.std.specs.List.{range_with_len}
use Rattle.std.proofs.lemmas.List.{append-nil, length-append, length-drop, get_or_default, take_all, take_at, drop_at, drop-drop}
use Rattle.std.proofs.lemmas.List.Elements.{All-append, All-nil}
use Rattle.std.proofs.Math.Nat.{mul-le-mul_right}
use Rattle.lvm_num.specs.declared.place.Pp.{Pp}
use Rattle.lvm_num.proofs.Pairs.{AllPairs-append}
use Rattle.lvm_num.proofs.AmongLemmas.{one_of_left, one_of_right}
use Rattle.lvm_kept.specs.Group.{IsOneOf}
use Rattle.lvm_map.proofs.Parts.{parts}

-- ---- of each logical partition a part of its copies

-- the list is what stands in the map from a copy of a logical partition on
pub record IsPart (map : List Pp) (copies from lp : ℕ) (xs : List Pp) : Type 0 where
  pub within : from + length xs ≤ copies
  pub inside : lp * copies + copies ≤ length map
  pub at : (i : ℕ) (e : Pp) → i < length xs → get_or xs i e ≡ get_or map (lp * copies + (from + i)) e

module _ (map : List Pp) (copies from : ℕ) (h : ℕ → List Pp) where
  part_at : (P : Pp → Type 0) (lp : ℕ) → IsPart map copies from lp (h lp) → ((k : ℕ) (e : Pp) → k < length map → from ≤ k % copies → P (get_or map k e)) → All P (h lp)
  part_at P lp part each i e lt =
      let inside = part.inside in
      let within = part.within in
      let below : from + i < copies = omega (arith, within, lt) in
      let place = parts copies (lp * copies + (from + i)) lp (from + i) below refl in
      subst P (sym (part.at i e lt)) (each (lp * copies + (from + i)) e (omega (arith, inside, below)) (omega (arith, place.1)))

  -- what holds of each copy of the map that is far enough behind holds of each of all parts
  pub all_of : (P : Pp → Type 0) → ((k : ℕ) (e : Pp) → k < length map → from ≤ k % copies → P (get_or map k e)) → (a n : ℕ) → ((lp : ℕ) → lp < a + n → IsPart map copies from lp (h lp)) → All P (flat_map h (range_with_len a n))
  all_of P each a zero part = All-nil P
  all_of P each a (suc n) part = All-append P (h a) (flat_map h (range_with_len (a + 1) n)) (part_at P a (part a (omega arith)) each) (all_of P each (a + 1) n (λ lp lt. part lp (omega (arith, lt))))

  -- and what holds of each two copies, of each two of them
  pub pairs_of : (R : Pp → Pp → Type 0) → AllPairs R map → (a n : ℕ) → ((lp : ℕ) → lp < a + n → IsPart map copies from lp (h lp)) → AllPairs R (flat_map h (range_with_len a n))
  pairs_of R pairs a zero part = λ i j e less lt. absurd (omega (arith, lt))
  pairs_of R pairs a (suc n) part = AllPairs-append R (h a) (flat_map h (range_with_len (a + 1) n)) own (pairs_of R pairs (a + 1) n (λ lp lt. part lp (omega (arith, lt)))) across
    where
      mine : IsPart map copies from a (h a)
      mine = part a (omega arith)

      own : AllPairs R (h a)
      own i j e less lt =
          let inside = mine.inside in
          let within = mine.within in
          subst (λ (x : Pp). R x (get_or (h a) j e)) (sym (mine.at i e (omega (arith, less, lt)))) (subst (λ (y : Pp). R (get_or map (a * copies + (from + i)) e) y) (sym (mine.at j e lt))
          (pairs (a * copies + (from + i)) (a * copies + (from + j)) e (omega (arith, less)) (omega (arith, inside, within, lt))))

      -- one of the first logical partition, and one of a later one
      later : (x : Pp) (i : ℕ) → i < length (h a) → get_or (h a) i x ≡ x → (b n : ℕ) → a < b → ((lp : ℕ) → lp < b + n → IsPart map copies from lp (h lp)) → All (R x) (flat_map h (range_with_len b n))
      later x i lt is b zero less part = All-nil (R x)
      later x i lt is b (suc n) less part = All-append (R x) (h b) (flat_map h (range_with_len (b + 1) n)) here (later x i lt is (b + 1) n (omega (arith, less)) (λ lp low. part lp (omega (arith, low))))
        where
          here : All (R x) (h b)
          here j e j-lt =
              let its = part b (omega arith) in
              let step : suc a * copies ≤ b * copies = mul-le-mul_right copies less in
              let first = mine.within in
              let inside = its.inside in
              let within = its.within in
              subst (λ (y : Pp). R y (get_or (h b) j e)) (sym (mine.at i e lt) ∙ same e) (subst (λ (y : Pp). R (get_or map (a * copies + (from + i)) e) y) (sym (its.at j e j-lt))
              (pairs (a * copies + (from + i)) (b * copies + (from + j)) e (omega (arith, step, first, lt)) (omega (arith, inside, within, j-lt))))
            where
              same : (e : Pp) → get_or (h a) i e ≡ x
              same e = get_or_default (h a) i e x lt ∙ is

      across : (i j : ℕ) (e : Pp) → i < length (h a) → j < length (flat_map h (range_with_len (a + 1) n)) → R (get_or (h a) i e) (get_or (flat_map h (range_with_len (a + 1) n)) j e)
      across i j e i-lt j-lt = later (get_or (h a) i e) i i-lt (get_or_default (h a) i (get_or (h a) i e) e i-lt) (a + 1) n (omega arith) (λ lp low. part lp (omega (arith, low))) j e j-lt

-- ---- a map of parts of one length

drop_front : (xs ys : List Pp) (n k : ℕ) → length xs ≡ n → drop (n + k) (xs ++ ys) ≡ drop k ys
drop_front xs ys n k size = sym (drop-drop k n (xs ++ ys)) ∙ ap (drop k) (drop_at xs ys n size)

module _ (h : ℕ → List Pp) (copies : ℕ) where
  pub length_of : (a n : ℕ) → ((lp : ℕ) → lp < a + n → length (h lp) ≡ copies) → length (flat_map h (range_with_len a n)) ≡ n * copies
  length_of a zero size = let none : zero * copies ≡ 0 = omega arith in sym none
  length_of a (suc n) size =
      let rest = length_of (a + 1) n (λ lp lt. size lp (omega (arith, lt))) in
      let own = size a (omega arith) in
      let all = length-append (h a) (flat_map h (range_with_len (a + 1) n)) in
      omega (arith, all, own, rest)

  -- so each logical partition has its part there
  pub part_there : (a n lp : ℕ) → ((m : ℕ) → m < a + n → length (h m) ≡ copies) → lp < n → take copies (drop (lp * copies) (flat_map h (range_with_len a n))) ≡ h (a + lp)
  part_there a zero lp size lt = absurd (omega (arith, lt))
  part_there a (suc n) zero size lt =
      let own = size a (omega arith) in
      let rest = flat_map h (range_with_len (a + 1) n) in
      let start : zero * copies ≡ 0 = omega arith in
      let here : a + zero ≡ a = omega arith in
      ap (λ (m : ℕ). take copies (drop m (h a ++ rest))) start
      ∙ take_at (h a) rest copies own
      ∙ ap h (sym here)
  part_there a (suc n) (suc lp) size lt =
      let own = size a (omega arith) in
      let rest = flat_map h (range_with_len (a + 1) n) in
      let start : suc lp * copies ≡ copies + lp * copies = omega arith in
      let here : a + suc lp ≡ (a + 1) + lp = omega arith in
      ap (λ (m : ℕ). take copies (drop m (h a ++ rest))) start
      ∙ ap (take copies) (drop_front (h a) rest copies (lp * copies) own)
      ∙ part_there (a + 1) n lp (λ m low. size m (omega (arith, low))) (omega (arith, lt))
      ∙ ap h (sym here)

-- one of a part is one of all
pub one_part : (h : ℕ → List Pp) (x : Pp) (a n lp : ℕ) → lp < n → IsOneOf (h (a + lp)) x → IsOneOf (flat_map h (range_with_len a n)) x
one_part h x a zero lp lt one = absurd (omega (arith, lt))
one_part h x a (suc n) zero lt one = one_of_left (h a) (flat_map h (range_with_len (a + 1) n)) x (subst (λ (m : ℕ). IsOneOf (h m) x) (let here : a + zero ≡ a = omega arith in here) one)
one_part h x a (suc n) (suc lp) lt one = one_of_right (h a) (flat_map h (range_with_len (a + 1) n)) x
    (one_part h x (a + 1) n lp (omega (arith, lt)) (subst (λ (m : ℕ). IsOneOf (h m) x) (let here : a + suc lp ≡ (a + 1) + lp = omega arith in here) one))

-- with one logical partition more
pub range_more : (h : ℕ → List Pp) (a n : ℕ) → flat_map h (range_with_len a (suc n)) ≡ flat_map h (range_with_len a n) ++ h (a + n)
range_more h a zero = append-nil (h a) ∙ ap h (let same : a ≡ a + zero = omega arith in same)
range_more h a (suc n) =
    ap (λ (xs : List Pp). h a ++ xs) (range_more h (a + 1) n) ∙ sym (append_assoc (h a) (flat_map h (range_with_len (a + 1) n)) (h ((a + 1) + n)))
    ∙ ap (λ (m : ℕ). (h a ++ flat_map h (range_with_len (a + 1) n)) ++ h m) (let same : (a + 1) + n ≡ a + suc n = omega arith in same)

-- so a list grows by a part
pub part_more : (h : ℕ → List Pp) (n : ℕ) (before part after : List Pp) → after ≡ before ++ part → before ≡ flat_map h (range_with_len 0 n) → part ≡ h n → after ≡ flat_map h (range_with_len 0 (n + 1))
part_more h n before part after is so_far its =
    let here : 0 + n ≡ n = omega arith in
    let next : n + 1 ≡ suc n = omega arith in
    is ∙ (λ t. so_far t ++ its t) ∙ ap (λ (m : ℕ). flat_map h (range_with_len 0 n) ++ h m) (sym here) ∙ sym (range_more h 0 n) ∙ ap (λ (m : ℕ). flat_map h (range_with_len 0 m)) (sym next)

-- what stands behind a place is all that is left from there
pub behind_is : (xs ys : List Pp) (m k : ℕ) → xs ≡ ys → m ≡ k → take (length xs - m) (drop m xs) ≡ drop k ys
behind_is xs ys m k same is = let rest = length-drop m xs in take_all (length xs - m) (drop m xs) (omega (arith, rest)) ∙ (λ t. drop (is t) (same t))
