-- The copies behind the first ones, as a volume of their own.
use Rattle.std.proofs.Common.{◌≡◌, ◌≢◌, inl, inr, ⊎_elim, ℕ, zero, suc, ◌+◌, ◌-◌, ◌*◌, ◌<◌, List, [], ◌∷◌, ◌++◌, length, get_or, take, drop, flat_map, Some, sym, ap, subst, ◌∙◌, arith}
use Rattle.std.specs.Prelude.{All, AllPairs}
use Rattle.std.specs.List.{range_with_len}
use Rattle.std.proofs.lemmas.Bool.{cases_lt}
use Rattle.std.proofs.lemmas.List.{length-drop, get_or-take, get_or-drop, take-append-drop}
use Rattle.std.proofs.lemmas.List.Elements.{All-contains}
use Rattle.lvm_num.specs.declared.place.Pp.{Pp}
use Rattle.lvm_num.specs.declared.descriptor.LvRow.{LvRow}
use Rattle.lvm_num.specs.declared.descriptor.Descriptor.{Descriptor}
use Rattle.lvm_num.specs.Descriptor.{IsPartitionOf, IsLaidOut, IsValid, copies_of, partitions_in, volume_of}
use Rattle.lvm_num.proofs.Pairs.{AllPairs-left, AllPairs-right, AllPairs-across}
use Rattle.lvm_num.proofs.AmongLemmas.{one_of_drop, one_of_either, one_of_take}
use Rattle.lvm_map.proofs.PlacesLemmas.{laid_out}
use Rattle.lvm_status.proofs.MarkingLemmas.{one_at}
use Rattle.lvm_kept.specs.Group.{IsOneOf}
use Rattle.lvm_volume_plan.specs.Copies.{first_copies, further_copies}
use Rattle.lvm_volume_plan.specs.Split.{split_row}
use Rattle.lvm_volume_plan.proofs.passed.Commit.{contains, of_map, of_rows, one_place}
use Rattle.lvm_volume_plan.proofs.Parts.{IsPart, all_of, pairs_of, length_of, part_there}
use Rattle.lvm_volume_plan.proofs.CopiesLemmas.Rows.{one_found}
use Rattle.lvm_volume_plan.proofs.CopiesLemmas.More.{none_past}
use Rattle.lvm_volume_plan.proofs.CopiesLemmas.Fewer.{all_size, inside}

-- ---- lists in which nothing stands twice

abbrev pub AreApart : List Pp → Type 0
AreApart xs = AllPairs (λ (a b : Pp). a ≢ b) xs

-- nothing stands in the front and in the back
pub not_both : (xs ys : List Pp) (p : Pp) → AreApart (xs ++ ys) → IsOneOf xs p → IsOneOf ys p → ⊥
not_both xs ys p apart front back =
    let i = contains xs p front in
    let j = contains ys p back in
    AllPairs-across (λ (a b : Pp). a ≢ b) xs ys apart i.0 j.0 p i.1 j.1 (i.2 ∙ sym j.2)

-- what holds of the partitions of all volumes holds of those of one
pub of_one : (P : Pp → Type 0) (rows : List LvRow) (row : LvRow) → IsOneOf rows row → All P (partitions_in rows) → All P row.map
of_one P rows row one all k e lt = let p = get_or row.map k e in All-contains P (partitions_in rows) p all (contains (partitions_in rows) p (of_rows rows row p one (one_at row.map k e lt)))

pub apart_in_one : (rows : List LvRow) (row : LvRow) → IsOneOf rows row → AreApart (partitions_in rows) → AreApart row.map
apart_in_one [] row one apart = absurd one
apart_in_one (r ∷ rows) row (inl here) apart = subst (λ (x : LvRow). AreApart x.map) (sym here) (AllPairs-left (λ (a b : Pp). a ≢ b) r.map (partitions_in rows) apart)
apart_in_one (r ∷ rows) row (inr there) apart = apart_in_one rows row there (AllPairs-right (λ (a b : Pp). a ≢ b) r.map (partitions_in rows) apart)

-- two volumes that share a partition are one
pub one_volume_has : (rows : List LvRow) (row other : LvRow) (p : Pp) → AreApart (partitions_in rows) → IsOneOf rows row → IsOneOf rows other → IsOneOf row.map p → IsOneOf other.map p → row ≡ other
one_volume_has [] row other p apart one two a b = absurd one
one_volume_has (r ∷ rows) row other p apart (inl is) (inl also) a b = is ∙ sym also
one_volume_has (r ∷ rows) row other p apart (inl is) (inr there) a b = absurd (not_both r.map (partitions_in rows) p apart (subst (λ (x : LvRow). IsOneOf x.map p) is a) (of_rows rows other p there b))
one_volume_has (r ∷ rows) row other p apart (inr there) (inl is) a b = absurd (not_both r.map (partitions_in rows) p apart (subst (λ (x : LvRow). IsOneOf x.map p) is b) (of_rows rows row p there a))
one_volume_has (r ∷ rows) row other p apart (inr one) (inr two) a b =
    one_volume_has rows row other p (AllPairs-right (λ (a b : Pp). a ≢ b) r.map (partitions_in rows) apart) one two a b

-- one of all parts is one of a part
pub of_parts : (h : ℕ → List Pp) (p : Pp) (a n : ℕ) → IsOneOf (flat_map h (range_with_len a n)) p → (lp : ℕ) × (lp < a + n) × IsOneOf (h lp) p
of_parts h p a zero one = absurd one
of_parts h p a (suc n) one = ⊎_elim
    (λ (here : IsOneOf (h a) p). (a, omega arith, here))
    (λ (there : IsOneOf (flat_map h (range_with_len (a + 1) n)) p). let it = of_parts h p (a + 1) n there in (it.0, omega (arith, it.1), it.2))
    (one_of_either (h a) (flat_map h (range_with_len (a + 1) n)) p one)

-- ---- the copies behind the first ones

module _ (d : Descriptor) (copies : ℕ) (row : LvRow) (valid : IsValid d) (volume : volume_of d row.number ≡ Some row) (fewer : copies < row.copies) where
  -- of a logical partition
  abbrev behind : ℕ → List Pp
  behind lp = drop copies (copies_of row lp)

  its_row : IsOneOf d.lvs row
  its_row = one_found row.number d.lvs row volume

  all : (lp : ℕ) → lp < row.lps → length (copies_of row lp) ≡ row.copies
  all lp lt = all_size d row.number copies row valid volume fewer lp lt

  size : (lp : ℕ) → lp < row.lps → length (behind lp) ≡ row.copies - copies
  size lp lt = let own = length-drop copies (copies_of row lp) in let whole = all lp lt in omega (arith, own, whole)

  part : (lp : ℕ) → lp < row.lps → IsPart row.map row.copies copies lp (behind lp)
  part lp lt = record {
    within = let own = size lp lt in omega (arith, own, fewer);
    inside = inside d row.number copies row valid volume fewer lp lt;
    at = λ i e i-lt.
        let own = size lp lt in
        get_or-drop copies (copies_of row lp) i e
        ∙ get_or-take row.copies (drop (lp * row.copies) row.map) (copies + i) e (omega (arith, i-lt, own, fewer))
        ∙ get_or-drop (lp * row.copies) row.map (copies + i) e;
  }

  -- they are partitions of members, and each once
  pub places : All (IsPartitionOf d) (further_copies row copies)
  places = all_of row.map row.copies copies behind (IsPartitionOf d) (λ k e lt past. of_one (IsPartitionOf d) d.lvs row its_row valid.maps.places k e lt) 0 row.lps (λ lp lt. part lp (omega (arith, lt)))

  pub once : AreApart (further_copies row copies)
  once = pairs_of row.map row.copies copies behind (λ (a b : Pp). a ≢ b) (apart_in_one d.lvs row its_row valid.maps.used_once) 0 row.lps (λ lp lt. part lp (omega (arith, lt)))

  -- none of them stays
  pub not_first : (p : Pp) → IsOneOf (first_copies row copies) p → IsOneOf (further_copies row copies) p → ⊥
  not_first p stays goes =
      let a = of_parts (λ lp. take copies (copies_of row lp)) p 0 row.lps stays in
      let b = of_parts behind p 0 row.lps goes in
      let one = one_of_take copies (copies_of row a.0) p a.2 in
      let other = one_of_drop copies (copies_of row b.0) p b.2 in
      let same = (one_place d row row a.0 b.0 p valid its_row its_row one other).lp_is in
      apart b.0 (omega (arith, b.1)) (subst (λ (lp : ℕ). IsOneOf (take copies (copies_of row lp)) p) same a.2) b.2
    where
      apart : (lp : ℕ) → lp < row.lps → IsOneOf (take copies (copies_of row lp)) p → IsOneOf (drop copies (copies_of row lp)) p → ⊥
      apart lp lt front back = not_both (take copies (copies_of row lp)) (drop copies (copies_of row lp)) p
          (subst AreApart (sym (take-append-drop copies (copies_of row lp)))
          (λ i j e less j-lt same. (laid_out d row.number row valid volume).strict lp lt i j e less j-lt (ap (λ (q : Pp). q.disk) same)))
          front back

  pub of_row : (p : Pp) → IsOneOf (further_copies row copies) p → IsOneOf row.map p
  of_row p one = let it = of_parts behind p 0 row.lps one in of_map row it.0 p (one_of_drop copies (copies_of row it.0) p it.2)

  -- ---- as a volume

  module _ (number : ℕ) (name : List ℕ) where
    abbrev new : LvRow
    new = split_row row copies number name

    whole : length (further_copies row copies) ≡ row.lps * (row.copies - copies)
    whole = length_of behind (row.copies - copies) 0 row.lps (λ lp low. size lp (omega (arith, low)))

    pub behind_are : (lp : ℕ) → lp < row.lps → copies_of new lp ≡ behind lp
    behind_are lp lt = part_there behind (row.copies - copies) 0 row.lps lp (λ m low. size m (omega (arith, low))) lt ∙ ap behind (let here : 0 + lp ≡ lp = omega arith in here)

    -- a copy of it is one of the other's behind the first ones
    pub is_behind : (lp : ℕ) (p : Pp) → IsOneOf (copies_of new lp) p → (lp < row.lps) × IsOneOf (behind lp) p
    is_behind lp p one = elim (cases_lt lp row.lps) [
      | inl lt ↦ (lt, subst (λ (xs : List Pp). IsOneOf xs p) (behind_are lp lt) one)
      | inr past ↦ absurd (none_past new lp p whole past one)
    ]

    pub old_copies : (lp : ℕ) (p : Pp) → IsOneOf (copies_of new lp) p → IsOneOf (copies_of row lp) p
    old_copies lp p one = one_of_drop copies (copies_of row lp) p (is_behind lp p one).1

    -- each logical partition has one
    pub some_copy : (lp : ℕ) → lp < row.lps → (p : Pp) × IsOneOf (copies_of new lp) p
    some_copy lp lt =
        let e : Pp = record { disk = 0; pp = 0 } in
        let some = size lp lt in (
          get_or (behind lp) 0 e,
          subst (λ (xs : List Pp). IsOneOf xs (get_or (behind lp) 0 e)) (sym (behind_are lp lt)) (one_at (behind lp) 0 e (omega (arith, some, fewer))),
        )

    pub laid : IsLaidOut new
    laid = record {
      whole = whole;
      strict = λ lp lt i j e less j-lt.
          let same = behind_are lp lt in
          let long = ap (λ (xs : List Pp). length xs) same in
          let own = size lp lt in
          let at-i : get_or (copies_of new lp) i e ≡ get_or (copies_of row lp) (copies + i) e = ap (λ (xs : List Pp). get_or xs i e) same ∙ get_or-drop copies (copies_of row lp) i e in
          let at-j : get_or (copies_of new lp) j e ≡ get_or (copies_of row lp) (copies + j) e = ap (λ (xs : List Pp). get_or xs j e) same ∙ get_or-drop copies (copies_of row lp) j e in
          let whole = all lp lt in
          λ disks. (laid_out d row.number row valid volume).strict lp lt (copies + i) (copies + j) e (omega (arith, less)) (omega (arith, j-lt, long, own, whole, fewer))
          (ap (λ (p : Pp). p.disk) (sym at-i) ∙ disks ∙ ap (λ (p : Pp). p.disk) at-j);
    }
