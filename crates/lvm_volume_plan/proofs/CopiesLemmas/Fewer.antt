-- A descriptor in which a volume keeps its first copies.
use Rattle.std.proofs.Common.{◌≡◌, ◌≢◌, inl, inr, ℕ, suc, ◌+◌, ◌*◌, ◌<◌, ◌≤◌, Bool, true, false, List, [], ◌∷◌, ◌++◌, length, get_or, take, drop, Some, map, refl, sym, ap, subst, ◌∙◌, arith}
use Rattle.std.specs.Prelude.{◌==◌, if◌then◌else◌, All, AllPairs}
use Rattle.std.proofs.lemmas.Bool.{eqb-true, cases_lt}
use Rattle.std.proofs.lemmas.List.{length-map, length-take-le, length-drop, get_or-take, get_or-drop, get_or_default}
use Rattle.std.proofs.lemmas.List.Elements.{All-append, All-map}
use Rattle.std.proofs.Math.Nat.{mul-le-mul_right}
use Rattle.lvm_status.proofs.MarkingLemmas.{one_at}
use Rattle.lvm_num.specs.declared.place.Pp.{Pp}
use Rattle.lvm_num.specs.declared.descriptor.LvRow.{LvRow}
use Rattle.lvm_num.specs.declared.descriptor.Descriptor.{Descriptor}
use Rattle.lvm_num.specs.Descriptor.{IsVolume, IsPartitionOf, IsLaidOut, IsValid, copies_of, partitions_in, volume_of}
use Rattle.lvm_num.proofs.Pairs.{All-left, All-right, AllPairs-left, AllPairs-right, AllPairs-across, AllPairs-append}
use Rattle.lvm_num.proofs.AmongLemmas.{one_of_take}
use Rattle.lvm_map.proofs.PlacesLemmas.{laid_out}
use Rattle.lvm_kept.specs.Group.{IsOneOf}
use Rattle.lvm_volume_plan.specs.Copies.{with_map, with_copies, first_copies}
use Rattle.lvm_volume_plan.proofs.Parts.{IsPart, all_of, pairs_of, length_of, part_there}
use Rattle.lvm_volume_plan.proofs.CopiesLemmas.Rows.{other, only, same_number, same_name, keeps_pairs}
use Rattle.lvm_volume_plan.proofs.CopiesLemmas.More.{none_past}

-- ---- partitions of the volumes, where one has others

module _ (lv copies : ℕ) (pps : List Pp) where
  all_parts : (P : Pp → Type 0) (rows : List LvRow) → ((r : LvRow) → IsOneOf rows r → r.number ≡ lv → All P r.map → All P pps) → All P (partitions_in rows) → All P (partitions_in (map (other lv copies pps) rows))
  all_parts P [] its all = all
  all_parts P (x ∷ xs) its all = by_test (x.number == lv) refl (all_parts P xs (λ r one. its r (inr one)) (All-right P x.map (partitions_in xs) all))
    where
      own : All P x.map
      own = All-left P x.map (partitions_in xs) all

      rest : List Pp
      rest = partitions_in (map (other lv copies pps) xs)

      by_test : (t : Bool) → (x.number == lv) ≡ t → All P rest → All P ((if t then with_map x copies pps else x).map ++ rest)
      by_test true test more = All-append P pps rest (its x (inl refl) (eqb-true x.number lv test) own) more
      by_test false test more = All-append P x.map rest own more

  pairs_parts : (R : Pp → Pp → Type 0) (rows : List LvRow) → ((r : LvRow) → IsOneOf rows r → r.number ≡ lv → AllPairs R r.map → AllPairs R pps)
      → ((P : Pp → Type 0) (r : LvRow) → IsOneOf rows r → r.number ≡ lv → All P r.map → All P pps) → AllPairs R (partitions_in rows) → AllPairs R (partitions_in (map (other lv copies pps) rows))
  pairs_parts R [] both its pairs = pairs
  pairs_parts R (x ∷ xs) both its pairs = by_test (x.number == lv) refl (pairs_parts R xs (λ r one. both r (inr one)) (λ P r one. its P r (inr one)) (AllPairs-right R x.map (partitions_in xs) pairs))
    where
      own : AllPairs R x.map
      own = AllPairs-left R x.map (partitions_in xs) pairs

      rest : List Pp
      rest = partitions_in (map (other lv copies pps) xs)

      -- each of the others, against all of the first volume
      across : All (λ (y : Pp). All (λ (z : Pp). R z y) x.map) (partitions_in xs)
      across j e lt i d i-lt = subst (R (get_or x.map i d)) (get_or_default (partitions_in xs) j d e lt) (AllPairs-across R x.map (partitions_in xs) pairs i j d i-lt lt)

      by_test : (t : Bool) → (x.number == lv) ≡ t → AllPairs R rest → AllPairs R ((if t then with_map x copies pps else x).map ++ rest)
      by_test true test more = AllPairs-append R pps rest (both x (inl refl) (eqb-true x.number lv test) own) more
          (λ i j e i-lt j-lt. all_parts (λ (y : Pp). All (λ (z : Pp). R z y) pps) xs (λ r one number all. its (λ (y : Pp). All (λ (z : Pp). R z y) pps) r (inr one) number all)
          (λ k d lt. its (λ (z : Pp). R z (get_or (partitions_in xs) k d)) x (inl refl) (eqb-true x.number lv test) (across k d lt)) j e j-lt i e i-lt)
      by_test false test more = AllPairs-append R x.map rest own more
          (λ i j e i-lt j-lt. all_parts (λ (y : Pp). All (λ (z : Pp). R z y) x.map) xs (λ r one number all. its (λ (y : Pp). All (λ (z : Pp). R z y) x.map) r (inr one) number all) across j e j-lt i e i-lt)

-- ---- fewer copies

module _ (d : Descriptor) (lv copies : ℕ) (row : LvRow) (valid : IsValid d) (volume : volume_of d lv ≡ Some row) (fewer : copies < row.copies) where
  abbrev pps : List Pp
  pps = first_copies row copies

  abbrev new : LvRow
  new = with_map row copies pps

  -- of a logical partition
  abbrev front : ℕ → List Pp
  front lp = take copies (copies_of row lp)

  whole : length row.map ≡ row.lps * row.copies
  whole = (laid_out d lv row valid volume).whole

  pub inside : (lp : ℕ) → lp < row.lps → lp * row.copies + row.copies ≤ length row.map
  inside lp lt = let step : suc lp * row.copies ≤ row.lps * row.copies = mul-le-mul_right row.copies lt in omega (arith, step, whole)

  pub all_size : (lp : ℕ) → lp < row.lps → length (copies_of row lp) ≡ row.copies
  all_size lp lt = length-take-le row.copies (drop (lp * row.copies) row.map) (omega (arith, length-drop (lp * row.copies) row.map, inside lp lt))

  size : (lp : ℕ) → lp < row.lps → length (front lp) ≡ copies
  size lp lt = length-take-le copies (copies_of row lp) (omega (arith, all_size lp lt, fewer))

  part : (lp : ℕ) → lp < row.lps → IsPart row.map row.copies 0 lp (front lp)
  part lp lt = record {
    within = omega (arith, size lp lt, fewer);
    inside = inside lp lt;
    at = λ i e i-lt.
        let below : i < copies = omega (arith, i-lt, size lp lt) in
        get_or-take copies (copies_of row lp) i e below
        ∙ get_or-take row.copies (drop (lp * row.copies) row.map) i e (omega (arith, below, fewer))
        ∙ get_or-drop (lp * row.copies) row.map i e
        ∙ ap (λ (m : ℕ). get_or row.map (lp * row.copies + m) e) (let here : i ≡ 0 + i = omega arith in here);
  }

  -- ---- the copies are the first ones

  pub first_are : (lp : ℕ) → lp < row.lps → copies_of new lp ≡ front lp
  first_are lp lt = part_there front copies 0 row.lps lp (λ m low. size m (omega (arith, low))) lt ∙ ap front (let here : 0 + lp ≡ lp = omega arith in here)

  new_whole : length pps ≡ row.lps * copies
  new_whole = length_of front copies 0 row.lps (λ m low. size m (omega (arith, low)))

  pub old_copies : (lp : ℕ) (p : Pp) → IsOneOf (copies_of new lp) p → IsOneOf (copies_of row lp) p
  old_copies lp p one = elim (cases_lt lp row.lps) [
    | inl lt ↦ one_of_take copies (copies_of row lp) p (subst (λ (xs : List Pp). IsOneOf xs p) (first_are lp lt) one)
    | inr past ↦ absurd (none_past new lp p new_whole past one)
  ]

  -- ---- it is valid

  all_first : (P : Pp → Type 0) → All P row.map → All P pps
  all_first P all = all_of row.map row.copies 0 front P (λ k e lt past. all k e lt) 0 row.lps (λ lp lt. part lp (omega (arith, lt)))

  pairs_first : (R : Pp → Pp → Type 0) → AllPairs R row.map → AllPairs R pps
  pairs_first R pairs = pairs_of row.map row.copies 0 front R pairs 0 row.lps (λ lp lt. part lp (omega (arith, lt)))

  pub is_row : (r : LvRow) → IsOneOf d.lvs r → r.number ≡ lv → r ≡ row
  is_row r one its = only lv d.lvs row r valid.volumes.numbers_rise volume one its

  laid : IsLaidOut new
  laid = record {
    whole = new_whole;
    strict = λ lp lt i j e less j-lt.
        let same = first_are lp lt in
        let all = (laid_out d lv row valid volume).strict lp lt in
        let lt-j : j < copies = omega (arith, subst (λ (xs : List Pp). j < length xs) same j-lt, size lp lt) in
        let at-i : get_or (copies_of new lp) i e ≡ get_or (copies_of row lp) i e = ap (λ (xs : List Pp). get_or xs i e) same ∙ get_or-take copies (copies_of row lp) i e (omega (arith, less, lt-j)) in
        let at-j : get_or (copies_of new lp) j e ≡ get_or (copies_of row lp) j e = ap (λ (xs : List Pp). get_or xs j e) same ∙ get_or-take copies (copies_of row lp) j e lt-j in
        λ disks. all i j e less (omega (arith, lt-j, all_size lp lt, fewer)) (ap (λ (p : Pp). p.disk) (sym at-i) ∙ disks ∙ ap (λ (p : Pp). p.disk) at-j);
  }

  pub valid_fewer : 1 ≤ copies → IsValid (with_copies d lv copies pps)
  valid_fewer some = record {
    head = record {
      some_id = valid.head.some_id;
      id = valid.head.id;
      name = valid.head.name;
      size = valid.head.size;
      even = valid.head.even;
      a_member = valid.head.a_member;
      members = valid.head.members;
      volumes = omega (arith, valid.head.volumes, length-map d.lvs (other lv copies pps));
    };
    members = valid.members;
    volumes = record {
      each = All-map (IsVolume d.big) (other lv copies pps) d.lvs (λ k e lt. each_volume (get_or d.lvs k e) (one_at d.lvs k e lt) (valid.volumes.each k e lt));
      numbers_rise = keeps_pairs lv copies pps (λ (a b : LvRow). a.number < b.number) (λ x y less. omega (arith, less, same_number lv copies pps x, same_number lv copies pps y)) d.lvs valid.volumes.numbers_rise;
      names_differ = keeps_pairs lv copies pps (λ (a b : LvRow). a.name ≢ b.name) (λ x y apart same. apart (sym (same_name lv copies pps x) ∙ same ∙ same_name lv copies pps y)) d.lvs valid.volumes.names_differ;
    };
    maps = record {
      places = all_parts lv copies pps (IsPartitionOf d) d.lvs (λ r one its all. all_first (IsPartitionOf d) (subst (λ (x : LvRow). All (IsPartitionOf d) x.map) (is_row r one its) all)) valid.maps.places;
      laid_out = All-map IsLaidOut (other lv copies pps) d.lvs (λ k e lt. each_laid (get_or d.lvs k e) (one_at d.lvs k e lt) (valid.maps.laid_out k e lt));
      used_once = pairs_parts lv copies pps (λ (a b : Pp). a ≢ b) d.lvs (λ r one its pairs. pairs_first (λ (a b : Pp). a ≢ b) (subst (λ (x : LvRow). AllPairs (λ (a b : Pp). a ≢ b) x.map) (is_row r one its) pairs))
          (λ P r one its all. all_first P (subst (λ (x : LvRow). All P x.map) (is_row r one its) all)) valid.maps.used_once;
    };
  }
    where
      each_volume : (r : LvRow) → IsOneOf d.lvs r → IsVolume d.big r → IsVolume d.big (other lv copies pps r)
      each_volume r one old = by_test (r.number == lv) refl
        where
          by_test : (t : Bool) → (r.number == lv) ≡ t → IsVolume d.big (if t then with_map r copies pps else r)
          by_test true test =
              let same = ap (λ (x : LvRow). x.copies) (is_row r one (eqb-true r.number lv test)) in
              record { a_number = old.a_number; number = old.number; a_copy = some; copies = omega (arith, fewer, same, old.copies); a_partition = old.a_partition; partitions = old.partitions; name = old.name }
          by_test false test = old

      each_laid : (r : LvRow) → IsOneOf d.lvs r → IsLaidOut r → IsLaidOut (other lv copies pps r)
      each_laid r one old = by_test (r.number == lv) refl
        where
          by_test : (t : Bool) → (r.number == lv) ≡ t → IsLaidOut (if t then with_map r copies pps else r)
          by_test true test = subst (λ (x : LvRow). IsLaidOut (with_map x copies pps)) (sym (is_row r one (eqb-true r.number lv test))) laid
          by_test false test = old
