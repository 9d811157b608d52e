-- The descriptor with both volumes of a split.
use Rattle.std.proofs.Common.{◌≡◌, ◌≢◌, ◌⊎◌, inl, inr, ⊎_elim, ℕ, ◌+◌, ◌-◌, ◌<◌, Bool, true, false, List, [], ◌∷◌, ◌++◌, length, get_or, map, take, drop, Option, Some, None, refl, sym, ap, subst, ◌∙◌, eq-eqb, arith}
use Rattle.std.specs.Prelude.{◌==◌, find, insert, All, IsTrue, IsSome, if◌then◌else◌}
use Rattle.std.proofs.lemmas.Bool.{cases_eq}
use Rattle.std.proofs.lemmas.List.{get_or-map, length-map, length-append, length-drop, length-take-le, take-append-drop}
use Rattle.std.proofs.lemmas.List.Concat.{flat_map-append}
use Rattle.std.proofs.lemmas.List.Elements.{All-append, All-cons, All-take, All-drop}
use Rattle.lvm_num.specs.declared.place.Pp.{Pp}
use Rattle.lvm_num.specs.declared.descriptor.LvRow.{LvRow}
use Rattle.lvm_num.specs.declared.descriptor.Descriptor.{Descriptor}
use Rattle.lvm_num.specs.Name.{is_name}
use Rattle.lvm_num.specs.Descriptor.{IsVolume, IsPartitionOf, IsLaidOut, IsValid, AreMaps, partitions_in, volume_of, most_volumes}
use Rattle.lvm_num.proofs.Pairs.{All-left, All-right, AllPairs-left, AllPairs-right, AllPairs-append}
use Rattle.lvm_num.proofs.AmongLemmas.{one_of_left, one_of_right, one_of_either}
use Rattle.lvm_map.proofs.FirstFitLemmas.Validity.{with_volumes}
use Rattle.lvm_map.proofs.PlacesLemmas.{volume_at}
use Rattle.lvm_status.proofs.MarkingLemmas.{one_at}
use Rattle.lvm_kept.specs.Group.{IsOneOf}
use Rattle.lvm_core.specs.Looking.{HasNoVolumeNamed}
use Rattle.lvm_volume_plan.specs.declared.new_volume.NewVolume.{NewVolume}
use Rattle.lvm_volume_plan.specs.NewVolume.{IsLowestFree, IsInOrder}
use Rattle.lvm_volume_plan.specs.Copies.{with_copies, first_copies, further_copies}
use Rattle.lvm_volume_plan.specs.CopiesFaults.{AreFewer}
use Rattle.lvm_volume_plan.specs.Split.{kept_row, split_row, with_split}
use Rattle.lvm_volume_plan.proofs.Sublists.{one_insert}
use Rattle.lvm_volume_plan.proofs.passed.Commit.{contains}
use Rattle.lvm_volume_plan.proofs.NewVolumeLemmas.NewDescriptor.{volumes_with, named_with, differs_with}
use Rattle.lvm_volume_plan.proofs.CopiesLemmas.Rows.{find_others, named, one_found, one_other, other, own_row, same_name, same_number}
use Rattle.lvm_volume_plan.proofs.CopiesLemmas.Fewer.{valid_fewer}
use Rattle.lvm_volume_plan.proofs.SplitLemmas.Behind.{AreApart, not_both, one_volume_has, places, once, not_first, of_row, laid}

-- ---- one map more

-- what none of the others has may stand among them
module _ (front mid back : List Pp) (once_all : AreApart (front ++ back)) (own : AreApart mid) (apart : (p : Pp) → IsOneOf (front ++ back) p → IsOneOf mid p → ⊥) where
  among : AreApart (front ++ (mid ++ back))
  among = AllPairs-append (λ (a b : Pp). a ≢ b) front (mid ++ back) (AllPairs-left (λ (a b : Pp). a ≢ b) front back once_all)
      (AllPairs-append (λ (a b : Pp). a ≢ b) mid back own (AllPairs-right (λ (a b : Pp). a ≢ b) front back once_all)
      (λ i j e i-lt j-lt same. apart (get_or back j e) (one_of_right front back (get_or back j e) (one_at back j e j-lt)) (subst (λ (p : Pp). IsOneOf mid p) same (one_at mid i e i-lt))))
      (λ i j e i-lt j-lt same. before (get_or front i e) (one_at front i e i-lt) (subst (λ (p : Pp). IsOneOf (mid ++ back) p) (sym same) (one_at (mid ++ back) j e j-lt)))
    where
      before : (p : Pp) → IsOneOf front p → IsOneOf (mid ++ back) p → ⊥
      before p here there = ⊎_elim
          (λ (its : IsOneOf mid p). apart p (one_of_left front back p here) its)
          (λ (behind : IsOneOf back p). not_both front back p once_all here behind)
          (one_of_either mid back p there)

-- a partition of volumes is one of a volume
of_volume : (rows : List LvRow) (p : Pp) → IsOneOf (partitions_in rows) p → (row : LvRow) × IsOneOf rows row × IsOneOf row.map p
of_volume [] p one = absurd one
of_volume (r ∷ rows) p one = ⊎_elim
    (λ (here : IsOneOf r.map p). (r, inl refl, here))
    (λ (there : IsOneOf (partitions_in rows) p). let it = of_volume rows p there in (it.0, inr it.1, it.2))
    (one_of_either r.map (partitions_in rows) p one)

-- ---- both volumes

module _ (d : Descriptor) (copies number : ℕ) (name : List ℕ) (row : LvRow) (valid : IsValid d) (volume : volume_of d row.number ≡ Some row) (are : AreFewer row copies)
    (lowest : IsLowestFree d number) (order : IsInOrder d number) where
  abbrev stays : LvRow
  stays = kept_row row copies

  abbrev new : LvRow
  new = split_row row copies number name

  abbrev asked : NewVolume
  asked = record { name = name; copies = row.copies - copies; mode = row.mode; policy = row.policy; lps = row.lps }

  -- the group in which the volume keeps the first ones alone
  abbrev first : Descriptor
  first = with_copies d row.number copies (first_copies row copies)

  abbrev change : LvRow → LvRow
  change = other row.number copies (first_copies row copies)

  first_valid : IsValid first
  first_valid = valid_fewer d row.number copies row valid volume are.fewer are.some

  its_row : IsOneOf d.lvs row
  its_row = one_found row.number d.lvs row volume

  some_row : (o : Option LvRow) → o ≡ Some row → o ≡ None → ⊥
  some_row None some none = absurd cc
  some_row (Some r) some none = absurd cc

  pub apart : row.number ≡ number → ⊥
  apart same = some_row (volume_of d row.number) volume (ap (volume_of d) same ∙ lowest.free)

  some_of : (o : Option LvRow) → o ≡ Some stays → IsSome o
  some_of None is = absurd cc
  some_of (Some r) is = refl

  first_lowest : IsLowestFree first number
  first_lowest = record {
    least = lowest.least;
    free = find_others row.number copies (first_copies row copies) d.lvs number (λ same. apart (sym same)) ∙ lowest.free;
    lower = λ n least below. elim (cases_eq n row.number) [
      | inl same ↦ some_of (volume_of first n) (ap (volume_of first) same ∙ named row.number copies (first_copies row copies) d.lvs row volume)
      | inr differs_ ↦ subst IsSome (sym (find_others row.number copies (first_copies row copies) d.lvs n differs_)) (lowest.lower n least below)
    ];
  }

  size : length first.lvs ≡ length d.lvs
  size = length-map d.lvs change

  number_at : (k : ℕ) (e : LvRow) → k < length d.lvs → (get_or first.lvs k e).number ≡ (get_or d.lvs k e).number
  number_at k e lt = ap (λ (r : LvRow). r.number) (get_or-map change d.lvs k e e lt) ∙ same_number row.number copies (first_copies row copies) (get_or d.lvs k e)

  first_order : IsInOrder first number
  first_order = record {
    within = omega (arith, order.within, size);
    before = λ k e lt. let at = number_at k e (omega (arith, lt, order.within)) in let own = order.before k e lt in omega (arith, at, own);
    behind = λ k e past lt. let at = number_at k e (omega (arith, lt, size)) in let own = order.behind k e past (omega (arith, lt, size)) in omega (arith, at, own);
  }

  -- ---- which rows there are

  -- a row is one that was, or one of the two
  pub rows_are : (r : LvRow) → IsOneOf (with_split d row copies number name).lvs r → (IsOneOf d.lvs r × ((r.number ≡ row.number → ⊥) × (r.number ≡ number → ⊥))) ⊎ (r ≡ stays) ⊎ (r ≡ new)
  rows_are r one = ⊎_elim
      (λ (its : r ≡ new). inr (inr its))
      (λ (old : IsOneOf first.lvs r). elim (cases_eq r.number row.number) [
        | inl same ↦ inr (inl (own_row row.number copies (first_copies row copies) d.lvs row r valid.volumes.numbers_rise volume old same))
        | inr differs_ ↦
            let was = one_other row.number copies (first_copies row copies) d.lvs r old differs_ in
            inl (was, (differs_, λ same. not_free d.lvs r was same lowest.free))
      ])
      (one_insert first.lvs (number - 1) new r one)
    where
      not_free : (rows : List LvRow) (r : LvRow) → IsOneOf rows r → r.number ≡ number → find (λ (x : LvRow). x.number == number) rows ≡ None → ⊥
      not_free [] r is its none = is
      not_free (x ∷ rows) r is its none = by_test (x.number == number) refl (not_free rows r) is none
        where
          by_test : (t : Bool) → (x.number == number) ≡ t → (IsOneOf rows r → r.number ≡ number → find (λ (y : LvRow). y.number == number) rows ≡ None → ⊥)
              → IsOneOf (x ∷ rows) r → (if t then Some x else find (λ (y : LvRow). y.number == number) rows) ≡ None → ⊥
          by_test true test rest is none = absurd cc
          by_test false test rest (inl here) none = let no : false ≡ true = sym test ∙ eq-eqb x.number number (ap (λ (y : LvRow). y.number) (sym here) ∙ its) in cc no
          by_test false test rest (inr there) none = rest there its none

  -- ---- what is found by number

  pub stays_found : volume_of (with_split d row copies number name) row.number ≡ Some stays
  stays_found = (differs_with first asked number (further_copies row copies) first_valid first_lowest first_order).volumes row.number apart ∙ named row.number copies (first_copies row copies) d.lvs row volume

  pub new_found : volume_of (with_split d row copies number name) number ≡ Some new
  new_found = named_with first asked number (further_copies row copies) first_valid first_lowest first_order

  pub others_found : (n : ℕ) → (n ≡ row.number → ⊥) → (n ≡ number → ⊥) → volume_of (with_split d row copies number name) n ≡ volume_of d n
  others_found n not_old not_new = (differs_with first asked number (further_copies row copies) first_valid first_lowest first_order).volumes n not_new ∙ find_others row.number copies (first_copies row copies) d.lvs n not_old

  -- ---- it is valid

  -- no other volume has the copies behind the first ones
  free : (p : Pp) → IsOneOf (partitions_in first.lvs) p → IsOneOf (further_copies row copies) p → ⊥
  free p used goes =
      let it = of_volume first.lvs p used in
      elim (cases_eq it.0.number row.number) [
        | inl same ↦
            let is = own_row row.number copies (first_copies row copies) d.lvs row it.0 valid.volumes.numbers_rise volume it.1 same in
            not_first d copies row valid volume are.fewer p (subst (λ (r : LvRow). IsOneOf r.map p) is it.2) goes
        | inr differs_ ↦
            let was = one_other row.number copies (first_copies row copies) d.lvs it.0 it.1 differs_ in
            let is = one_volume_has d.lvs it.0 row p valid.maps.used_once was its_row it.2 (of_row d copies row valid volume are.fewer p goes) in
            absurd (differs_ (ap (λ (r : LvRow). r.number) is))
      ]

  module _ (is_name_ : IsTrue (is_name name)) (new_name : HasNoVolumeNamed d.lvs name) (fewer : length d.lvs < most_volumes d.big) where
    other_names : All (λ (r : LvRow). r.name ≢ name) first.lvs
    other_names k e lt same =
        let within : k < length d.lvs = omega (arith, lt, size) in
        let old = get_or d.lvs k e in
        new_name old (contains d.lvs old (one_at d.lvs k e within))
        (sym (ap (λ (r : LvRow). r.name) (get_or-map change d.lvs k e e within) ∙ same_name row.number copies (first_copies row copies) old) ∙ same)

    abbrev front : List LvRow
    front = take (number - 1) first.lvs

    abbrev back : List LvRow
    back = drop (number - 1) first.lvs

    halves : front ++ back ≡ first.lvs
    halves = take-append-drop (number - 1) first.lvs

    used : partitions_in first.lvs ≡ partitions_in front ++ partitions_in back
    used = ap partitions_in (sym halves) ∙ flat_map-append (λ (r : LvRow). r.map) front back

    all : partitions_in (front ++ new ∷ back) ≡ partitions_in front ++ (new.map ++ partitions_in back)
    all = flat_map-append (λ (r : LvRow). r.map) front (new ∷ back)

    at_places : All (IsPartitionOf d) (partitions_in front ++ (new.map ++ partitions_in back))
    at_places =
        let old : All (IsPartitionOf d) (partitions_in front ++ partitions_in back) = subst (All (IsPartitionOf d)) used first_valid.maps.places in
        All-append (IsPartitionOf d) (partitions_in front) (new.map ++ partitions_in back) (left old)
        (All-append (IsPartitionOf d) new.map (partitions_in back) (places d copies row valid volume are.fewer) (right old))
      where
        left : All (IsPartitionOf d) (partitions_in front ++ partitions_in back) → All (IsPartitionOf d) (partitions_in front)
        left old = All-left (IsPartitionOf d) (partitions_in front) (partitions_in back) old

        right : All (IsPartitionOf d) (partitions_in front ++ partitions_in back) → All (IsPartitionOf d) (partitions_in back)
        right old = All-right (IsPartitionOf d) (partitions_in front) (partitions_in back) old

    maps : AreMaps (with_split d row copies number name)
    maps = record {
      places = subst (All (IsPartitionOf d)) (sym all) at_places;
      laid_out = All-append IsLaidOut front (new ∷ back) (All-take IsLaidOut (number - 1) first.lvs first_valid.maps.laid_out)
          (All-cons IsLaidOut new back (laid d copies row valid volume are.fewer number name) (All-drop IsLaidOut (number - 1) first.lvs first_valid.maps.laid_out));
      used_once = subst AreApart (sym all) (among (partitions_in front) new.map (partitions_in back) (subst AreApart used first_valid.maps.used_once) (once d copies row valid volume are.fewer)
          (λ p old goes. free p (subst (λ (xs : List Pp). IsOneOf xs p) (sym used) old) goes));
    }

    pub valid_split : IsValid (with_split d row copies number name)
    valid_split =
        let at = volume_at d row.number row volume in
        let own = subst (λ (r : LvRow). IsVolume d.big r) (at.there row) (valid.volumes.each at.place row at.within) in
        let few = length-take-le (number - 1) first.lvs (omega (arith, first_order.within)) in
        let rest = length-drop (number - 1) first.lvs in
        let long = length-append front (new ∷ back) in
        with_volumes first (insert first.lvs (number - 1) new) first_valid
        (volumes_with first asked number (further_copies row copies) first_valid first_lowest first_order is_name_ other_names (omega (arith, are.fewer), omega (arith, own.copies)) own.a_partition own.partitions (omega (arith, fewer, size)))
        (omega (arith, long, few, rest, fewer, size, first_order.within))
        maps
