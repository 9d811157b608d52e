-- The descriptor in which a copy stands on another partition is valid.
use Rattle.std.proofs.Common.{◌≡◌, ◌≢◌, ◌⊎◌, inl, inr, ℕ, suc, ◌+◌, ◌-◌, ◌*◌, ◌<◌, ◌≤◌, Bool, true, false, ◌&&◌, List, [], ◌∷◌, ◌++◌, length, get_or, set, take, drop, Some, slice_get, map, refl, sym, ap, subst, ◌∙◌, arith}
use Rattle.std.specs.Prelude.{◌==◌, All, AllPairs, find, if◌then◌else◌}
use Rattle.std.specs.List.{list_any}
use Rattle.std.proofs.lemmas.Bool.{and_from, cases_eq, cases_lt, eq-eqb, eqb-true, false≢true}
use Rattle.std.proofs.lemmas.Option.{slice_get-get_or}
use Rattle.std.proofs.lemmas.List.{get_or-take, get_or-drop, get_or-map, get_or-set_same, get_or-set_other, length-append, length-drop, length-map, length-set, length-take, set-append_left, set-append_right}
use Rattle.std.proofs.lemmas.List.Elements.{All-map, All-set}
use Rattle.std.proofs.lemmas.List.Folds.{list_any_at}
use Rattle.std.proofs.Math.Nat.{mul-le-mul_right}
use Rattle.lvm_num.specs.declared.place.Pp.{Pp}
use Rattle.lvm_num.specs.declared.descriptor.LvRow.{LvRow}
use Rattle.lvm_num.specs.declared.descriptor.Descriptor.{Descriptor}
use Rattle.lvm_num.specs.Descriptor.{AreMaps, AreVolumes, IsLaidOut, IsPartitionOf, IsValid, IsVolume, copies_of, is_pp, partitions_in, partitions_used}
use Rattle.lvm_num.proofs.Lists.{pairs_head, pairs_tail}
use Rattle.lvm_num.proofs.MarksLemmas.Maps.{find-Some}
use Rattle.lvm_moved.specs.Laws.{MovedIsValid}
use Rattle.lvm_moved.specs.Moved.{MayStandOn, moved_descriptor, moved_row, place_in_map, with_copy_on}

-- ---- one element of a list is another

-- each before it fits it, and it fits each behind it
pub pairs_set : {X : Type 0} (R : X → X → Type 0) (xs : List X) (k : ℕ) (new : X) → k < length xs → ((i : ℕ) (e : X) → i < k → R (get_or xs i e) new)
    → ((j : ℕ) (e : X) → k < j → j < length xs → R new (get_or xs j e)) → AllPairs R xs → AllPairs R (set xs k new)
pairs_set {X} R xs k new lt before behind all i j e less j-lt =
    let inside : j < length xs = omega (arith, length-set xs k new) in
    elim (cases_eq i k) [
      | inl i-is ↦
          let other : j ≢ k = omega arith in
          let j-same = get_or-set_other xs k j new e other in
          let i-new : get_or (set xs k new) i e ≡ new = ap (λ n. get_or (set xs k new) n e) i-is ∙ get_or-set_same xs k new e lt in
          subst (λ (x : X). R x (get_or (set xs k new) j e)) (sym i-new) (subst (λ (y : X). R new y) (sym j-same) (behind j e (omega arith) inside))
      | inr i-not ↦
          let i-same = get_or-set_other xs k i new e i-not in
          elim (cases_eq j k) [
            | inl j-is ↦
                let j-new : get_or (set xs k new) j e ≡ new = ap (λ n. get_or (set xs k new) n e) j-is ∙ get_or-set_same xs k new e lt in
                subst (λ (x : X). R x (get_or (set xs k new) j e)) (sym i-same) (subst (λ (y : X). R (get_or xs i e) y) (sym j-new) (before i e (omega arith)))
            | inr j-not ↦
                let j-same = get_or-set_other xs k j new e j-not in
                subst (λ (x : X). R x (get_or (set xs k new) j e)) (sym i-same) (subst (λ (y : X). R (get_or xs i e) y) (sym j-same) (all i j e less inside))
          ]
    ]

-- what a map keeps of each element, and of each pair
pub pairs_mapped : {X : Type 0} (R : X → X → Type 0) (f : X → X) → ((x y : X) → R x y → R (f x) (f y)) → (xs : List X) → AllPairs R xs → AllPairs R (map f xs)
pairs_mapped {X} R f keeps xs all i j e less lt =
    let inside : j < length xs = omega (arith, length-map xs f) in
    let at : (k : ℕ) → k < length xs → get_or (map f xs) k e ≡ f (get_or xs k e) = λ k k-lt. get_or-map f xs k e e k-lt in
    subst (λ (x : X). R x (get_or (map f xs) j e)) (sym (at i (omega arith))) (subst (λ (y : X). R (f (get_or xs i e)) y) (sym (at j inside)) (keeps (get_or xs i e) (get_or xs j e) (all i j e less inside)))

-- ---- the volume

module _ (lv lp number : ℕ) (to : Pp) where
  same_number : (row : LvRow) → (moved_row lv lp number to row).number ≡ row.number
  same_number row = by (row.number == lv)
    where
      by : (t : Bool) → (if t then with_copy_on row lp number to else row).number ≡ row.number
      by true = refl
      by false = refl

  same_name : (row : LvRow) → (moved_row lv lp number to row).name ≡ row.name
  same_name row = by (row.number == lv)
    where
      by : (t : Bool) → (if t then with_copy_on row lp number to else row).name ≡ row.name
      by true = refl
      by false = refl

  still_volume : (big : Bool) (row : LvRow) → IsVolume big row → IsVolume big (moved_row lv lp number to row)
  still_volume big row it = by (row.number == lv)
    where
      by : (t : Bool) → IsVolume big (if t then with_copy_on row lp number to else row)
      by true = record { a_number = it.a_number; number = it.number; a_copy = it.a_copy; copies = it.copies; a_partition = it.a_partition; partitions = it.partitions; name = it.name }
      by false = it

-- the place is inside the map
pub place_inside : (row : LvRow) (lp number : ℕ) → IsLaidOut row → lp < row.lps → 1 ≤ number → number ≤ row.copies → place_in_map row lp number < length row.map
place_inside row lp number laid within some copy = let step : suc lp * row.copies ≤ row.lps * row.copies = mul-le-mul_right row.copies within in omega (arith, step, laid.whole)

module _ (row : LvRow) (lp number : ℕ) (to : Pp) (laid : IsLaidOut row) (within : lp < row.lps) (some : 1 ≤ number) (copy : number ≤ row.copies)
    (apart : (k : ℕ) (p : Pp) → slice_get (copies_of row lp) k ≡ Some p → k ≢ number - 1 → p.disk ≢ to.disk) where
  abbrev new : LvRow
  new = with_copy_on row lp number to

  inside : place_in_map row lp number < length row.map
  inside = place_inside row lp number laid within some copy

  -- a copy of a logical partition, in any map
  at : (pps : List Pp) (m k : ℕ) (e : Pp) → k < row.copies → get_or (take row.copies (drop (m * row.copies) pps)) k e ≡ get_or pps (m * row.copies + k) e
  at pps m k e k-lt = get_or-take row.copies (drop (m * row.copies) pps) k e k-lt ∙ get_or-drop (m * row.copies) pps k e

  -- all but the one are as they were
  same_at : (m k : ℕ) (e : Pp) → k < row.copies → m * row.copies + k ≢ place_in_map row lp number → get_or (copies_of new m) k e ≡ get_or (copies_of row m) k e
  same_at m k e k-lt other = at new.map m k e k-lt ∙ get_or-set_other row.map (place_in_map row lp number) (m * row.copies + k) to e other ∙ sym (at row.map m k e k-lt)

  -- those of another logical partition stand elsewhere in the map
  elsewhere : (m k : ℕ) → k < row.copies → m ≢ lp → m * row.copies + k ≢ place_in_map row lp number
  elsewhere m k k-lt other = elim (cases_lt m lp) [
    | inl below ↦ let step : suc m * row.copies ≤ lp * row.copies = mul-le-mul_right row.copies below in omega (arith, step)
    | inr above ↦ let past : lp < m = omega (arith, above, other) in let step : suc lp * row.copies ≤ m * row.copies = mul-le-mul_right row.copies past in omega (arith, step, some, copy)
  ]

  size : (m : ℕ) → length (copies_of new m) ≤ row.copies
  size m = omega (arith, length-take row.copies (drop (m * row.copies) new.map))

  as_long : (m : ℕ) → length (copies_of new m) ≡ length (copies_of row m)
  as_long m =
      omega (
        arith,
        length-take row.copies (drop (m * row.copies) new.map),
        length-take row.copies (drop (m * row.copies) row.map),
        length-drop (m * row.copies) new.map,
        length-drop (m * row.copies) row.map,
        length-set row.map (place_in_map row lp number) to,
      )

  -- the new one, and the others of its logical partition
  the_new : (k : ℕ) (e : Pp) → k ≡ number - 1 → get_or (copies_of new lp) k e ≡ to
  the_new k e is =
      let here : lp * row.copies + k ≡ place_in_map row lp number = omega (arith, is) in
      at new.map lp k e (omega (arith, is, some, copy)) ∙ ap (λ (n : ℕ). get_or new.map n e) here ∙ get_or-set_same row.map (place_in_map row lp number) to e inside

  others : (k : ℕ) (e : Pp) → k < length (copies_of row lp) → k ≢ number - 1 → (get_or (copies_of row lp) k e).disk ≢ to.disk
  others k e k-lt other = apart k (get_or (copies_of row lp) k e) (slice_get-get_or (copies_of row lp) k e k-lt) other

  strict_own : AllPairs (λ (a b : Pp). a.disk ≢ b.disk) (copies_of new lp)
  strict_own i j e less j-lt disks =
      let j-in : j < row.copies = omega (arith, j-lt, size lp) in
      let j-old : j < length (copies_of row lp) = omega (arith, j-lt, as_long lp) in
      elim (cases_eq i (number - 1)) [
        | inl i-is ↦
            let j-not : j ≢ number - 1 = omega (arith, less, i-is) in
            others j e j-old j-not (ap (λ (p : Pp). p.disk) (sym (same_at lp j e j-in (omega (arith, j-not)))) ∙ sym disks ∙ ap (λ (p : Pp). p.disk) (the_new i e i-is))
        | inr i-not ↦
            let i-same = same_at lp i e (omega (arith, less, j-in)) (omega (arith, i-not)) in
            elim (cases_eq j (number - 1)) [
              | inl j-is ↦ others i e (omega (arith, less, j-old)) i-not (ap (λ (p : Pp). p.disk) (sym i-same) ∙ disks ∙ ap (λ (p : Pp). p.disk) (the_new j e j-is))
              | inr j-not ↦ laid.strict lp within i j e less j-old (ap (λ (p : Pp). p.disk) (sym i-same) ∙ disks ∙ ap (λ (p : Pp). p.disk) (same_at lp j e j-in (omega (arith, j-not))))
            ]
      ]

  strict_other : (m : ℕ) → m < row.lps → m ≢ lp → AllPairs (λ (a b : Pp). a.disk ≢ b.disk) (copies_of new m)
  strict_other m m-lt other i j e less j-lt disks =
      let j-in : j < row.copies = omega (arith, j-lt, size m) in
      let i-in : i < row.copies = omega (arith, less, j-in) in
      laid.strict m m-lt i j e less (omega (arith, j-lt, as_long m))
      (ap (λ (p : Pp). p.disk) (sym (same_at m i e i-in (elsewhere m i i-in other))) ∙ disks ∙ ap (λ (p : Pp). p.disk) (same_at m j e j-in (elsewhere m j j-in other)))

  pub stays_laid : IsLaidOut new
  stays_laid = record {
    whole = length-set row.map (place_in_map row lp number) to ∙ laid.whole;
    strict = λ m m-lt. elim (cases_eq m lp) [
      | inl own ↦ subst (λ (n : ℕ). AllPairs (λ (a b : Pp). a.disk ≢ b.disk) (copies_of new n)) (sym own) strict_own
      | inr other ↦ strict_other m m-lt other
    ];
  }

-- ---- the partitions of all volumes

-- one of these is another
record IsSetIn (old new : List Pp) (to : Pp) : Type 0 where
  place : ℕ
  within : place < length old
  is : new ≡ set old place to

module _ (lv lp number : ℕ) (to : Pp) where
  same_rows : (rows : List LvRow) → All (λ (r : LvRow). lv < r.number) rows → map (moved_row lv lp number to) rows ≡ rows
  same_rows [] above = refl
  same_rows (x ∷ xs) above = by (x.number == lv) refl (same_rows xs (λ k e lt. above (suc k) e (omega (arith, lt))))
    where
      by : (t : Bool) → (x.number == lv) ≡ t → map (moved_row lv lp number to) xs ≡ xs → (if t then with_copy_on x lp number to else x) ∷ map (moved_row lv lp number to) xs ≡ x ∷ xs
      by true is rest = let less : lv < x.number = above 0 x (omega arith) in let same = eqb-true x.number lv is in absurd (omega (arith, less, same))
      by false is rest = ap (λ (l : List LvRow). x ∷ l) rest

  used_as : (rows : List LvRow) (row : LvRow) → AllPairs (λ (a b : LvRow). a.number < b.number) rows → find (λ (r : LvRow). r.number == lv) rows ≡ Some row
      → place_in_map row lp number < length row.map → IsSetIn (partitions_in rows) (partitions_in (map (moved_row lv lp number to) rows)) to
  used_as [] row rise found lt = absurd (cc found)
  used_as (x ∷ xs) row rise found lt = by (x.number == lv) refl (λ is. used_as xs row (pairs_tail (λ (a b : LvRow). a.number < b.number) x xs rise) is lt) found
    where
      rest_of : List Pp
      rest_of = partitions_in xs

      above : x.number ≡ lv → All (λ (r : LvRow). lv < r.number) xs
      above same k e k-lt = let less = pairs_head (λ (a b : LvRow). a.number < b.number) x xs rise k e k-lt in omega (arith, less, same)

      by : (t : Bool) → (x.number == lv) ≡ t → (find (λ (r : LvRow). r.number == lv) xs ≡ Some row → IsSetIn rest_of (partitions_in (map (moved_row lv lp number to) xs)) to)
          → (if t then Some x else find (λ (r : LvRow). r.number == lv) xs) ≡ Some row
          → IsSetIn (x.map ++ rest_of) ((if t then with_copy_on x lp number to else x).map ++ partitions_in (map (moved_row lv lp number to) xs)) to
      by true is rest it =
          let same : x ≡ row = cc it in
          let inside : place_in_map x lp number < length x.map = subst (λ (r : LvRow). place_in_map r lp number < length r.map) (sym same) lt in
          record {
            place = place_in_map x lp number;
            within = omega (arith, inside, length-append x.map rest_of);
            is = ap (λ (rows : List LvRow). set x.map (place_in_map x lp number) to ++ partitions_in rows) (same_rows xs (above (eqb-true x.number lv is)))
                ∙ sym (set-append_left x.map rest_of (place_in_map x lp number) to inside);
          }
      by false is rest it =
          let set_in = rest it in
          let here : length x.map + set_in.place - length x.map ≡ set_in.place = omega arith in
          record {
            place = length x.map + set_in.place;
            within = omega (arith, set_in.within, length-append x.map rest_of);
            is = ap (λ (l : List Pp). x.map ++ l) (set_in.is ∙ ap (λ (n : ℕ). set rest_of n to) (sym here))
                ∙ sym (set-append_right x.map rest_of (length x.map) (length x.map + set_in.place) to refl (omega arith));
          }

-- ---- the group

-- none of these is the partition
none_is : (pps : List Pp) (to : Pp) → list_any (is_pp to) pps ≡ false → (k : ℕ) (e : Pp) → k < length pps → get_or pps k e ≢ to
none_is pps to free k e lt same =
    let yes : is_pp to (get_or pps k e) ≡ true =
    and_from (to.disk == (get_or pps k e).disk) (to.pp == (get_or pps k e).pp) (eq-eqb to.disk (get_or pps k e).disk (ap (λ (p : Pp). p.disk) (sym same))) (eq-eqb to.pp (get_or pps k e).pp (ap (λ (p : Pp). p.pp) (sym same))) in
    false≢true (sym free ∙ list_any_at (is_pp to) pps k e lt yes)

module _ (d : Descriptor) (lv lp number : ℕ) (to : Pp) (valid : IsValid d) (it : MayStandOn d lv lp number to) where
  abbrev next : Descriptor
  next = moved_descriptor d lv lp number to

  abbrev rows : List LvRow
  rows = map (moved_row lv lp number to) d.lvs

  found : ((it.row.number == lv) ≡ true) × ((k : ℕ) × (k < length d.lvs) × ((e : LvRow) → get_or d.lvs k e ≡ it.row))
  found = find-Some (λ (r : LvRow). r.number == lv) d.lvs it.row it.volume

  laid : IsLaidOut it.row
  laid = subst IsLaidOut (found.1.2 it.row) (valid.maps.laid_out found.1.0 it.row found.1.1)

  used : IsSetIn (partitions_used d) (partitions_in rows) to
  used = used_as lv lp number to d.lvs it.row valid.volumes.numbers_rise it.volume (place_inside it.row lp number laid it.within it.some it.copy)

  -- of this number there is one volume
  is_row : (k : ℕ) (e : LvRow) → k < length d.lvs → (get_or d.lvs k e).number ≡ lv → get_or d.lvs k e ≡ it.row
  is_row k e lt its = elim (cases_eq k found.1.0) [
    | inl same ↦ ap (λ (n : ℕ). get_or d.lvs n e) same ∙ found.1.2 e
    | inr other ↦
        let number_is : it.row.number ≡ lv = eqb-true it.row.number lv found.0 in
        let there = ap (λ (r : LvRow). r.number) (found.1.2 e) in
        elim (cases_lt k found.1.0) [
          | inl below ↦ let less = valid.volumes.numbers_rise k found.1.0 e below found.1.1 in absurd (omega (arith, less, there, number_is, its))
          | inr past ↦ let less = valid.volumes.numbers_rise found.1.0 k e (omega (arith, past, other)) lt in absurd (omega (arith, less, there, number_is, its))
        ]
  ]

  each_laid : (k : ℕ) (e : LvRow) → k < length d.lvs → IsLaidOut (moved_row lv lp number to (get_or d.lvs k e))
  each_laid k e lt = by ((get_or d.lvs k e).number == lv) refl
    where
      by : (t : Bool) → ((get_or d.lvs k e).number == lv) ≡ t → IsLaidOut (if t then with_copy_on (get_or d.lvs k e) lp number to else get_or d.lvs k e)
      by true is = subst (λ (r : LvRow). IsLaidOut (with_copy_on r lp number to)) (sym (is_row k e lt (eqb-true (get_or d.lvs k e).number lv is))) (stays_laid it.row lp number to laid it.within it.some it.copy it.apart)
      by false is = valid.maps.laid_out k e lt

  maps : AreMaps next
  maps = record {
    places = subst (All (IsPartitionOf d)) (sym used.is) (All-set (IsPartitionOf d) (partitions_used d) used.place to it.inside valid.maps.places);
    laid_out = All-map IsLaidOut (moved_row lv lp number to) d.lvs each_laid;
    used_once = subst (AllPairs (λ (a b : Pp). a ≢ b)) (sym used.is)
        (pairs_set (λ (a b : Pp). a ≢ b) (partitions_used d) used.place to used.within (λ i e lt. none_is (partitions_used d) to it.free i e (omega (arith, lt, used.within)))
        (λ j e less lt same. none_is (partitions_used d) to it.free j e lt (sym same)) valid.maps.used_once);
  }

  volumes : AreVolumes d.big rows
  volumes = record {
    each = All-map (IsVolume d.big) (moved_row lv lp number to) d.lvs (λ k e lt. still_volume lv lp number to d.big (get_or d.lvs k e) (valid.volumes.each k e lt));
    numbers_rise = pairs_mapped (λ (a b : LvRow). a.number < b.number) (moved_row lv lp number to) (λ x y less. omega (arith, less, same_number lv lp number to x, same_number lv lp number to y)) d.lvs valid.volumes.numbers_rise;
    names_differ = pairs_mapped (λ (a b : LvRow). a.name ≢ b.name) (moved_row lv lp number to) (λ x y apart same. apart (sym (same_name lv lp number to x) ∙ same ∙ same_name lv lp number to y)) d.lvs valid.volumes.names_differ;
  }

  moved_valid : IsValid next
  moved_valid = record {
    head = record {
      some_id = valid.head.some_id;
      id = valid.head.id;
      name = valid.head.name;
      size = valid.head.size;
      even = valid.head.even;
      a_member = valid.head.a_member;
      members = valid.head.members;
      volumes = omega (arith, valid.head.volumes, length-map d.lvs (moved_row lv lp number to));
    };
    members = valid.members;
    volumes = volumes;
    maps = maps;
  }

pub moved_is_valid : MovedIsValid
moved_is_valid d lv lp number to valid it = moved_valid d lv lp number to valid it

-- the place is inside the map of each volume of the number
pub inside_each : (d : Descriptor) (lv lp number : ℕ) (to : Pp) → IsValid d → MayStandOn d lv lp number to → All (λ (row : LvRow). row.number ≡ lv → place_in_map row lp number < length row.map) d.lvs
inside_each d lv lp number to valid it k e lt its =
    subst (λ (r : LvRow). place_in_map r lp number < length r.map) (sym (is_row d lv lp number to valid it k e lt its)) (place_inside it.row lp number (laid d lv lp number to valid it) it.within it.some it.copy)
