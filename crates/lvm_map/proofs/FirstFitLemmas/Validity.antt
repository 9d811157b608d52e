-- The descriptor with what was allocated is valid.
use Rattle.std.proofs.Common.{◌≡◌, ◌≢◌, ◌⊎◌, inl, inr, ℕ, suc, ◌+◌, ◌-◌, ◌*◌, ◌/◌, ◌%◌, ◌<◌, ◌≤◌, true, false, cond, ◌&&◌, ◌||◌, List, ◌∷◌, ◌++◌, length, get_or, set, take, drop, Some, nat_lt, refl, sym, ap, subst, ◌∙◌, arith}
use Rattle.std.specs.Prelude.{◌==◌, All, AllPairs, insert, slice_get}
use Rattle.std.proofs.lemmas.Option.{slice_get_within, slice_get-get_or}
use Rattle.std.proofs.lemmas.Bool.{cases_lt, cases_eq, eq-eqb, false≢true, or_left, or_right}
use Rattle.std.proofs.lemmas.Bool.Decides.{nat_tests}
use Rattle.std.proofs.lemmas.List.{get_or-take, get_or-drop, get_or_append_left, get_or-append_right, get_or-append-add, get_or-set_same, get_or-set_other, length-set, length-append, length-drop, length-take, length-take-le, set-get_or, set_split, take-append-drop, same_lists}
use Rattle.std.proofs.Math.Nat.{mul-le-mul_right}
use Rattle.std.proofs.lemmas.List.Concat.{flat_map-append}
use Rattle.std.proofs.lemmas.List.Elements.{All-append, All-cons, All-take, All-drop, All-set}
use Rattle.std.proofs.lemmas.List.Folds.{list_any-append, list_any_at}
use Rattle.lvm_num.specs.declared.place.Pp.{Pp}
use Rattle.lvm_num.specs.declared.descriptor.LvRow.{LvRow}
use Rattle.lvm_num.specs.declared.descriptor.Descriptor.{Descriptor}
use Rattle.lvm_num.specs.Descriptor.{IsVolume, AreVolumes, IsPartitionOf, IsLaidOut, AreMaps, IsValid, copies_of, most_volumes, partitions_in, partitions_used}
use Rattle.lvm_num.specs.Disks.{Disks}
use Rattle.lvm_num.proofs.Pairs.{All-left, All-right, AllPairs-left, AllPairs-right, AllPairs-across, AllPairs-append}
use Rattle.lvm_map.specs.FirstFit.{is_among, has_partition_on, choices, Asked, kept_next, others_in, IsFirstFit, IsAllocated, new_volume, more_copies}
use Rattle.lvm_map.specs.Laws.{IsNewPlace}
use Rattle.lvm_map.proofs.FirstFitLemmas.FreeLists.{is_pp-same}
use Rattle.lvm_map.proofs.LawsLemmas.NewPlaces.{new_place}
use Rattle.lvm_map.proofs.Parts.{same_parts, parts, whole}

-- ---- among others

among_at : (xs : List Pp) (k : ℕ) (e : Pp) → k < length xs → is_among xs (get_or xs k e) ≡ true
among_at xs k e lt =
    list_any_at (λ (p : Pp). p.disk == (get_or xs k e).disk && p.pp == (get_or xs k e).pp) xs k e lt (is_pp-same (get_or xs k e) (get_or xs k e) refl)

among-append : (xs ys : List Pp) (pp : Pp) → is_among (xs ++ ys) pp ≡ is_among xs pp || is_among ys pp
among-append xs ys pp = list_any-append (λ (p : Pp). p.disk == pp.disk && p.pp == pp.pp) xs ys

-- one that isn't among the others is none of them
none_of : (xs : List Pp) (pp other : Pp) → is_among xs pp ≡ false → is_among xs other ≡ true → pp ≢ other
none_of xs pp other out inside same = false≢true (sym out ∙ ap (is_among xs) same ∙ inside)

-- ---- a map among other maps

-- each of these is new, or one of the old ones
abbrev AreFrom : List Pp → List Pp → List Pp → Type 0
AreFrom used old pps = (k : ℕ) (e : Pp) → k < length pps → (is_among used (get_or pps k e) ≡ false) ⊎ ((j : ℕ) × (j < length old) × (get_or pps k e ≡ get_or old j e))

module _ (front old back pps : List Pp) (once : AllPairs (λ (a b : Pp). a ≢ b) (front ++ (old ++ back))) (own : AllPairs (λ (a b : Pp). a ≢ b) pps)
    (sources : AreFrom (front ++ (old ++ back)) old pps) where
  behind : AllPairs (λ (a b : Pp). a ≢ b) (old ++ back)
  behind = AllPairs-right (λ (a b : Pp). a ≢ b) front (old ++ back) once

  in_back : (j : ℕ) (e : Pp) → j < length back → is_among (front ++ (old ++ back)) (get_or back j e) ≡ true
  in_back j e lt =
      among-append front (old ++ back) (get_or back j e)
      ∙ or_right (is_among front (get_or back j e)) (is_among (old ++ back) (get_or back j e))
      (among-append old back (get_or back j e) ∙ or_right (is_among old (get_or back j e)) (is_among back (get_or back j e)) (among_at back j e lt))

  in_front : (i : ℕ) (e : Pp) → i < length front → is_among (front ++ (old ++ back)) (get_or front i e) ≡ true
  in_front i e lt =
      among-append front (old ++ back) (get_or front i e) ∙ or_left (is_among front (get_or front i e)) (is_among (old ++ back) (get_or front i e)) (among_at front i e lt)

  not_behind : (i j : ℕ) (e : Pp) → i < length pps → j < length back → get_or pps i e ≢ get_or back j e
  not_behind i j e i-lt j-lt = elim (sources i e i-lt) [
    | inl new ↦ none_of (front ++ (old ++ back)) (get_or pps i e) (get_or back j e) new (in_back j e j-lt)
    | inr kept ↦ λ same. AllPairs-across (λ (a b : Pp). a ≢ b) old back behind kept.0 j e kept.1 j-lt (sym kept.2 ∙ same)
  ]

  not_before : (i j : ℕ) (e : Pp) → i < length front → j < length (pps ++ back) → get_or front i e ≢ get_or (pps ++ back) j e
  not_before i j e i-lt j-lt = elim (cases_lt j (length pps)) [
    | inl own_one ↦
        let is : get_or (pps ++ back) j e ≡ get_or pps j e = get_or_append_left pps back e j own_one in
        elim (sources j e own_one) [
          | inl new ↦ λ same. none_of (front ++ (old ++ back)) (get_or pps j e) (get_or front i e) new (in_front i e i-lt) (sym is ∙ sym same)
          | inr kept ↦ λ same.
              AllPairs-across (λ (a b : Pp). a ≢ b) front (old ++ back) once i kept.0 e i-lt (omega (arith, length-append old back, kept.1))
              (same ∙ is ∙ kept.2 ∙ sym (get_or_append_left old back e kept.0 kept.1))
        ]
    | inr past ↦
        let rest = j - length pps in
        let is : get_or (pps ++ back) j e ≡ get_or back rest e = get_or-append_right pps back (length pps) j e refl past in
        λ same.
        AllPairs-across (λ (a b : Pp). a ≢ b) front (old ++ back) once i (length old + rest) e i-lt (omega (arith, length-append old back, length-append pps back))
        (same ∙ is ∙ sym (get_or-append-add old back rest e))
  ]

  joined : AllPairs (λ (a b : Pp). a ≢ b) (front ++ (pps ++ back))
  joined =
      AllPairs-append (λ (a b : Pp). a ≢ b) front (pps ++ back) (AllPairs-left (λ (a b : Pp). a ≢ b) front (old ++ back) once)
      (AllPairs-append (λ (a b : Pp). a ≢ b) pps back own (AllPairs-right (λ (a b : Pp). a ≢ b) old back behind) (λ i j e i-lt j-lt. not_behind i j e i-lt j-lt))
      (λ i j e i-lt j-lt. not_before i j e i-lt j-lt)

-- ---- what was allocated

-- a copy that is kept
record IsKept (asked : Asked) (pps : List Pp) (k : ℕ) : Type 0 where
  within : k / asked.copies * asked.kept + k % asked.copies < length asked.old
  is : (e : Pp) → get_or pps k e ≡ get_or asked.old (k / asked.copies * asked.kept + k % asked.copies) e

kept_place : (d : Descriptor) (usable : Disks) (asked : Asked) (pps : List Pp) (k : ℕ) → IsFirstFit d usable asked pps → k < length pps → k % asked.copies < asked.kept → IsKept asked pps k
kept_place d usable asked pps k fits lt kept =
    let front = take k pps in
    let size : length front ≡ k = length-take-le k pps (omega arith) in
    let below : length front % asked.copies < asked.kept = subst (λ n. n % asked.copies < asked.kept) (sym size) kept in
    let test : nat_lt (length front % asked.copies) asked.kept ≡ true = grind (arith, nat_tests) in
    let j = k / asked.copies * asked.kept + k % asked.copies in
    let next : slice_get asked.old j ≡ slice_get pps k =
    ap (λ n. slice_get asked.old (n / asked.copies * asked.kept + n % asked.copies)) (sym size)
    ∙ ap (λ b. cond b (kept_next asked front) (slice_get (choices d usable (partitions_used d ++ front) (others_in asked front)) 0)) (sym test)
    ∙ fits k lt in
    record {
      within = let e : Pp = record { disk = 0; pp = 0 } in slice_get_within asked.old j (get_or pps k e) (next ∙ slice_get-get_or pps k e lt);
      is = λ e.
          let at = next ∙ slice_get-get_or pps k e lt in
          let own = slice_get-get_or asked.old j e (slice_get_within asked.old j (get_or pps k e) at) in
          cc;
    }

module _ (d : Descriptor) (valid : IsValid d) (usable : Disks) (asked : Asked) (pps : List Pp) (all : IsAllocated d usable asked pps) (front back : List Pp)
    (used : partitions_used d ≡ front ++ (asked.old ++ back)) where
  new : (k : ℕ) (e : Pp) → k < length pps → asked.kept ≤ k % asked.copies → IsNewPlace d usable asked (take k pps) (get_or pps k e)
  new k e lt past = new_place d usable asked pps k (get_or pps k e) valid all.fits (slice_get-get_or pps k e lt) past

  kept : (k : ℕ) → k < length pps → k % asked.copies < asked.kept → IsKept asked pps k
  kept k lt below = kept_place d usable asked pps k all.fits lt below

  all_once : AllPairs (λ (a b : Pp). a ≢ b) (front ++ (asked.old ++ back))
  all_once = subst (AllPairs (λ (a b : Pp). a ≢ b)) used valid.maps.used_once

  old_once : AllPairs (λ (a b : Pp). a ≢ b) asked.old
  old_once = AllPairs-left (λ (a b : Pp). a ≢ b) asked.old back (AllPairs-right (λ (a b : Pp). a ≢ b) front (asked.old ++ back) all_once)

  old_used : (j : ℕ) (e : Pp) → j < length asked.old → is_among (partitions_used d) (get_or asked.old j e) ≡ true
  old_used j e lt =
      let pp = get_or asked.old j e in
      ap (λ (pps : List Pp). is_among pps pp) used
      ∙ among-append front (asked.old ++ back) pp
      ∙ or_right (is_among front pp) (is_among (asked.old ++ back) pp) (among-append asked.old back pp ∙ or_left (is_among asked.old pp) (is_among back pp) (among_at asked.old j e lt))

  pub from_old_or_new : AreFrom (front ++ (asked.old ++ back)) asked.old pps
  from_old_or_new k e lt = elim (cases_lt (k % asked.copies) asked.kept) [
    | inl below ↦ let own = kept k lt below in inr (k / asked.copies * asked.kept + k % asked.copies, own.within, own.is e)
    | inr past ↦ inl (ap (λ (them : List Pp). is_among them (get_or pps k e)) (sym used) ∙ (new k e lt past).free)
  ]

  pub places : All (IsPartitionOf d) pps
  places k e lt = elim (cases_lt (k % asked.copies) asked.kept) [
    | inl below ↦
        let own = kept k lt below in
        let there : All (IsPartitionOf d) (front ++ (asked.old ++ back)) = subst (All (IsPartitionOf d)) used valid.maps.places in
        subst (IsPartitionOf d) (sym (own.is e))
        (All-left (IsPartitionOf d) asked.old back (All-right (IsPartitionOf d) front (asked.old ++ back) there) (k / asked.copies * asked.kept + k % asked.copies) e own.within)
    | inr past ↦ let it = new k e lt past in (it.row, it.member, it.within)
  ]

  same_old : (i j : ℕ) (e : Pp) → i < length asked.old → j < length asked.old → get_or asked.old i e ≡ get_or asked.old j e → i ≡ j
  same_old i j e i-lt j-lt same = elim (cases_lt i j) [
    | inl less ↦ absurd (old_once i j e less j-lt same)
    | inr more ↦ elim (cases_lt j i) [
      | inl greater ↦ absurd (old_once j i e greater i-lt (sym same))
      | inr equal ↦ omega arith
    ]
  ]

  some_copies : (k : ℕ) → k < length pps → 0 < asked.copies
  some_copies k lt = grind (arith, all.whole)

  pub once : AllPairs (λ (a b : Pp). a ≢ b) pps
  once i j e less lt same = elim (cases_lt (j % asked.copies) asked.kept) [
    | inr past ↦
        let it = new j e lt past in
        let size : length (take j pps) ≡ j = length-take-le j pps (omega arith) in
        let is : get_or (take j pps) i e ≡ get_or pps i e = get_or-take j pps i e less in
        let before : is_among (take j pps) (get_or pps i e) ≡ true = ap (is_among (take j pps)) (sym is) ∙ among_at (take j pps) i e (omega arith) in
        none_of (take j pps) (get_or pps j e) (get_or pps i e) it.new before (sym same)
    | inl below ↦
        let later = kept j lt below in
        elim (cases_lt (i % asked.copies) asked.kept) [
          | inr past ↦
              let it = new i e (omega arith) past in
              none_of (partitions_used d) (get_or pps i e) (get_or pps j e) it.free
              (ap (is_among (partitions_used d)) (later.is e) ∙ old_used (j / asked.copies * asked.kept + j % asked.copies) e later.within) same
          | inl early ↦
              let earlier = kept i (omega arith) early in
              let index = same_old (i / asked.copies * asked.kept + i % asked.copies) (j / asked.copies * asked.kept + j % asked.copies) e earlier.within later.within
              (sym (earlier.is e) ∙ same ∙ later.is e) in
              let both = same_parts asked.kept (i / asked.copies) (j / asked.copies) (i % asked.copies) (j % asked.copies) early below index in
              let some = some_copies j lt in
              let i-whole = whole asked.copies i some in
              let j-whole = whole asked.copies j some in
              let product = ap (λ n. n * asked.copies) both.0 in
              absurd (omega (arith, both.1))
        ]
  ]

  -- the copies of a logical partition, one after the other
  module _ (strict : (lp : ℕ) → lp < asked.lps → AllPairs (λ (a b : Pp). a.disk ≢ b.disk) (take asked.kept (drop (lp * asked.kept) asked.old))) where
    pub apart : (lp : ℕ) → lp < asked.lps → AllPairs (λ (a b : Pp). a.disk ≢ b.disk) (take asked.copies (drop (lp * asked.copies) pps))
    apart lp lp-lt a b e less b-lt same =
        let c = asked.copies in
        let rest = length-drop (lp * c) pps in
        let size = length-take c (drop (lp * c) pps) in
        let b-below : b < c = omega arith in
        let a-k = lp * c + a in
        let b-k = lp * c + b in
        let b-in : b-k < length pps = omega arith in
        let a-is : get_or (take c (drop (lp * c) pps)) a e ≡ get_or pps a-k e = get_or-take c (drop (lp * c) pps) a e (omega arith) ∙ get_or-drop (lp * c) pps a e in
        let b-is : get_or (take c (drop (lp * c) pps)) b e ≡ get_or pps b-k e = get_or-take c (drop (lp * c) pps) b e b-below ∙ get_or-drop (lp * c) pps b e in
        let a-parts = parts c a-k lp a (omega arith) refl in
        let b-parts = parts c b-k lp b b-below refl in
        let disks : (get_or pps a-k e).disk ≡ (get_or pps b-k e).disk = ap (λ (p : Pp). p.disk) (sym a-is) ∙ same ∙ ap (λ (p : Pp). p.disk) b-is in
        elim (cases_lt b asked.kept) [
          | inl both ↦
              let a-kept = kept a-k (omega arith) (omega (arith, a-parts.1)) in
              let b-kept = kept b-k b-in (omega (arith, b-parts.1)) in
              let a-at : get_or pps a-k e ≡ get_or asked.old (lp * asked.kept + a) e = a-kept.is e ∙ (λ t. get_or asked.old (a-parts.0 t * asked.kept + a-parts.1 t) e) in
              let b-at : get_or pps b-k e ≡ get_or asked.old (lp * asked.kept + b) e = b-kept.is e ∙ (λ t. get_or asked.old (b-parts.0 t * asked.kept + b-parts.1 t) e) in
              let own = drop (lp * asked.kept) asked.old in
              let a-own : get_or (take asked.kept own) a e ≡ get_or asked.old (lp * asked.kept + a) e = get_or-take asked.kept own a e (omega arith) ∙ get_or-drop (lp * asked.kept) asked.old a e in
              let b-own : get_or (take asked.kept own) b e ≡ get_or asked.old (lp * asked.kept + b) e = get_or-take asked.kept own b e both ∙ get_or-drop (lp * asked.kept) asked.old b e in
              let within : lp * asked.kept + b < length asked.old = subst (λ n. n < length asked.old) (λ t. b-parts.0 t * asked.kept + b-parts.1 t) b-kept.within in
              let own-size = length-take asked.kept own in
              let own-rest = length-drop (lp * asked.kept) asked.old in
              strict lp lp-lt a b e less (omega arith)
              (ap (λ (p : Pp). p.disk) (a-own ∙ sym a-at) ∙ disks ∙ ap (λ (p : Pp). p.disk) (b-at ∙ sym b-own))
          | inr past ↦
              let it = new b-k e b-in (omega (arith, b-parts.1)) in
              let before = take b-k pps in
              let before-size : length before ≡ b-k = length-take-le b-k pps (omega arith) in
              let start : length before - length before % c ≡ lp * c = ap (λ n. n - n % c) before-size ∙ omega (arith, b-parts.1) in
              let others : others_in asked before ≡ drop (lp * c) before = ap (λ n. drop n before) start in
              let a-there : get_or (drop (lp * c) before) a e ≡ get_or pps a-k e = get_or-drop (lp * c) before a e ∙ get_or-take b-k pps a-k e (omega arith) in
              let on : has_partition_on (drop (lp * c) before) (get_or pps b-k e).disk ≡ true =
              list_any_at (λ (p : Pp). p.disk == (get_or pps b-k e).disk) (drop (lp * c) before) a e (omega (arith, length-drop (lp * c) before))
              (eq-eqb (get_or (drop (lp * c) before) a e).disk (get_or pps b-k e).disk (ap (λ (p : Pp). p.disk) a-there ∙ disks)) in
              false≢true (sym it.apart ∙ ap (λ (them : List Pp). has_partition_on them (get_or pps b-k e).disk) others ∙ on)
        ]

-- ---- the maps of all volumes

maps_are : (d : Descriptor) → IsValid d → (usable : Disks) (asked : Asked) (row : LvRow) (front back : List LvRow) → IsAllocated d usable asked row.map
    → partitions_used d ≡ partitions_in front ++ (asked.old ++ partitions_in back) → IsLaidOut row → All IsLaidOut front → All IsLaidOut back
    → AreMaps (record d { lvs = front ++ row ∷ back })
maps_are d valid usable asked row front back all used laid front-laid back-laid =
    let split : partitions_in (front ++ row ∷ back) ≡ partitions_in front ++ (row.map ++ partitions_in back) = flat_map-append (λ (r : LvRow). r.map) front (row ∷ back) in
    let there : All (IsPartitionOf d) (partitions_in front ++ (asked.old ++ partitions_in back)) = subst (All (IsPartitionOf d)) used valid.maps.places in
    let behind = All-right (IsPartitionOf d) (partitions_in front) (asked.old ++ partitions_in back) there in
    record {
      places = subst (All (IsPartitionOf d)) (sym split)
          (All-append (IsPartitionOf d) (partitions_in front) (row.map ++ partitions_in back)
          (All-left (IsPartitionOf d) (partitions_in front) (asked.old ++ partitions_in back) there)
          (All-append (IsPartitionOf d) row.map (partitions_in back)
          (places d valid usable asked row.map all (partitions_in front) (partitions_in back) used)
          (All-right (IsPartitionOf d) asked.old (partitions_in back) behind)));
      laid_out = All-append IsLaidOut front (row ∷ back) front-laid (All-cons IsLaidOut row back laid back-laid);
      used_once = subst (AllPairs (λ (a b : Pp). a ≢ b)) (sym split)
          (joined (partitions_in front) asked.old (partitions_in back) row.map
          (subst (AllPairs (λ (a b : Pp). a ≢ b)) used valid.maps.used_once)
          (once d valid usable asked row.map all (partitions_in front) (partitions_in back) used)
          (from_old_or_new d valid usable asked row.map all (partitions_in front) (partitions_in back) used));
    }

-- other volumes keep a group valid, where they and their maps are
pub with_volumes : (d : Descriptor) (lvs : List LvRow) → IsValid d → AreVolumes d.big lvs → length lvs ≤ most_volumes d.big → AreMaps (record d { lvs = lvs }) → IsValid (record d { lvs = lvs })
with_volumes d lvs valid volumes count maps = record {
  head = record {
    some_id = valid.head.some_id;
    id = valid.head.id;
    name = valid.head.name;
    size = valid.head.size;
    even = valid.head.even;
    a_member = valid.head.a_member;
    members = valid.head.members;
    volumes = count;
  };
  members = valid.members;
  volumes = volumes;
  maps = maps;
}

-- ---- a new volume

pub new_is_valid : (d : Descriptor) (usable : Disks) (row : LvRow) (k : ℕ) → IsValid d → k ≤ length d.lvs
    → IsAllocated d usable (new_volume row.lps row.copies) row.map → AreVolumes d.big (insert d.lvs k row) → length d.lvs < most_volumes d.big
    → IsValid (record d { lvs = insert d.lvs k row })
new_is_valid d usable row k valid le all volumes room =
    let front = take k d.lvs in
    let back = drop k d.lvs in
    let used : partitions_used d ≡ partitions_in front ++ partitions_in back =
    ap partitions_in (sym (take-append-drop k d.lvs)) ∙ flat_map-append (λ (r : LvRow). r.map) front back in
    let laid : IsLaidOut row = record {
      whole = all.whole;
      strict =
          apart d valid usable (new_volume row.lps row.copies) row.map all (partitions_in front) (partitions_in back) used
          (λ lp lt i j e less j-lt. absurd (omega (arith, j-lt)));
    } in
    let size : length (insert d.lvs k row) ≤ most_volumes d.big =
    omega (arith, length-append front (row ∷ back), length-take-le k d.lvs le, length-drop k d.lvs) in
    with_volumes d (insert d.lvs k row) valid volumes size
    (maps_are d valid usable (new_volume row.lps row.copies) row front back all used laid (All-take IsLaidOut k d.lvs valid.maps.laid_out) (All-drop IsLaidOut k d.lvs valid.maps.laid_out))

-- ---- a volume with more copies

set_pairs : {X : Type 0} (R : X → X → Type 0) (xs : List X) (k : ℕ) (old new : X) → k < length xs → ((e : X) → get_or xs k e ≡ old)
    → ((x : X) → R x old → R x new) → ((x : X) → R old x → R new x) → AllPairs R xs → AllPairs R (set xs k new)
set_pairs {X} R xs k old new k-lt there right left all i j e less lt =
    let j-lt : j < length xs = omega (arith, length-set xs k new) in
    elim (cases_eq i k) [
      | inl i-is ↦
          let other : j ≢ k = omega arith in
          let j-same = get_or-set_other xs k j new e other in
          let i-new : get_or (set xs k new) i e ≡ new = ap (λ n. get_or (set xs k new) n e) i-is ∙ get_or-set_same xs k new e k-lt in
          let was : R old (get_or xs j e) = subst (λ (x : X). R x (get_or xs j e)) (ap (λ n. get_or xs n e) i-is ∙ there e) (all i j e less j-lt) in
          subst (λ (x : X). R x (get_or (set xs k new) j e)) (sym i-new) (subst (λ (y : X). R new y) (sym j-same) (left (get_or xs j e) was))
      | inr i-not ↦
          let i-same = get_or-set_other xs k i new e i-not in
          elim (cases_eq j k) [
            | inl j-is ↦
                let j-new : get_or (set xs k new) j e ≡ new = ap (λ n. get_or (set xs k new) n e) j-is ∙ get_or-set_same xs k new e k-lt in
                let was : R (get_or xs i e) old = subst (λ (y : X). R (get_or xs i e) y) (ap (λ n. get_or xs n e) j-is ∙ there e) (all i j e less j-lt) in
                subst (λ (x : X). R x (get_or (set xs k new) j e)) (sym i-same) (subst (λ (y : X). R (get_or xs i e) y) (sym j-new) (right (get_or xs i e) was))
            | inr j-not ↦
                let j-same = get_or-set_other xs k j new e j-not in
                subst (λ (x : X). R x (get_or (set xs k new) j e)) (sym i-same) (subst (λ (y : X). R (get_or xs i e) y) (sym j-same) (all i j e less j-lt))
          ]
    ]

module _ (d : Descriptor) (valid : IsValid d) (row : LvRow) (k copies : ℕ) (pps : List Pp) (lt : k < length d.lvs) (there : (e : LvRow) → get_or d.lvs k e ≡ row)
    (more : row.copies < copies) (most : copies ≤ 3) where
  grown_volumes : AreVolumes d.big (set d.lvs k (record row { copies = copies; map = pps }))
  grown_volumes =
      let new : LvRow = record row { copies = copies; map = pps } in
      let old : IsVolume d.big row = subst (IsVolume d.big) (there row) (valid.volumes.each k row lt) in
      record {
        each = All-set (IsVolume d.big) d.lvs k new
            (record {
              a_number = old.a_number;
              number = old.number;
              a_copy = omega arith;
              copies = most;
              a_partition = old.a_partition;
              partitions = old.partitions;
              name = old.name;
            })
            valid.volumes.each;
        numbers_rise = set_pairs (λ (a b : LvRow). a.number < b.number) d.lvs k row new lt there (λ x is. is) (λ x is. is) valid.volumes.numbers_rise;
        names_differ = set_pairs (λ (a b : LvRow). a.name ≢ b.name) d.lvs k row new lt there (λ x is. is) (λ x is. is) valid.volumes.names_differ;
      }

  grown_is_valid : (usable : Disks) → IsAllocated d usable (more_copies row copies) pps → IsValid (record d { lvs = set d.lvs k (record row { copies = copies; map = pps }) })
  grown_is_valid usable all =
      let new : LvRow = record row { copies = copies; map = pps } in
      let front = take k d.lvs in
      let back = drop (suc k) d.lvs in
      let rows : d.lvs ≡ front ++ row ∷ back = sym (set-get_or d.lvs k row) ∙ ap (set d.lvs k) (there row) ∙ set_split d.lvs k row lt in
      let used : partitions_used d ≡ partitions_in front ++ (row.map ++ partitions_in back) = ap partitions_in rows ∙ flat_map-append (λ (r : LvRow). r.map) front (row ∷ back) in
      let old : IsLaidOut row = subst IsLaidOut (there row) (valid.maps.laid_out k row lt) in
      let laid : IsLaidOut new = record {
        whole = all.whole;
        strict = apart d valid usable (more_copies row copies) pps all (partitions_in front) (partitions_in back) used old.strict;
      } in
      let split : set d.lvs k new ≡ front ++ new ∷ back = set_split d.lvs k new lt in
      let maps = maps_are d valid usable (more_copies row copies) new front back all used laid (All-take IsLaidOut k d.lvs valid.maps.laid_out) (All-drop IsLaidOut (suc k) d.lvs valid.maps.laid_out) in
      with_volumes d (set d.lvs k new) valid grown_volumes (omega (arith, length-set d.lvs k new, valid.head.volumes))
      (subst (λ (lvs : List LvRow). AreMaps (record d { lvs = lvs })) (sym split) maps)

pub more_are_valid : (d : Descriptor) (usable : Disks) (row : LvRow) (k copies : ℕ) (pps : List Pp) → IsValid d → slice_get d.lvs k ≡ Some row
    → row.copies < copies → copies ≤ 3 → IsAllocated d usable (more_copies row copies) pps
    → IsValid (record d { lvs = set d.lvs k (record row { copies = copies; map = pps }) })
more_are_valid d usable row k copies pps valid is more most all =
    let lt = slice_get_within d.lvs k row is in
    let there : (e : LvRow) → get_or d.lvs k e ≡ row = λ e. let at = slice_get-get_or d.lvs k e lt in cc in
    grown_is_valid d valid row k copies pps lt there more most usable all

-- ---- the copies that were there

pub copies_stay : (d : Descriptor) (usable : Disks) (row : LvRow) (copies : ℕ) (pps : List Pp) (lp : ℕ) → length row.map ≡ row.lps * row.copies → row.copies < copies
    → IsAllocated d usable (more_copies row copies) pps → lp < row.lps
    → take row.copies (take copies (drop (lp * copies) pps)) ≡ copies_of row lp
copies_stay d usable row copies pps lp old-size more all lp-lt =
    let kept = row.copies in
    let new-own = drop (lp * copies) pps in
    let old-own = drop (lp * kept) row.map in
    let new-le : suc lp * copies ≤ row.lps * copies = mul-le-mul_right copies lp-lt in
    let old-le : suc lp * kept ≤ row.lps * kept = mul-le-mul_right kept lp-lt in
    let new-rest = length-drop (lp * copies) pps in
    let old-rest = length-drop (lp * kept) row.map in
    let new-some = length-take copies new-own in
    let new-size = length-take kept (take copies new-own) in
    let size = length-take kept old-own in
    same_lists (take kept (take copies new-own)) (copies_of row lp) (omega (arith, all.whole)) (λ j e j-lt.
    let below : j < kept = omega arith in
    let at = parts copies (lp * copies + j) lp j (omega arith) refl in
    let own = kept_place d usable (more_copies row copies) pps (lp * copies + j) all.fits (omega (arith, all.whole)) (omega (arith, at.1)) in
    get_or-take kept (take copies new-own) j e below
    ∙ get_or-take copies new-own j e (omega arith)
    ∙ get_or-drop (lp * copies) pps j e
    ∙ own.is e
    ∙ (λ t. get_or row.map (at.0 t * kept + at.1 t) e)
    ∙ sym (get_or-take kept old-own j e below ∙ get_or-drop (lp * kept) row.map j e))
