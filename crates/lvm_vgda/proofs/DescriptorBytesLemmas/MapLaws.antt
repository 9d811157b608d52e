-- The partitions of volumes: what is read is spelled so and valid, and what is spelled so is read.
use Rattle.std.proofs.Common.{◌≡◌, ◌≢◌, inl, inr, ℕ, zero, suc, ◌+◌, ◌-◌, ◌*◌, ◌/◌, ◌<◌, ◌≤◌, true, false, ◌&&◌, List, [], ◌∷◌, ◌++◌, append-nil, append_assoc, length, get_or, take, drop, Ok, refl, sym, ap, subst, ◌∙◌, length-append, arith}
use Rattle.std.specs.Prelude.{◌==◌, not, nat_lt, min, flat_map, map, All, AllPairs}
use Rattle.std.specs.List.{list_any}
use Rattle.std.specs.Int.{w16, to_be_bytes}
use Rattle.std.proofs.Math.Nat.{div-mul-le_self, lt-div-mul-add, div-lt_iff_lt-mul}
use Rattle.std.proofs.lemmas.Nat.{div-mul-add}
use Rattle.std.proofs.lemmas.Bool.{cases_Bool, cases_lt, false≢true, eq-eqb, eqb-true, not_from_false, ne_eqb, eqb-false}
use Rattle.std.proofs.lemmas.List.{get_or_append_left, get_or-append-add, get_or-drop, get_or-take, length-drop, length-take}
use Rattle.std.proofs.lemmas.List.Concat.{flat_map-cons}
use Rattle.std.proofs.lemmas.List.Elements.{All-nil, All-cons, All-tail, All-append, All-push}
use Rattle.std.proofs.lemmas.List.Folds.{list_any_at, list_any_none, Any-from_list_any}
use Rattle.lvm_num.specs.declared.place.Pp.{Pp}
use Rattle.lvm_num.specs.declared.descriptor.PvRow.{PvRow}
use Rattle.lvm_num.specs.declared.descriptor.LvRow.{LvRow}
use Rattle.lvm_num.specs.Descriptor.{IsMember, IsLaidOut, partitions_in}
use Rattle.lvm_num.specs.DescriptorBytes.{partition_bytes, unfinished, is_at, partition_at, partitions_at, maps_at}
use Rattle.lvm_num.specs.Reading.{◌>>=◌, Rest, number_at}
use Rattle.lvm_num.proofs.Pairs.{All-left, All-right, AllPairs-left}
use Rattle.lvm_vgda.proofs.passed.Fields.{IsBytes, bind_ok, ok_is, both, from_both, Takes, Takes-then, wide16, number_takes, number_again}
use Rattle.lvm_vgda.proofs.DescriptorBytesLemmas.MemberLaws.{none_of, AllPairs-snoc, AllPairs-last, not_true}
use Rattle.lvm_vgda.proofs.DescriptorLemmas.VolumeLaws.{bare}
use Rattle.lvm_vgda.proofs.UsedLemmas.{its_member}
use Rattle.lvm_vgda.proofs.DescriptorBytesLemmas.MapLoops.{no_map, passes_on}

-- ---- one partition

-- a member has it
abbrev pub Has : List PvRow → Pp → Type 0
Has members pp = list_any (λ (row : PvRow). row.disk == pp.disk && nat_lt pp.pp row.pps) members ≡ true

-- it may follow the volume's earlier ones
pub record IsFree (members : List PvRow) (used : List Pp) (copies : ℕ) (own : List Pp) (pp : Pp) : Type 0 where
  pub has : Has members pp
  pub apart : list_any (λ (p : Pp). p.disk == pp.disk) (unfinished copies own) ≡ false
  pub new : list_any (λ (p : Pp). is_at p pp.disk pp.pp) (used ++ own) ≡ false

pub partition_takes : (members : List PvRow) (used : List Pp) (copies : ℕ) (own : List Pp) (r : Rest) (x : Pp × Rest) → IsBytes r.1 → partition_at members used copies own r ≡ Ok x
    → Takes r (partition_bytes x.0) x.1 × IsFree members used copies own x.0
unfolding partition_at
partition_takes members used copies own r x fits e =
    let a = bind_ok (number_at w16 (λ n. list_any (λ (row : PvRow). row.disk == n) members && not (list_any (λ (p : Pp). p.disk == n) (unfinished copies own))) r) _ x e in
    let b = bind_ok (number_at w16 (λ n. list_any (λ (row : PvRow). row.disk == a.0.0 && nat_lt n row.pps) members && not (list_any (λ (p : Pp). is_at p a.0.0 n) (used ++ own))) a.0.1) _ x a.2 in
    let ta = number_takes w16 _ wide16 (λ n. list_any (λ (row : PvRow). row.disk == n) members && not (list_any (λ (p : Pp). p.disk == n) (unfinished copies own))) r a.0 fits a.1 in
    let tb = number_takes w16 _ wide16 (λ n. list_any (λ (row : PvRow). row.disk == a.0.0 && nat_lt n row.pps) members && not (list_any (λ (p : Pp). is_at p a.0.0 n) (used ++ own))) a.0.1 b.0 ta.0.fits b.1 in
    let disk = both (list_any (λ (row : PvRow). row.disk == a.0.0) members) (not (list_any (λ (p : Pp). p.disk == a.0.0) (unfinished copies own))) ta.1 in
    let number = both (list_any (λ (row : PvRow). row.disk == a.0.0 && nat_lt b.0.0 row.pps) members) (not (list_any (λ (p : Pp). is_at p a.0.0 b.0.0) (used ++ own))) tb.1 in
    let made : Pp × Rest = (record { disk = a.0.0; pp = b.0.0 }, b.0.1) in
    subst (λ (y : Pp × Rest). Takes r (partition_bytes y.0) y.1 × IsFree members used copies own y.0) (ok_is made x b.2) (
      Takes-then r (to_be_bytes w16 a.0.0) a.0.1 (to_be_bytes w16 b.0.0) b.0.1 ta.0 tb.0,
      record { has = number.0; apart = not_true (list_any (λ (p : Pp). p.disk == a.0.0) (unfinished copies own)) disk.1; new = not_true (list_any (λ (p : Pp). is_at p a.0.0 b.0.0) (used ++ own)) number.1 },
    )

has_disk : (members : List PvRow) (pp : Pp) → Has members pp → list_any (λ (row : PvRow). row.disk == pp.disk) members ≡ true
has_disk members pp has =
    let found = Any-from_list_any (λ (row : PvRow). row.disk == pp.disk && nat_lt pp.pp row.pps) members has in
    let tests = both (found.1.disk == pp.disk) (nat_lt pp.pp found.1.pps) found.4 in
    list_any_at (λ (row : PvRow). row.disk == pp.disk) members found.0 found.1 found.2 (ap (λ (row : PvRow). row.disk == pp.disk) found.3 ∙ tests.0)

pub partition_again : (members : List PvRow) (used : List Pp) (copies : ℕ) (own : List Pp) (place : ℕ) (pp : Pp) (rest : List ℕ) → All IsMember members → IsFree members used copies own pp
    → partition_at members used copies own (place, partition_bytes pp ++ rest) ≡ Ok (pp, (place + 4, rest))
unfolding partition_at
partition_again members used copies own place pp rest each free =
    let small = its_member members pp.disk pp.pp each free.has in
    let disk = number_again w16 _ wide16 (λ n. list_any (λ (row : PvRow). row.disk == n) members && not (list_any (λ (p : Pp). p.disk == n) (unfinished copies own))) place pp.disk (to_be_bytes w16 pp.pp ++ rest)
    (omega (arith, small.0)) (from_both (list_any (λ (row : PvRow). row.disk == pp.disk) members) (not (list_any (λ (p : Pp). p.disk == pp.disk) (unfinished copies own))) (has_disk members pp free.has) (not_from_false _ free.apart)) in
    let number = number_again w16 _ wide16 (λ n. list_any (λ (row : PvRow). row.disk == pp.disk && nat_lt n row.pps) members && not (list_any (λ (p : Pp). is_at p pp.disk n) (used ++ own))) (place + 2) pp.pp rest
    (omega (arith, small.1)) (from_both (list_any (λ (row : PvRow). row.disk == pp.disk && nat_lt pp.pp row.pps) members) (not (list_any (λ (p : Pp). is_at p pp.disk pp.pp) (used ++ own))) free.has (not_from_false _ free.new)) in
    let same : place + 2 + 2 ≡ place + 4 = omega arith in
    passes_on _ _ _ disk ∙ passes_on _ _ _ number ∙ ap (λ n. Ok (pp, (n, rest))) same

-- ---- the partitions of one volume

-- copies of one logical partition stand on different disks
abbrev pub IsStrict : ℕ → List Pp → Type 0
IsStrict copies own = (i j : ℕ) (d : Pp) → i < j → j < length own → i / copies ≡ j / copies → (get_or own i d).disk ≢ (get_or own j d).disk

pub record Fit (members : List PvRow) (used : List Pp) (copies : ℕ) (own : List Pp) : Type 0 where
  pub places : All (Has members) own
  pub strict : IsStrict copies own
  pub once : AllPairs (λ (a b : Pp). a ≢ b) (used ++ own)

last_at : {X : Type 0} (xs : List X) (x : X) (d : X) → get_or (xs ++ x ∷ []) (length xs) d ≡ x
last_at xs x d = ap (λ n. get_or (xs ++ x ∷ []) n d) (let e : length xs ≡ length xs + 0 = omega arith in e) ∙ get_or-append-add xs (x ∷ []) 0 d

strict-more : (copies : ℕ) (own : List Pp) (pp : Pp) → IsStrict copies own → list_any (λ (p : Pp). p.disk == pp.disk) (unfinished copies own) ≡ false → IsStrict copies (own ++ pp ∷ [])
strict-more copies own pp old apart i j d less lt same = elim (cases_lt j (length own)) [
  | inl before ↦
      subst (λ (p : Pp). p.disk ≢ (get_or (own ++ pp ∷ []) j d).disk) (sym (get_or_append_left own (pp ∷ []) d i (omega arith)))
      (subst (λ (q : Pp). (get_or own i d).disk ≢ q.disk) (sym (get_or_append_left own (pp ∷ []) d j before)) (old i j d less before same))
  | inr after ↦
      let last : j ≡ length own = omega (arith, lt, length-append own (pp ∷ [])) in
      let from = length own / copies * copies in
      let group : i / copies ≡ length own / copies = same ∙ ap (λ n. n / copies) last in
      let begins : length own / copies * copies ≤ i = subst (λ n. n * copies ≤ i) group (div-mul-le_self i copies) in
      let at : get_or (drop (length own / copies * copies) own) (i - length own / copies * copies) d ≡ get_or own i d =
      get_or-drop (length own / copies * copies) own (i - length own / copies * copies) d ∙ ap (λ n. get_or own n d) (omega (arith, begins)) in
      let isnt = none_of (λ (p : Pp). p.disk == pp.disk) (drop (length own / copies * copies) own) apart (i - length own / copies * copies) d (omega (arith, length-drop (length own / copies * copies) own, begins, less, last)) in
      let here : (get_or (own ++ pp ∷ []) j d) ≡ pp = ap (λ n. get_or (own ++ pp ∷ []) n d) last ∙ last_at own pp d in
      subst (λ (p : Pp). p.disk ≢ (get_or (own ++ pp ∷ []) j d).disk) (at ∙ sym (get_or_append_left own (pp ∷ []) d i (omega (arith, less, last))))
      (subst (λ (q : Pp). (get_or (drop (length own / copies * copies) own) (i - length own / copies * copies) d).disk ≢ q.disk) (sym here) (eqb-false _ pp.disk isnt))
]

pub is_same : (p q : Pp) → p ≡ q → is_at p q.disk q.pp ≡ true
is_same p q same = from_both (p.disk == q.disk) (p.pp == q.pp) (eq-eqb p.disk q.disk (ap (λ (x : Pp). x.disk) same)) (eq-eqb p.pp q.pp (ap (λ (x : Pp). x.pp) same))

pub fit-more : (members : List PvRow) (used : List Pp) (copies : ℕ) (own : List Pp) (pp : Pp) → Fit members used copies own → IsFree members used copies own pp → Fit members used copies (own ++ pp ∷ [])
fit-more members used copies own pp fit free = record {
  places = All-push (Has members) own pp fit.places free.has;
  strict = strict-more copies own pp fit.strict free.apart;
  once = subst (λ (l : List Pp). AllPairs (λ (a b : Pp). a ≢ b) l) (append_assoc used own (pp ∷ []))
      (AllPairs-snoc (λ (a b : Pp). a ≢ b) (used ++ own) pp fit.once
      (λ k d lt same. false≢true (sym (none_of (λ (p : Pp). is_at p pp.disk pp.pp) (used ++ own) free.new k d lt) ∙ is_same (get_or (used ++ own) k d) pp same)));
}

pub record PartitionsTaken (members : List PvRow) (used : List Pp) (copies n : ℕ) (own : List Pp) (r : Rest) (x : List Pp × Rest) : Type 0 where
  pub more : List Pp
  pub parts : x.0 ≡ own ++ more
  pub size : length more ≡ n
  pub took : Takes r (flat_map partition_bytes more) x.1
  pub fit : Fit members used copies x.0

pub partitions_take : (members : List PvRow) (used : List Pp) (copies n : ℕ) (own : List Pp) (r : Rest) (x : List Pp × Rest) → IsBytes r.1 → Fit members used copies own
    → partitions_at members used copies n own r ≡ Ok x → PartitionsTaken members used copies n own r x
unfolding partitions_at
partitions_take members used copies zero own r x fits fit e =
    subst (λ (y : List Pp × Rest). PartitionsTaken members used copies 0 own r y) (ok_is (own, r) x e)
    (record { more = []; parts = sym (append-nil own); size = refl; took = record { parts = refl; fits = fits }; fit = fit })
partitions_take members used copies (suc n) own r x fits fit e =
    let a = bind_ok (partition_at members used copies own r) (λ pp. partitions_at members used copies n (own ++ pp.0 ∷ []) pp.1) x e in
    let first = partition_takes members used copies own r a.0 fits a.1 in
    let others = partitions_take members used copies n (own ++ a.0.0 ∷ []) a.0.1 x first.0.fits (fit-more members used copies own a.0.0 fit first.1) a.2 in
    record {
      more = a.0.0 ∷ others.more;
      parts = others.parts ∙ append_assoc own (a.0.0 ∷ []) others.more;
      size = ap suc others.size;
      took = subst (λ (bytes : List ℕ). Takes r bytes x.1) (sym (flat_map-cons partition_bytes a.0.0 others.more)) (Takes-then r (partition_bytes a.0.0) a.0.1 (flat_map partition_bytes others.more) x.1 first.0 others.took);
      fit = others.fit;
    }

-- ---- what a volume's partitions are, read the other way

group_of : (copies q k : ℕ) → k < copies → (q * copies + k) / copies ≡ q
group_of copies q k lt = div-mul-add q copies k lt

front_fit : (members : List PvRow) (used : List Pp) (copies : ℕ) (own : List Pp) (pp : Pp) (more : List Pp) → Fit members used copies (own ++ pp ∷ more) → Fit members used copies (own ++ pp ∷ [])
front_fit members used copies own pp more fit =
    let parts : (own ++ pp ∷ []) ++ more ≡ own ++ pp ∷ more = append_assoc own (pp ∷ []) more in
    let whole : Fit members used copies ((own ++ pp ∷ []) ++ more) = subst (Fit members used copies) (sym parts) fit in
    let all : used ++ ((own ++ pp ∷ []) ++ more) ≡ (used ++ (own ++ pp ∷ [])) ++ more = sym (append_assoc used (own ++ pp ∷ []) more) in
    record {
      places = All-left (Has members) (own ++ pp ∷ []) more whole.places;
      strict = λ i j d less lt same.
          subst (λ (p : Pp). p.disk ≢ (get_or (own ++ pp ∷ []) j d).disk) (get_or_append_left (own ++ pp ∷ []) more d i (omega arith))
          (subst (λ (q : Pp). (get_or ((own ++ pp ∷ []) ++ more) i d).disk ≢ q.disk) (get_or_append_left (own ++ pp ∷ []) more d j lt)
          (whole.strict i j d less (omega (arith, length-append (own ++ pp ∷ []) more)) same));
      once = AllPairs-left (λ (a b : Pp). a ≢ b) (used ++ (own ++ pp ∷ [])) more (subst (λ (l : List Pp). AllPairs (λ (a b : Pp). a ≢ b) l) all whole.once);
    }

is_apart : (p q : Pp) → p ≢ q → is_at p q.disk q.pp ≡ false
is_apart p q apart = elim (cases_Bool (is_at p q.disk q.pp)) [
  | inl is ↦
      let tests = both (p.disk == q.disk) (p.pp == q.pp) is in
      let disk : p.disk ≡ q.disk = eqb-true p.disk q.disk tests.0 in
      let pp : p.pp ≡ q.pp = eqb-true p.pp q.pp tests.1 in
      absurd (apart (λ t. record { disk = disk t; pp = pp t }))
  | inr isnt ↦ isnt
]

last_is_free : (members : List PvRow) (used : List Pp) (copies : ℕ) (own : List Pp) (pp : Pp) → 0 < copies → Fit members used copies (own ++ pp ∷ []) → IsFree members used copies own pp
last_is_free members used copies own pp some fit = record {
  has = (All-right (Has members) own (pp ∷ []) fit.places) 0 pp (omega arith);
  apart = list_any_none (λ (p : Pp). p.disk == pp.disk) (drop (length own / copies * copies) own)
      (λ k d lt.
      let from = length own / copies * copies in
      let le : length own / copies * copies ≤ length own = div-mul-le_self (length own) copies in
      let short : k < length own - length own / copies * copies = omega (arith, lt, length-drop (length own / copies * copies) own) in
      let rest : length own - length own / copies * copies < copies = rest_small (length own) copies some in
      let group : (length own / copies * copies + k) / copies ≡ length own / copies = group_of copies (length own / copies) k (omega (arith, short, rest)) in
      let here : get_or (drop (length own / copies * copies) own) k d ≡ get_or own (length own / copies * copies + k) d = get_or-drop (length own / copies * copies) own k d in
      let inside : length own / copies * copies + k < length own = omega (arith, short, le) in
      let one : get_or (own ++ pp ∷ []) (length own / copies * copies + k) d ≡ get_or own (length own / copies * copies + k) d = get_or_append_left own (pp ∷ []) d (length own / copies * copies + k) inside in
      let two : get_or (own ++ pp ∷ []) (length own) d ≡ pp = last_at own pp d in
      let apart = fit.strict (length own / copies * copies + k) (length own) d inside (omega (arith, length-append own (pp ∷ []))) group in
      ne_eqb (get_or (drop (length own / copies * copies) own) k d).disk pp.disk
      (subst (λ (p : Pp). p.disk ≢ pp.disk) (one ∙ sym here) (subst (λ (q : Pp). (get_or (own ++ pp ∷ []) (length own / copies * copies + k) d).disk ≢ q.disk) two apart)));
  new = list_any_none (λ (p : Pp). is_at p pp.disk pp.pp) (used ++ own)
      (λ k d lt. is_apart (get_or (used ++ own) k d) pp
      (AllPairs-last (λ (a b : Pp). a ≢ b) (used ++ own) pp (subst (λ (l : List Pp). AllPairs (λ (a b : Pp). a ≢ b) l) (sym (append_assoc used own (pp ∷ []))) fit.once) k d lt));
}
  where
    rest_small : (n c : ℕ) → 0 < c → n - n / c * c < c
    rest_small n c some =
        let above : n < n / c * c + c = lt-div-mul-add {a = n} {b = c} some in
        omega (arith, above, some)

pub partitions_again : (members : List PvRow) (used : List Pp) (copies : ℕ) (more own : List Pp) (place : ℕ) (rest : List ℕ) → All IsMember members → 0 < copies → Fit members used copies (own ++ more)
    → partitions_at members used copies (length more) own (place, flat_map partition_bytes more ++ rest) ≡ Ok (own ++ more, (place + 4 * length more, rest))
unfolding partitions_at
partitions_again members used copies [] own place rest each some fit =
    let none : place ≡ place + 4 * 0 = omega arith in
    ap (λ (l : List Pp). Ok (l, (place, rest))) (sym (append-nil own)) ∙ ap (λ n. Ok (own ++ [], (n, rest))) none
partitions_again members used copies (pp ∷ more) own place rest each some fit =
    let free = last_is_free members used copies own pp some (front_fit members used copies own pp more fit) in
    let regrouped : flat_map partition_bytes (pp ∷ more) ++ rest ≡ partition_bytes pp ++ (flat_map partition_bytes more ++ rest) =
    ap (λ (bytes : List ℕ). bytes ++ rest) (flat_map-cons partition_bytes pp more) ∙ append_assoc (partition_bytes pp) (flat_map partition_bytes more) rest in
    let parts : (own ++ pp ∷ []) ++ more ≡ own ++ pp ∷ more = append_assoc own (pp ∷ []) more in
    let others = partitions_again members used copies more (own ++ pp ∷ []) (place + 4) rest each some (subst (Fit members used copies) (sym parts) fit) in
    let end : place + 4 + 4 * length more ≡ place + 4 * suc (length more) = omega arith in
    ap (λ (bytes : List ℕ). partitions_at members used copies (suc (length more)) own (place, bytes)) regrouped
    ∙ passes_on _ (λ (first : Pp × Rest). partitions_at members used copies (length more) (own ++ first.0 ∷ []) first.1) _ (partition_again members used copies own place pp (flat_map partition_bytes more ++ rest) each free)
    ∙ others
    ∙ ap (λ (l : List Pp). Ok (l, (place + 4 + 4 * length more, rest))) parts
    ∙ ap (λ n. Ok (own ++ pp ∷ more, (n, rest))) end

-- ---- a volume that is laid out

pub strict_is_laid_out : (row : LvRow) → 0 < row.copies → length row.map ≡ row.lps * row.copies → IsStrict row.copies row.map → IsLaidOut row
strict_is_laid_out row some size strict = record {
  whole = size;
  strict = λ lp lt i j d less inside.
      let c = row.copies in
      let map = row.map in
      let short : length (take row.copies (drop (lp * row.copies) row.map)) ≤ row.copies = omega (arith, length-take row.copies (drop (lp * row.copies) row.map)) in
      let long : length (take row.copies (drop (lp * row.copies) row.map)) ≤ length row.map - lp * row.copies = omega (arith, length-take row.copies (drop (lp * row.copies) row.map), length-drop (lp * row.copies) row.map) in
      let at : (k : ℕ) → k < row.copies → get_or (take row.copies (drop (lp * row.copies) row.map)) k d ≡ get_or row.map (lp * row.copies + k) d =
      λ k k-lt. get_or-take c (drop (lp * c) map) k d k-lt ∙ get_or-drop (lp * c) map k d in
      let group : (lp * row.copies + i) / row.copies ≡ (lp * row.copies + j) / row.copies = group_of c lp i (omega (arith, less, inside, short)) ∙ sym (group_of c lp j (omega (arith, inside, short))) in
      subst (λ (p : Pp). p.disk ≢ (get_or (take c (drop (lp * c) map)) j d).disk) (sym (at i (omega (arith, less, inside, short))))
      (subst (λ (q : Pp). (get_or map (lp * c + i) d).disk ≢ q.disk) (sym (at j (omega (arith, inside, short))))
      (strict (lp * c + i) (lp * c + j) d (omega (arith, less)) (omega (arith, inside, long)) group));
}

pub laid_out_is_strict : (row : LvRow) → 0 < row.copies → IsLaidOut row → IsStrict row.copies row.map
laid_out_is_strict row some laid i j d less lt same =
    let c = row.copies in
    let map = row.map in
    let q = i / row.copies in
    let below : i / row.copies < row.lps = (div-lt_iff_lt-mul {k = row.copies} {x = i} {y = row.lps} some).1 (omega (arith, less, lt, laid.whole)) in
    let first : i / row.copies * row.copies ≤ i = div-mul-le_self i row.copies in
    let second : j < i / row.copies * row.copies + row.copies = rest_below i j row.copies some same in
    let size : length (take row.copies (drop (i / row.copies * row.copies) row.map)) ≡ min row.copies (length row.map - i / row.copies * row.copies) = length-take row.copies (drop (i / row.copies * row.copies) row.map) ∙ ap (λ n. min row.copies n) (length-drop (i / row.copies * row.copies) row.map) in
    let at : (k : ℕ) → k < row.copies → get_or (take row.copies (drop (i / row.copies * row.copies) row.map)) k d ≡ get_or row.map (i / row.copies * row.copies + k) d =
    λ k k-lt. get_or-take c (drop (q * c) map) k d k-lt ∙ get_or-drop (q * c) map k d in
    let i-is : i / row.copies * row.copies + (i - i / row.copies * row.copies) ≡ i = omega (arith, first) in
    let j-is : i / row.copies * row.copies + (j - i / row.copies * row.copies) ≡ j = omega (arith, first, less) in
    let apart = laid.strict q below (i - i / row.copies * row.copies) (j - i / row.copies * row.copies) d (omega (arith, less, first)) (omega (arith, size, second, lt, first, less)) in
    subst (λ (p : Pp). p.disk ≢ (get_or map j d).disk) (at (i - i / row.copies * row.copies) (omega (arith, second, less, first)) ∙ ap (λ n. get_or map n d) i-is)
    (subst (λ (p : Pp). (get_or (take c (drop (q * c) map)) (i - i / row.copies * row.copies) d).disk ≢ p.disk) (at (j - i / row.copies * row.copies) (omega (arith, second, first, less)) ∙ ap (λ n. get_or map n d) j-is) apart)
  where
    rest_below : (a b c : ℕ) → 0 < c → a / c ≡ b / c → b < a / c * c + c
    rest_below a b c some same =
        let above : b < b / c * c + c = lt-div-mul-add {a = b} {b = c} some in
        let both-same : a / c * c ≡ b / c * c = ap (λ n. n * c) same in
        omega (arith, above, both-same)

-- ---- the partitions of all volumes

abbrev pub map_bytes : LvRow → List ℕ
map_bytes row = flat_map partition_bytes row.map

abbrev pub HasCopies : LvRow → Type 0
HasCopies row = 0 < row.copies

one_map : (members : List PvRow) (used : List Pp) (row : LvRow) (rows : List LvRow) (rest : Rest)
    → maps_at members used (row ∷ rows) rest
    ≡ (partitions_at members used row.copies (row.lps * row.copies) [] rest >>= λ own. maps_at members (used ++ own.0) rows own.1 >>= λ others. Ok (record row { map = own.0 } ∷ others.0, others.1))
unfolding maps_at
one_map members used row rows rest = refl

pub record MapsTaken (members : List PvRow) (used : List Pp) (rows : List LvRow) (r : Rest) (x : List LvRow × Rest) : Type 0 where
  pub same : map bare x.0 ≡ map bare rows
  pub took : Takes r (flat_map map_bytes x.0) x.1
  pub laid_out : All IsLaidOut x.0
  pub places : All (Has members) (partitions_in x.0)
  pub once : AllPairs (λ (a b : Pp). a ≢ b) (used ++ partitions_in x.0)

no_fit : (members : List PvRow) (used : List Pp) (copies : ℕ) → AllPairs (λ (a b : Pp). a ≢ b) used → Fit members used copies []
no_fit members used copies once = record {
  places = All-nil (Has members);
  strict = λ i j d less lt same. absurd (omega (arith, lt));
  once = subst (λ (l : List Pp). AllPairs (λ (a b : Pp). a ≢ b) l) (sym (append-nil used)) once;
}

pub maps_take : (members : List PvRow) (used : List Pp) (rows : List LvRow) (r : Rest) (x : List LvRow × Rest) → IsBytes r.1 → All HasCopies rows → AllPairs (λ (a b : Pp). a ≢ b) used
    → maps_at members used rows r ≡ Ok x → MapsTaken members used rows r x
maps_take members used [] r x fits some once e =
    subst (λ (y : List LvRow × Rest). MapsTaken members used [] r y) (ok_is ([], r) x (sym (no_map members used r) ∙ e))
    (record {
      same = refl;
      took = record { parts = refl; fits = fits };
      laid_out = All-nil IsLaidOut;
      places = All-nil (Has members);
      once = subst (λ (l : List Pp). AllPairs (λ (a b : Pp). a ≢ b) l) (sym (append-nil used)) once;
    })
maps_take members used (row ∷ rows) r x fits some once e =
    let a = bind_ok (partitions_at members used row.copies (row.lps * row.copies) [] r) (λ own. maps_at members (used ++ own.0) rows own.1 >>= λ others. Ok (record row { map = own.0 } ∷ others.0, others.1)) x (sym (one_map members used row rows r) ∙ e) in
    let b = bind_ok (maps_at members (used ++ a.0.0) rows a.0.1) (λ others. Ok (record row { map = a.0.0 } ∷ others.0, others.1)) x a.2 in
    let first = partitions_take members used row.copies (row.lps * row.copies) [] r a.0 fits (no_fit members used row.copies once) a.1 in
    let copies : 0 < row.copies = some 0 row (omega arith) in
    let others = maps_take members (used ++ a.0.0) rows a.0.1 b.0 first.took.fits (All-tail HasCopies row rows some) first.fit.once b.1 in
    let made : LvRow = record row { map = a.0.0 } in
    let size : length a.0.0 ≡ row.lps * row.copies = ap (length {A = Pp}) first.parts ∙ first.size in
    let own : Takes r (flat_map partition_bytes a.0.0) a.0.1 = subst (λ (l : List Pp). Takes r (flat_map partition_bytes l) a.0.1) (sym first.parts) first.took in
    let all : partitions_in (record row { map = a.0.0 } ∷ b.0.0) ≡ a.0.0 ++ partitions_in b.0.0 = flat_map-cons (λ (l : LvRow). l.map) (record row { map = a.0.0 }) b.0.0 in
    subst (λ (y : List LvRow × Rest). MapsTaken members used (row ∷ rows) r y) (ok_is (record row { map = a.0.0 } ∷ b.0.0, b.0.1) x b.2)
    (record {
      same = ap (λ (l : List LvRow). bare row ∷ l) others.same;
      took = subst (λ (bytes : List ℕ). Takes r bytes b.0.1) (sym (flat_map-cons map_bytes (record row { map = a.0.0 }) b.0.0)) (Takes-then r (flat_map partition_bytes a.0.0) a.0.1 (flat_map map_bytes b.0.0) b.0.1 own others.took);
      laid_out = All-cons IsLaidOut (record row { map = a.0.0 }) b.0.0 (strict_is_laid_out (record row { map = a.0.0 }) copies size first.fit.strict) others.laid_out;
      places = subst (All (Has members)) (sym all) (All-append (Has members) a.0.0 (partitions_in b.0.0) first.fit.places others.places);
      once = subst (λ (l : List Pp). AllPairs (λ (p q : Pp). p ≢ q) l) (append_assoc used a.0.0 (partitions_in b.0.0) ∙ ap (λ (l : List Pp). used ++ l) (sym all)) others.once;
    })

pub maps_again : (members : List PvRow) (used : List Pp) (lvs : List LvRow) (place : ℕ) (rest : List ℕ) → All IsMember members → All HasCopies lvs → All IsLaidOut lvs → All (Has members) (partitions_in lvs)
    → AllPairs (λ (a b : Pp). a ≢ b) (used ++ partitions_in lvs) → maps_at members used (map bare lvs) (place, flat_map map_bytes lvs ++ rest) ≡ Ok (lvs, (place + 4 * length (partitions_in lvs), rest))
maps_again members used [] place rest each some laid places once =
    no_map members used (place, rest) ∙ ap (λ n. Ok ([], (n, rest))) (let e : place ≡ place + 4 * 0 = omega arith in e)
maps_again members used (row ∷ lvs) place rest each some laid places once =
    let copies : 0 < row.copies = some 0 row (omega arith) in
    let here : IsLaidOut row = laid 0 row (omega arith) in
    let all : partitions_in (row ∷ lvs) ≡ row.map ++ partitions_in lvs = flat_map-cons (λ (l : LvRow). l.map) row lvs in
    let has : All (Has members) (row.map ++ partitions_in lvs) = subst (All (Has members)) all places in
    let apart : AllPairs (λ (a b : Pp). a ≢ b) ((used ++ row.map) ++ partitions_in lvs) =
    subst (λ (l : List Pp). AllPairs (λ (a b : Pp). a ≢ b) l) (ap (λ (l : List Pp). used ++ l) all ∙ sym (append_assoc used row.map (partitions_in lvs))) once in
    let fit : Fit members used row.copies ([] ++ row.map) = record {
      places = All-left (Has members) row.map (partitions_in lvs) has;
      strict = laid_out_is_strict row copies here;
      once = AllPairs-left (λ (a b : Pp). a ≢ b) (used ++ row.map) (partitions_in lvs) apart;
    } in
    let own = partitions_again members used row.copies row.map [] place (flat_map map_bytes lvs ++ rest) each copies fit in
    let others = maps_again members (used ++ row.map) lvs (place + 4 * length row.map) rest each (All-tail HasCopies row lvs some) (All-tail IsLaidOut row lvs laid) (All-right (Has members) row.map (partitions_in lvs) has) apart in
    let regrouped : flat_map map_bytes (row ∷ lvs) ++ rest ≡ map_bytes row ++ (flat_map map_bytes lvs ++ rest) =
    ap (λ (bytes : List ℕ). bytes ++ rest) (flat_map-cons map_bytes row lvs) ∙ append_assoc (map_bytes row) (flat_map map_bytes lvs) rest in
    let end : place + 4 * length row.map + 4 * length (partitions_in lvs) ≡ place + 4 * length (partitions_in (row ∷ lvs)) = omega (arith, ap (length {A = Pp}) all, length-append row.map (partitions_in lvs)) in
    ap (λ (bytes : List ℕ). maps_at members used (bare row ∷ map bare lvs) (place, bytes)) regrouped
    ∙ one_map members used (bare row) (map bare lvs) (place, map_bytes row ++ (flat_map map_bytes lvs ++ rest))
    ∙ ap (λ n. partitions_at members used row.copies n [] (place, map_bytes row ++ (flat_map map_bytes lvs ++ rest)) >>= λ got. maps_at members (used ++ got.0) (map bare lvs) got.1 >>= λ more. Ok (record row { map = got.0 } ∷ more.0, more.1)) (sym here.whole)
    ∙ passes_on _ (λ (got : List Pp × Rest). maps_at members (used ++ got.0) (map bare lvs) got.1 >>= λ more. Ok (record row { map = got.0 } ∷ more.0, more.1)) _ own
    ∙ passes_on _ (λ (more : List LvRow × Rest). Ok (record row { map = row.map } ∷ more.0, more.1)) _ others
    ∙ ap (λ n. Ok (row ∷ lvs, (n, rest))) end
