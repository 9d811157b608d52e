-- A member's partitions are those that no volume has and those that volumes have.
use Rattle.std.proofs.Common.{◌≡◌, ◌≢◌, inl, inr, ℕ, zero, suc, ◌+◌, ◌<◌, Bool, true, false, cond, ◌&&◌, ◌||◌, not, List, [], ◌∷◌, length, map, get_or, refl, sym, ap, subst, ◌∙◌, arith}
use Rattle.std.specs.Prelude.{◌==◌, All, AllPairs, Contains, count_by}
use Rattle.std.specs.List.{range_with_len}
use Rattle.std.proofs.lemmas.Bool.{cases_Bool, cases_lt, eqb-true}
use Rattle.std.proofs.lemmas.Bool.Decides.{nat_tests}
use Rattle.std.proofs.lemmas.List.Elements.{All-head, All-tail, All-weaker}
use Rattle.std.proofs.lemmas.List.FromFn.{sum_by-map-range_with_len_more, get_or-map-range_with_len, length-range_with_len}
use Rattle.std.proofs.lemmas.List.{length-map}
use Rattle.std.proofs.lemmas.List.Sums.{sum_by-cons, length-filter}
use Rattle.lvm_num.specs.declared.place.Pp.{Pp}
use Rattle.lvm_num.specs.declared.descriptor.PvRow.{PvRow}
use Rattle.lvm_num.specs.declared.descriptor.Descriptor.{Descriptor}
use Rattle.lvm_num.specs.Descriptor.{IsValid, IsPartitionOf, partitions_used, is_pp}
use Rattle.lvm_num.proofs.MarksLemmas.Maps.{find-Some}
use Rattle.lvm_num.proofs.Pairs.{AllPairs-right}
use Rattle.lvm_num.proofs.Lists.{pairs_head}
use Rattle.lvm_map.specs.FirstFit.{is_among, partitions_of, free_of}
use Rattle.lvm_map.proofs.FirstFitLemmas.FreeLists.{is_pp-true, is_pp-same, is_pp-apart, partitions-size}

abbrev one_if : Bool → ℕ
one_if b = cond b 1 0

-- ---- one partition less

-- as many pass a test as pass it without one, and that one
without_one : (p q : Pp → Bool) (u : Pp) → ((x : Pp) → q x ≡ p x && not (is_pp u x)) → p u ≡ true → (xs : List Pp)
    → count_by q xs + count_by (is_pp u) xs ≡ count_by p xs
without_one p q u says is [] = refl
without_one p q u says is (x ∷ xs) =
    let rest = without_one p q u says is xs in
    let here = one (p x) (q x) (is_pp u x) (says x) (λ same. ap p (sym (is_pp-true u x same)) ∙ is) in
    let a = sum_by-cons (λ (y : Pp). cond (p y) 1 0) x xs in
    let b = sum_by-cons (λ (y : Pp). cond (q y) 1 0) x xs in
    let d = sum_by-cons (λ (y : Pp). cond (is_pp u y) 1 0) x xs in
    omega (arith, rest, here, a, b, d)
  where
    one : (a b same : Bool) → b ≡ a && not same → (same ≡ true → a ≡ true) → cond b 1 0 + cond same 1 0 ≡ cond a 1 0
    one true true true e h = absurd cc
    one true true false e h = refl
    one true false true e h = refl
    one true false false e h = absurd cc
    one false b true e h = absurd (let no : false ≡ true = h refl in cc)
    one false true false e h = absurd cc
    one false false false e h = refl

-- ---- counts where all or none pass

count_none : (p : Pp → Bool) (xs : List Pp) → All (λ x. p x ≡ false) xs → count_by p xs ≡ 0
count_none p [] all = refl
count_none p (x ∷ xs) all =
    let rest = count_none p xs (All-tail (λ (y : Pp). p y ≡ false) x xs all) in
    let here : cond (p x) 1 0 ≡ 0 = ap one_if (All-head (λ (y : Pp). p y ≡ false) x xs all) in
    omega (arith, rest, here, sum_by-cons (λ (y : Pp). cond (p y) 1 0) x xs)

count_all : (p : Pp → Bool) (xs : List Pp) → ((x : Pp) → p x ≡ true) → count_by p xs ≡ length xs
count_all p [] all = refl
count_all p (x ∷ xs) all =
    let rest = count_all p xs all in
    let here : cond (p x) 1 0 ≡ 1 = ap one_if (all x) in
    omega (arith, rest, here, sum_by-cons (λ (y : Pp). cond (p y) 1 0) x xs)

-- ---- how often a partition stands among those of a disk

abbrev numbered : ℕ → ℕ → Pp
numbered disk k = record { disk = disk; pp = k }

-- the first partitions of a disk
abbrev firsts : ℕ → ℕ → List Pp
firsts disk n = map (numbered disk) (range_with_len 0 n)

firsts-at : (disk n k : ℕ) (d : Pp) → k < n → get_or (firsts disk n) k d ≡ numbered disk k
firsts-at disk n k d lt = get_or-map-range_with_len (numbered disk) 0 n k k d lt (omega arith)

firsts-size : (disk n : ℕ) → length (firsts disk n) ≡ n
firsts-size disk n = length-map (range_with_len 0 n) (numbered disk) ∙ length-range_with_len 0 n

-- it doesn't where it is another's, or stands behind them
never : (u : Pp) (disk n : ℕ) → ((k : ℕ) → k < n → u ≢ numbered disk k) → count_by (is_pp u) (firsts disk n) ≡ 0
never u disk n apart = count_none (is_pp u) (firsts disk n) (λ k d lt.
    let within : k < n = omega (arith, lt, firsts-size disk n) in
    is_pp-apart u (get_or (firsts disk n) k d) (λ same. apart k within (same ∙ firsts-at disk n k d within)))

-- and else once
once : (u : Pp) (disk n : ℕ) → u.disk ≡ disk → u.pp < n → count_by (is_pp u) (firsts disk n) ≡ 1
once u disk zero on lt = absurd (omega arith)
once u disk (suc n) on lt = elim (cases_lt u.pp n) [
  | inl before ↦
      let apart : is_pp u (numbered disk n) ≡ false = is_pp-apart u (numbered disk n) (λ same. let is : u.pp ≡ n = ap (λ (p : Pp). p.pp) same in omega arith) in
      more 1 (once u disk n on before) (ap one_if apart)
  | inr behind ↦
      let last : u.pp ≡ n = omega arith in
      let is : is_pp u (numbered disk n) ≡ true = is_pp-same u (numbered disk n) (λ t. record { disk = on t; pp = last t }) in
      more 0 (never u disk n (λ k less same. let e : u.pp ≡ k = ap (λ (p : Pp). p.pp) same in omega arith)) (ap one_if is)
]
  where
    more : (so-far : ℕ) {here : ℕ} → count_by (is_pp u) (firsts disk n) ≡ so-far → cond (is_pp u (numbered disk n)) 1 0 ≡ here → count_by (is_pp u) (firsts disk (suc n)) ≡ so-far + here
    more so-far {here} was now =
        let next = sum_by-map-range_with_len_more (λ (y : Pp). cond (is_pp u y) 1 0) (numbered disk) 0 n n (omega arith) in
        let grown : count_by (is_pp u) (firsts disk (n + 1)) ≡ so-far + here = omega (arith, next, was, now) in
        subst (λ m. count_by (is_pp u) (firsts disk m) ≡ so-far + here) (let e : n + 1 ≡ suc n = omega arith in e) grown

-- ---- a member

not_among : (u : Pp) (us : List Pp) → All (λ y. u ≢ y) us → is_among us u ≡ false
not_among u [] apart = refl
not_among u (y ∷ us) apart =
    let here : y.disk == u.disk && y.pp == u.pp ≡ false = is_pp-apart y u (λ same. All-head (λ (z : Pp). u ≢ z) y us apart (sym same)) in
    let rest = not_among u us (All-tail (λ (z : Pp). u ≢ z) y us apart) in
    rw (here, rest) refl

not_or : (a b : Bool) → not (a || b) ≡ not b && not a
not_or true true = refl
not_or true false = refl
not_or false true = refl
not_or false false = refl

pub free_and_used : (row : PvRow) (used : List Pp) → AllPairs (λ (a b : Pp). a ≢ b) used → All (λ (u : Pp). u.disk ≡ row.disk → u.pp < row.pps) used
    → count_by (λ pp. not (is_among used pp)) (partitions_of row) + count_by (λ (u : Pp). u.disk == row.disk) used ≡ row.pps
free_and_used row [] apart within =
    let all = count_all (λ pp. not (is_among [] pp)) (partitions_of row) (λ x. refl) in
    omega (arith, all, partitions-size row)
free_and_used row (u ∷ us) apart within =
    let rest = free_and_used row us (AllPairs-right (λ (a b : Pp). a ≢ b) (u ∷ []) us apart) (All-tail (λ (v : Pp). v.disk ≡ row.disk → v.pp < row.pps) u us within) in
    let without = without_one (λ pp. not (is_among us pp)) (λ pp. not (is_among (u ∷ us) pp)) u
    (λ x. not_or (is_pp u x) (is_among us x))
    (ap not (not_among u us (pairs_head (λ (a b : Pp). a ≢ b) u us apart)))
    (partitions_of row) in
    let next = sum_by-cons (λ (v : Pp). cond (v.disk == row.disk) 1 0) u us in
    let its : count_by (is_pp u) (partitions_of row) ≡ cond (u.disk == row.disk) 1 0 = elim (cases_Bool (u.disk == row.disk)) [
      | inl on ↦
          let same : u.disk ≡ row.disk = eqb-true u.disk row.disk on in
          once u row.disk row.pps same (All-head (λ (v : Pp). v.disk ≡ row.disk → v.pp < row.pps) u us within same) ∙ sym (ap one_if on)
      | inr off ↦
          never u row.disk row.pps (λ k lt same. absurd (apart_disks u.disk row.disk off (ap (λ (p : Pp). p.disk) same)))
          ∙ sym (ap one_if off)
    ] in
    omega (arith, rest, without, next, its)
  where
    apart_disks : (a b : ℕ) → a == b ≡ false → a ≡ b → ⊥
    apart_disks a b off same = grind (arith, nat_tests)

-- ---- of a valid group

own_row : (d : Descriptor) → IsValid d → (row : PvRow) → Contains d.pvs row → (pp : Pp) → IsPartitionOf d pp → pp.disk ≡ row.disk → pp.pp < row.pps
own_row d valid row there pp of on =
    let found = find-Some (λ (r : PvRow). r.disk == pp.disk) d.pvs of.0 of.1 in
    let i = found.1.0 in
    let j = there.0 in
    let at-i : get_or d.pvs i row ≡ of.0 = found.1.2 row in
    let at-j : get_or d.pvs j row ≡ row = there.2 in
    let disk-i : (get_or d.pvs i row).disk ≡ row.disk = ap (λ (r : PvRow). r.disk) at-i ∙ eqb-true of.0.disk pp.disk found.0 ∙ on in
    let disk-j : (get_or d.pvs j row).disk ≡ row.disk = ap (λ (r : PvRow). r.disk) at-j in
    let same : i ≡ j = elim (cases_lt i j) [
      | inl less ↦ absurd (valid.members.disks_differ i j row less there.1 (disk-i ∙ sym disk-j))
      | inr more ↦ elim (cases_lt j i) [
        | inl less ↦ absurd (valid.members.disks_differ j i row less found.1.1 (disk-j ∙ sym disk-i))
        | inr both ↦ omega arith
      ]
    ] in
    let is : of.0 ≡ row = sym at-i ∙ ap (λ k. get_or d.pvs k row) same ∙ at-j in
    let size : of.0.pps ≡ row.pps = ap (λ (r : PvRow). r.pps) is in
    omega (arith, of.2, size)

-- a member's free partitions are its partitions less those that volumes have
pub free_is : (d : Descriptor) → IsValid d → (row : PvRow) → Contains d.pvs row
    → length (free_of (partitions_used d) row) + count_by (λ (u : Pp). u.disk == row.disk) (partitions_used d) ≡ row.pps
free_is d valid row there =
    let used = partitions_used d in
    let both = free_and_used row used valid.maps.used_once (All-weaker (IsPartitionOf d) (λ (u : Pp). u.disk ≡ row.disk → u.pp < row.pps) (own_row d valid row there) used valid.maps.places) in
    omega (arith, both, length-filter (λ pp. not (is_among used pp)) (partitions_of row))
