-- Maps by the counts of disks, and by the rows of members.
use Rattle.std.proofs.Common.{◌≡◌, ◌≢◌, inl, inr, ℕ, suc, ◌<◌, ◌≤◌, Bool, true, false, cond, List, [], ◌∷◌, length, get_or, Option, Some, None, refl, sym, ap, ◌∙◌, arith}
use Rattle.std.specs.Prelude.{◌==◌, find, All}
use Rattle.std.proofs.lemmas.Bool.{cases_lt, false≢true, eq-eqb, eqb-true}
use Rattle.std.proofs.lemmas.List.{get_or_past}
use Rattle.std.proofs.lemmas.List.Elements.{All-nil, All-cons, All-weaker}
use Rattle.lvm_num.specs.declared.place.Pp.{Pp}
use Rattle.lvm_num.specs.declared.descriptor.PvRow.{PvRow}
use Rattle.lvm_num.specs.declared.descriptor.Descriptor.{Descriptor}
use Rattle.lvm_num.specs.Descriptor.{AreMembers, IsPartitionOf, AreMaps, member_of, partitions_used}
use Rattle.lvm_num.specs.Marks.{AreCounts, IsWithinDisk, AreCounted, spot}

-- ---- the first element that passes

pub find-Some : {X : Type 0} (p : X → Bool) (xs : List X) (x : X) → find p xs ≡ Some x
    → (p x ≡ true) × ((k : ℕ) × (k < length xs) × ((d : X) → get_or xs k d ≡ x))
find-Some p [] x e = absurd cc
find-Some {X} p (y ∷ ys) x e = by_test (p y) refl e (find-Some p ys x)
  where
    by_test : (b : Bool) → p y ≡ b → cond b (Some y) (find p ys) ≡ Some x
        → (find p ys ≡ Some x → (p x ≡ true) × ((k : ℕ) × (k < length ys) × ((d : X) → get_or ys k d ≡ x)))
        → (p x ≡ true) × ((k : ℕ) × (k < length (y ∷ ys)) × ((d : X) → get_or (y ∷ ys) k d ≡ x))
    by_test true test is later =
        let same : y ≡ x = cc in
        (ap p (sym same) ∙ test, (0, omega arith, λ d. same))
    by_test false test is later =
        let there = later is in
        (there.0, (suc there.1.0, omega (arith, there.1.1), there.1.2))

pub find-None : {X : Type 0} (p : X → Bool) (xs : List X) → find p xs ≡ None → All (λ x. p x ≡ false) xs
find-None p [] e = All-nil (λ x. p x ≡ false)
find-None {X} p (y ∷ ys) e = by_test (p y) refl e (find-None p ys)
  where
    by_test : (b : Bool) → p y ≡ b → cond b (Some y) (find p ys) ≡ None → (find p ys ≡ None → All (λ x. p x ≡ false) ys) → All (λ x. p x ≡ false) (y ∷ ys)
    by_test true test is later = absurd cc
    by_test false test is later = All-cons (λ x. p x ≡ false) y ys test (later is)

-- ---- partitions that are there

pub within_is_of : (d : Descriptor) (counts : List ℕ) → AreCounts d.pvs counts → (pp : Pp) → IsWithinDisk counts pp → IsPartitionOf d pp
within_is_of d counts counted pp within = by_row (member_of d pp.disk) refl
  where
    by_row : (row : Option PvRow) → member_of d pp.disk ≡ row → IsPartitionOf d pp
    by_row None e =
        let none = counted.others pp.disk (All-weaker (λ (row : PvRow). row.disk == pp.disk ≡ false) (λ (row : PvRow). row.disk ≢ pp.disk)
        (λ row isnt same. false≢true (sym isnt ∙ eq-eqb row.disk pp.disk same)) d.pvs (find-None (λ (row : PvRow). row.disk == pp.disk) d.pvs e)) in
        absurd (omega (arith, within.partition, none))
    by_row (Some row) e =
        let found = find-Some (λ (r : PvRow). r.disk == pp.disk) d.pvs row e in
        let count = counted.members found.1.0 row found.1.1 in
        let is : get_or counts row.disk 0 ≡ row.pps = ap (λ (r : PvRow). get_or counts r.disk 0) (sym (found.1.2 row)) ∙ count ∙ ap (λ (r : PvRow). r.pps) (found.1.2 row) in
        let disk : get_or counts row.disk 0 ≡ get_or counts pp.disk 0 = ap (λ n. get_or counts n 0) (eqb-true row.disk pp.disk found.0) in
        (row, e, omega (arith, within.partition, is, disk))

pub of_is_within : (d : Descriptor) (counts : List ℕ) → AreMembers d.pvs → AreCounts d.pvs counts → (pp : Pp) → IsPartitionOf d pp → IsWithinDisk counts pp
of_is_within d counts members counted pp of =
    let row = of.0 in
    let found = find-Some (λ (r : PvRow). r.disk == pp.disk) d.pvs row of.1 in
    let count = counted.members found.1.0 row found.1.1 in
    let member = members.each found.1.0 row found.1.1 in
    let is : get_or counts row.disk 0 ≡ row.pps = ap (λ (r : PvRow). get_or counts r.disk 0) (sym (found.1.2 row)) ∙ count ∙ ap (λ (r : PvRow). r.pps) (found.1.2 row) in
    let same : row.disk ≡ pp.disk = eqb-true row.disk pp.disk found.0 in
    let disk : get_or counts row.disk 0 ≡ get_or counts pp.disk 0 = ap (λ n. get_or counts n 0) same in
    let there : (get_or d.pvs found.1.0 row).disk ≡ row.disk = ap (λ (r : PvRow). r.disk) (found.1.2 row) in
    record { disk = omega (arith, member.disk, there, same); partition = omega (arith, of.2, is, disk) }

-- ---- the number of a partition among those of all disks

spot-differs : (a b : Pp) → spot a ≢ spot b → a ≢ b
spot-differs a b apart same = apart (ap spot same)

spot-same : (a b : Pp) → a.pp < 1016 → b.pp < 1016 → spot a ≡ spot b → a ≡ b
spot-same a b a-lt b-lt same =
    let disk : a.disk ≡ b.disk = omega arith in
    let pp : a.pp ≡ b.pp = omega arith in
    λ t. record { disk = disk t; pp = pp t }

small-at : (counts : List ℕ) → All (λ count. count ≤ 1016) counts → (k : ℕ) → get_or counts k 0 ≤ 1016
small-at counts most k = elim (cases_lt k (length counts)) [
  | inl less ↦ most k 0 less
  | inr past ↦ omega (arith, get_or_past counts k 0 past)
]

pub counted_is_maps : (d : Descriptor) (counts : List ℕ) → AreCounts d.pvs counts → AreCounted counts d.lvs → AreMaps d
counted_is_maps d counts counted all = record {
  places = All-weaker (IsWithinDisk counts) (IsPartitionOf d) (within_is_of d counts counted) (partitions_used d) all.within;
  laid_out = all.laid_out;
  used_once = λ i j q less lt. spot-differs (get_or (partitions_used d) i q) (get_or (partitions_used d) j q) (all.once i j q less lt);
}

pub maps_is_counted : (d : Descriptor) (counts : List ℕ) → AreMembers d.pvs → AreCounts d.pvs counts → All (λ count. count ≤ 1016) counts
    → AreMaps d → AreCounted counts d.lvs
maps_is_counted d counts members counted most all =
    let within = All-weaker (IsPartitionOf d) (IsWithinDisk counts) (of_is_within d counts members counted) (partitions_used d) all.places in
    record {
      within = within;
      laid_out = all.laid_out;
      once = λ i j q less lt same.
          let a = get_or (partitions_used d) i q in
          let b = get_or (partitions_used d) j q in
          let a-lt : a.pp < 1016 = omega (arith, (within i q (omega arith)).partition, small-at counts most a.disk) in
          let b-lt : b.pp < 1016 = omega (arith, (within j q lt).partition, small-at counts most b.disk) in
          all.used_once i j q less lt (spot-same a b a-lt b-lt same);
    }
