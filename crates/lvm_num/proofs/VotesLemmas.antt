-- Votes of sets of members.
use Rattle.std.proofs.Common.{◌≡◌, ◌≢◌, ◌⊎◌, inl, inr, ℕ, suc, ◌+◌, ◌*◌, ◌<◌, ◌≤◌, Bool, true, false, ◌||◌, List, [], ◌∷◌, length, get_or, take, refl, sym, ap, subst, ◌∙◌, arith}
use Rattle.std.specs.Prelude.{◌==◌, IsTrue, nat_lt, nat_le, if◌then◌else◌, sum_by, All, AllPairs}
use Rattle.std.specs.List.{list_any}
use Rattle.std.proofs.lemmas.Bool.{false≢true, eq-eqb, eqb-true, or_parts, ne_eqb}
use Rattle.std.proofs.lemmas.Bool.Decides.{nat_tests}
use Rattle.std.proofs.lemmas.List.Elements.{All-head, All-tail}
use Rattle.std.proofs.lemmas.List.Folds.{list_any_at}
use Rattle.std.proofs.lemmas.List.Sums.{sum_by-cons, sum_by_more}
use Rattle.lvm_num.specs.declared.descriptor.PvRow.{PvRow}
use Rattle.lvm_num.specs.declared.descriptor.Descriptor.{Descriptor}
use Rattle.lvm_num.specs.Disks.{Disks}
use Rattle.lvm_num.specs.Votes.{votes_by, votes_of, votes_in, all_disks, total_votes, ShareMember, ReadMeetsWrite, ReadMeetsRead, WriteMeetsWrite, ReadIsWrite, MoreHaveMore, MoreIsEnough}
use Rattle.lvm_num.proofs.Booleans.{same_itself}

-- ---- two sets whose votes together are more than all

-- a disk of one of these rows in both sets, or no more votes together than all have
abbrev counted : (ℕ → ℕ) → Disks → PvRow → ℕ
counted votes set row = if set row.disk then votes row.disk else 0

either : (p q : Bool) (n : ℕ) → (IsTrue p × IsTrue q) ⊎ ((if p then n else 0) + (if q then n else 0) ≤ n)
either true true n = inl (refl, refl)
either true false n = inr (omega arith)
either false true n = inr (omega arith)
either false false n = inr (omega arith)

Shared : List PvRow → Disks → Disks → Type 0
Shared rows a b = (k : ℕ) × (k < length rows) × ((d : PvRow) → IsTrue (a (get_or rows k d).disk) × IsTrue (b (get_or rows k d).disk))

shared : (votes : ℕ → ℕ) (rows : List PvRow) (a b : Disks)
    → Shared rows a b ⊎ (sum_by (counted votes a) rows + sum_by (counted votes b) rows ≤ sum_by (counted votes all_disks) rows)
unfolding Shared
shared votes [] a b = inr (omega arith)
shared votes (row ∷ rows) a b = elim (either (a row.disk) (b row.disk) (votes row.disk)) [
  | inl here ↦ inl (0, omega arith, λ d. here)
  | inr less ↦ elim (shared votes rows a b) [
    | inl there ↦ inl (suc there.0, omega (arith, there.1), there.2)
    | inr rest ↦ inr (omega (arith, less, rest, sum_by-cons (counted votes a) row rows, sum_by-cons (counted votes b) row rows, sum_by-cons (counted votes all_disks) row rows))
  ]
]

meet : (d : Descriptor) (a b : Disks) → total_votes d < votes_in d a + votes_in d b → ShareMember d a b
unfolding Shared
meet d a b more = elim (shared (votes_of d) d.pvs a b) [
  | inl there ↦
      let row = get_or d.pvs there.0 no_row in
      (row.disk, list_any_at (λ (r : PvRow). r.disk == row.disk) d.pvs there.0 no_row there.1 (eq-eqb row.disk row.disk refl), (there.2 no_row).0, (there.2 no_row).1)
  | inr rest ↦ absurd (omega (arith, more, rest))
]
  where
    no_row : PvRow
    no_row = record { disk = 0; pps = 0; spare = false }

-- ---- the votes of one disk

pub picks : (b : Bool) (m n : ℕ) → b ≡ true → ◌≡◌ {A = ℕ} (if b then m else n) m
picks true m n e = refl
picks false m n e = absurd (false≢true e)

pub leaves : (b : Bool) (m n : ℕ) → b ≡ false → ◌≡◌ {A = ℕ} (if b then m else n) n
leaves true m n e = absurd (false≢true (sym e))
leaves false m n e = refl

-- a disk that is no member has none
pub votes_by-none : (even : Bool) (rows : List PvRow) (disk : ℕ) → list_any (λ (row : PvRow). row.disk == disk) rows ≡ false → votes_by even rows disk ≡ 0
unfolding votes_by
votes_by-none even [] disk none = refl
votes_by-none even (only ∷ []) disk none = leaves (only.disk == disk) 2 0 (or_parts (only.disk == disk) false none).0
votes_by-none even (a ∷ b ∷ []) disk none =
    let first = or_parts (a.disk == disk) (b.disk == disk || false) none in
    let second = or_parts (b.disk == disk) false first.1 in
    leaves (a.disk == disk) (if even then 1 else 2) (if b.disk == disk then 1 else 0) first.0 ∙ leaves (b.disk == disk) 1 0 second.0
votes_by-none even (a ∷ b ∷ c ∷ rows) disk none = leaves (list_any (λ (row : PvRow). row.disk == disk) (a ∷ b ∷ c ∷ rows)) 1 0 none

-- the first of one or two members has two, if they aren't even
pub votes_by-first : (even : Bool) (rows : List PvRow) (e : PvRow) (disk : ℕ) → 1 ≤ length rows → length rows < 3 → even ≡ false → (get_or rows 0 e).disk ≡ disk → votes_by even rows disk ≡ 2
unfolding votes_by
votes_by-first even [] e disk some few uneven is = absurd (omega (arith, some))
votes_by-first even (only ∷ []) e disk some few uneven is = picks (only.disk == disk) 2 0 (eq-eqb only.disk disk is)
votes_by-first even (a ∷ b ∷ []) e disk some few uneven is =
    picks (a.disk == disk) (if even then 1 else 2) (if b.disk == disk then 1 else 0) (eq-eqb a.disk disk is) ∙ leaves even 1 2 uneven
votes_by-first even (a ∷ b ∷ c ∷ rows) e disk some few uneven is = absurd (omega (arith, few))

-- each other member has one
pub votes_by-other : (even : Bool) (rows : List PvRow) (e : PvRow) (disk : ℕ) → list_any (λ (row : PvRow). row.disk == disk) rows ≡ true
    → ((get_or rows 0 e).disk ≢ disk) ⊎ (3 ≤ length rows) ⊎ ((even ≡ true) × (length rows ≡ 2)) → votes_by even rows disk ≡ 1
unfolding votes_by
votes_by-other even [] e disk is other = absurd (false≢true is)
votes_by-other even (only ∷ []) e disk is (inl apart) = absurd (apart (eqb-true only.disk disk (or_true (only.disk == disk) is)))
  where
    or_true : (b : Bool) → b || false ≡ true → b ≡ true
    or_true true h = refl
    or_true false h = h
votes_by-other even (only ∷ []) e disk is (inr (inl many)) = absurd (omega (arith, many))
votes_by-other even (only ∷ []) e disk is (inr (inr both)) = absurd (omega (arith, both.1))
votes_by-other even (a ∷ b ∷ []) e disk is (inl apart) =
    leaves (a.disk == disk) (if even then 1 else 2) (if b.disk == disk then 1 else 0) (ne_eqb a.disk disk apart)
    ∙ picks (b.disk == disk) 1 0 (second (a.disk == disk) (b.disk == disk) (ne_eqb a.disk disk apart) is)
  where
    second : (p q : Bool) → p ≡ false → p || (q || false) ≡ true → q ≡ true
    second true q none h = absurd (false≢true (sym none))
    second false true none h = refl
    second false false none h = h
votes_by-other even (a ∷ b ∷ []) e disk is (inr (inl many)) = absurd (omega (arith, many))
votes_by-other even (a ∷ b ∷ []) e disk is (inr (inr both)) = by_tests even (a.disk == disk) (b.disk == disk) both.0 is
  where
    by_tests : (v p q : Bool) → v ≡ true → p || (q || false) ≡ true → ◌≡◌ {A = ℕ} (if p then (if v then 1 else 2) else (if q then 1 else 0)) 1
    by_tests v true q even-is h = picks v 1 2 even-is
    by_tests v false true even-is h = refl
    by_tests v false false even-is h = absurd (false≢true h)
votes_by-other even (a ∷ b ∷ c ∷ rows) e disk is other = picks (list_any (λ (row : PvRow). row.disk == disk) (a ∷ b ∷ c ∷ rows)) 1 0 is

at_most : (b : Bool) (m n : ℕ) → m ≤ 2 → n ≤ 2 → (if b then m else n) ≤ 2
at_most true m n p q = p
at_most false m n p q = q

-- no disk has more than two
pub votes_by-most : (even : Bool) (rows : List PvRow) (disk : ℕ) → votes_by even rows disk ≤ 2
unfolding votes_by
votes_by-most even [] disk = omega arith
votes_by-most even (only ∷ []) disk = at_most (only.disk == disk) 2 0 (omega arith) (omega arith)
votes_by-most true (first ∷ second ∷ []) disk = at_most (first.disk == disk) 1 _ (omega arith) (at_most (second.disk == disk) 1 0 (omega arith) (omega arith))
votes_by-most false (first ∷ second ∷ []) disk = at_most (first.disk == disk) 2 _ (omega arith) (at_most (second.disk == disk) 1 0 (omega arith) (omega arith))
votes_by-most even (first ∷ second ∷ third ∷ rows) disk = at_most (list_any (λ (row : PvRow). row.disk == disk) (first ∷ second ∷ third ∷ rows)) 1 0 (omega arith) (omega arith)

-- one of three or more members has one
pub votes_by-many : (even : Bool) (rows : List PvRow) (disk : ℕ) → 3 ≤ length rows → list_any (λ (row : PvRow). row.disk == disk) rows ≡ true → votes_by even rows disk ≡ 1
unfolding votes_by
votes_by-many even [] disk many is = absurd (omega (arith, many))
votes_by-many even (a ∷ []) disk many is = absurd (omega (arith, many))
votes_by-many even (a ∷ b ∷ []) disk many is = absurd (omega (arith, many))
votes_by-many even (a ∷ b ∷ c ∷ rows) disk many is = picks (list_any (λ (row : PvRow). row.disk == disk) (a ∷ b ∷ c ∷ rows)) 1 0 is

first-votes : (even : Bool) (row : PvRow) (rows : List PvRow) → 1 ≤ votes_by even (row ∷ rows) row.disk
unfolding votes_by
first-votes even row [] = omega (arith, picks (row.disk == row.disk) 2 0 (same_itself row.disk))
first-votes true row (second ∷ []) = omega (arith, picks (row.disk == row.disk) 1 (if second.disk == row.disk then 1 else 0) (same_itself row.disk))
first-votes false row (second ∷ []) = omega (arith, picks (row.disk == row.disk) 2 (if second.disk == row.disk then 1 else 0) (same_itself row.disk))
first-votes even row (second ∷ third ∷ rows) =
    omega (arith, votes_by-many even (row ∷ second ∷ third ∷ rows) row.disk (omega arith) (list_any_at (λ (r : PvRow). r.disk == row.disk) (row ∷ second ∷ third ∷ rows) 0 row (omega arith) (same_itself row.disk)))

-- ---- the votes of all

sum-ones : (f : PvRow → ℕ) (rows : List PvRow) → All (λ (row : PvRow). f row ≡ 1) rows → sum_by f rows ≡ length rows
sum-ones f [] all = refl
sum-ones f (row ∷ rows) all =
    let here = All-head (λ (r : PvRow). f r ≡ 1) row rows all in
    let rest = sum-ones f rows (All-tail (λ (r : PvRow). f r ≡ 1) row rows all) in
    omega (arith, here, rest, sum_by-cons f row rows)

some_votes : (votes : ℕ → ℕ) (row : PvRow) (rows : List PvRow) → votes row.disk ≤ sum_by (counted votes all_disks) (row ∷ rows)
some_votes votes row rows = omega (arith, sum_by-cons (counted votes all_disks) row rows)

pub total-some : (d : Descriptor) → 1 ≤ length d.pvs → 1 ≤ total_votes d
total-some d some = by_rows d.pvs refl
  where
    by_rows : (rows : List PvRow) → d.pvs ≡ rows → 1 ≤ total_votes d
    by_rows [] e = absurd (omega (arith, some, ap (length {A = PvRow}) e))
    by_rows (row ∷ rows) e =
        subst (λ (list : List PvRow). 1 ≤ sum_by (counted (votes_by d.even list) all_disks) list) (sym e)
        (omega (arith, first-votes d.even row rows, some_votes (votes_by d.even (row ∷ rows)) row rows))

total_by : Bool → List PvRow → ℕ
total_by even rows = sum_by (counted (votes_by even rows) all_disks) rows

pub total-many : (even : Bool) (rows : List PvRow) → 3 ≤ length rows → sum_by (counted (votes_by even rows) all_disks) rows ≡ length rows
total-many even rows many = sum-ones (counted (votes_by even rows) all_disks) rows (λ k row lt.
    let disk = (get_or rows k row).disk in
    votes_by-many even rows disk many (list_any_at (λ (r : PvRow). r.disk == disk) rows k row lt (same_itself disk)))

pub total-one : (even : Bool) (row : PvRow) → sum_by (counted (votes_by even (row ∷ [])) all_disks) (row ∷ []) ≡ 2
unfolding votes_by
total-one even row = omega (arith, picks (row.disk == row.disk) 2 0 (same_itself row.disk))

pub total-two : (even : Bool) (a b : PvRow) → a.disk ≢ b.disk → sum_by (counted (votes_by even (a ∷ b ∷ [])) all_disks) (a ∷ b ∷ []) ≡ (if even then 2 else 3)
unfolding votes_by
total-two true a b apart =
    let first = picks (a.disk == a.disk) 1 (if b.disk == a.disk then 1 else 0) (same_itself a.disk) in
    let second = leaves (a.disk == b.disk) 1 (if b.disk == b.disk then 1 else 0) (ne_eqb a.disk b.disk apart) ∙ picks (b.disk == b.disk) 1 0 (same_itself b.disk) in
    omega (arith, first, second)
total-two false a b apart =
    let first = picks (a.disk == a.disk) 2 (if b.disk == a.disk then 1 else 0) (same_itself a.disk) in
    let second = leaves (a.disk == b.disk) 2 (if b.disk == b.disk then 1 else 0) (ne_eqb a.disk b.disk apart) ∙ picks (b.disk == b.disk) 1 0 (same_itself b.disk) in
    omega (arith, first, second)

-- ---- what is enough

read_and_write : (quorum : Bool) (total x y : ℕ) → IsTrue (if quorum then nat_lt total (2 * x) else nat_le total x) → IsTrue (if quorum then nat_lt total (2 * y) else nat_lt 0 y) → total < x + y
read_and_write true total x y h k = grind (arith, nat_tests)
read_and_write false total x y h k = grind (arith, nat_tests)

read_to_write : (quorum : Bool) (total have : ℕ) → 1 ≤ total → IsTrue (if quorum then nat_lt total (2 * have) else nat_le total have) → IsTrue (if quorum then nat_lt total (2 * have) else nat_lt 0 have)
read_to_write true total have some h = h
read_to_write false total have some h = grind (arith, nat_tests)

write_to_read : (quorum : Bool) (total have : ℕ) → quorum ≡ true → IsTrue (if quorum then nat_lt total (2 * have) else nat_lt 0 have) → IsTrue (if quorum then nat_lt total (2 * have) else nat_le total have)
write_to_read true total have on h = h
write_to_read false total have on h = absurd (false≢true on)

more_read : (quorum : Bool) (total fewer more : ℕ) → fewer ≤ more → IsTrue (if quorum then nat_lt total (2 * fewer) else nat_le total fewer) → IsTrue (if quorum then nat_lt total (2 * more) else nat_le total more)
more_read true total fewer more le h = grind (arith, nat_tests)
more_read false total fewer more le h = grind (arith, nat_tests)

more_write : (quorum : Bool) (total fewer more : ℕ) → fewer ≤ more → IsTrue (if quorum then nat_lt total (2 * fewer) else nat_lt 0 fewer) → IsTrue (if quorum then nat_lt total (2 * more) else nat_lt 0 more)
more_write true total fewer more le h = grind (arith, nat_tests)
more_write false total fewer more le h = grind (arith, nat_tests)

pub read_meets_write : ReadMeetsWrite
read_meets_write d a b h k = meet d a b (read_and_write d.quorum (total_votes d) (votes_in d a) (votes_in d b) h k)

pub read_is_write : ReadIsWrite
read_is_write d have some h = read_to_write d.quorum (total_votes d) have (total-some d some) h

pub read_meets_read : ReadMeetsRead
read_meets_read d a b some h k = read_meets_write d a b h (read_is_write d (votes_in d b) some k)

pub write_meets_write : WriteMeetsWrite
write_meets_write d a b on h k = read_meets_write d a b (write_to_read d.quorum (total_votes d) (votes_in d a) on h) k

pub more_is_enough : MoreIsEnough
more_is_enough = record {
  read = λ d fewer more le h. more_read d.quorum (total_votes d) fewer more le h;
  write = λ d fewer more le h. more_write d.quorum (total_votes d) fewer more le h;
}

-- ---- more members have more votes

implied : (p q : Bool) (n : ℕ) → (p ≡ true → q ≡ true) → (if p then n else 0) ≤ (if q then n else 0)
implied true true n h = omega arith
implied true false n h = absurd (false≢true (h refl))
implied false true n h = omega arith
implied false false n h = omega arith

more_among : (votes : ℕ → ℕ) (rows : List PvRow) (a b : Disks) → All (λ (row : PvRow). IsTrue (a row.disk) → IsTrue (b row.disk)) rows
    → sum_by (counted votes a) rows ≤ sum_by (counted votes b) rows
more_among votes [] a b all = omega arith
more_among votes (row ∷ rows) a b all =
    let here = implied (a row.disk) (b row.disk) (votes row.disk) (All-head (λ (r : PvRow). IsTrue (a r.disk) → IsTrue (b r.disk)) row rows all) in
    let rest = more_among votes rows a b (All-tail (λ (r : PvRow). IsTrue (a r.disk) → IsTrue (b r.disk)) row rows all) in
    omega (arith, here, rest, sum_by-cons (counted votes a) row rows, sum_by-cons (counted votes b) row rows)

-- one more member counted
pub counted-more : (votes : ℕ → ℕ) (set : Disks) (rows : List PvRow) (k : ℕ) (e : PvRow) → k < length rows
    → sum_by (λ (row : PvRow). if set row.disk then votes row.disk else 0) (take (k + 1) rows)
    ≡ sum_by (λ (row : PvRow). if set row.disk then votes row.disk else 0) (take k rows) + (if set (get_or rows k e).disk then votes (get_or rows k e).disk else 0)
counted-more votes set rows k e lt = sum_by_more (counted votes set) rows k e lt

pub more_have_more : MoreHaveMore
more_have_more d a b inside = more_among (votes_of d) d.pvs a b (λ k row lt h.
    let disk = (get_or d.pvs k row).disk in
    inside disk (list_any_at (λ (r : PvRow). r.disk == disk) d.pvs k row lt (eq-eqb disk disk refl)) h)

-- all votes of few members, and of two that are even or of many
pub total-few : (d : Descriptor) → 1 ≤ length d.pvs → length d.pvs < 3 → d.even ≡ false → AllPairs (λ (a b : PvRow). a.disk ≢ b.disk) d.pvs → total_votes d ≡ length d.pvs + 1
total-few d some few uneven apart = by_rows d.pvs refl
  where
    by_rows : (rows : List PvRow) → d.pvs ≡ rows → total_votes d ≡ length d.pvs + 1
    by_rows [] e = absurd (omega (arith, some, ap (length {A = PvRow}) e))
    by_rows (a ∷ []) e = subst (λ (rows : List PvRow). sum_by (counted (votes_by d.even rows) all_disks) rows ≡ length rows + 1) (sym e) (total-one d.even a)
    by_rows (a ∷ b ∷ []) e =
        let differ : a.disk ≢ b.disk = subst (AllPairs (λ (x y : PvRow). x.disk ≢ y.disk)) e apart 0 1 a (omega arith) (omega arith) in
        subst (λ (rows : List PvRow). sum_by (counted (votes_by d.even rows) all_disks) rows ≡ length rows + 1) (sym e) (total-two d.even a b differ ∙ leaves d.even 2 3 uneven)
    by_rows (a ∷ b ∷ c ∷ rows) e = absurd (omega (arith, few, ap (length {A = PvRow}) e))

pub total-even : (d : Descriptor) → d.even ≡ true → length d.pvs ≡ 2 → AllPairs (λ (a b : PvRow). a.disk ≢ b.disk) d.pvs → total_votes d ≡ 2
total-even d even two apart = by_rows d.pvs refl
  where
    by_rows : (rows : List PvRow) → d.pvs ≡ rows → total_votes d ≡ 2
    by_rows [] e = absurd (omega (arith, two, ap (length {A = PvRow}) e))
    by_rows (a ∷ []) e = absurd (omega (arith, two, ap (length {A = PvRow}) e))
    by_rows (a ∷ b ∷ []) e =
        let differ : a.disk ≢ b.disk = subst (AllPairs (λ (x y : PvRow). x.disk ≢ y.disk)) e apart 0 1 a (omega arith) (omega arith) in
        subst (λ (rows : List PvRow). sum_by (counted (votes_by d.even rows) all_disks) rows ≡ 2) (sym e) (total-two d.even a b differ ∙ picks d.even 2 3 even)
    by_rows (a ∷ b ∷ c ∷ rows) e = absurd (omega (arith, two, ap (length {A = PvRow}) e))
