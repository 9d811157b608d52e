-- Members that are named and free leave one after the other, and one stays.
use Rattle.std.proofs.Common.{◌≡◌, ◌≢◌, ℕ, zero, suc, ◌<◌, ◌≤◌, Bool, true, false, ◌&&◌, ◌||◌, not, List, [], ◌∷◌, length, get_or, refl, sym, ◌∙◌, ap, subst, arith}
use Rattle.std.specs.Prelude.{◌==◌, IsTrue, AllPairs}
use Rattle.std.specs.List.{list_any, list_all}
use Rattle.std.proofs.lemmas.Bool.{eqb-true, eq-eqb, ne_eqb, false≢true}
use Rattle.lvm_num.specs.declared.descriptor.PvRow.{PvRow}
use Rattle.lvm_num.specs.declared.descriptor.Descriptor.{Descriptor}
use Rattle.lvm_num.specs.Descriptor.{IsValid, is_member}
use Rattle.lvm_num.specs.Disks.{Disks}
use Rattle.lvm_num.proofs.Booleans.{or_false, clash_gives}
use Rattle.lvm_num.proofs.Lists.{pairs_head, pairs_tail}
use Rattle.lvm_core.specs.Committing.{is_in}
use Rattle.lvm_change_laws.proofs.StayingLemmas.{staying_member}
use Rattle.lvm_member_plan.specs.Descriptors.{reduced, is_used}
use Rattle.lvm_member_plan.specs.Refusals.{AreFree}
use Rattle.lvm_member_plan.specs.Steps.{MayDepart, MayDepartAll}
use Rattle.lvm_member_plan.proofs.LastLemmas.{none_passes}
use Rattle.lvm_member_plan.proofs.NeighbourLemmas.{split_at}
use Rattle.lvm_member_plan.proofs.StepsLemmas.{reduced_valid}

-- Each disk named is a member's, on which no volume has a partition; some member's isn't named.
record AreFreeEach (d : Descriptor) (disks : List ℕ) : Type 0 where
  member : (x : ℕ) → IsTrue (is_in disks x) → IsTrue (is_member d x)
  unused : (x : ℕ) → IsTrue (is_in disks x) → is_used d x ≡ false
  other : ℕ
  stays : IsTrue (is_member d other)
  apart : is_in disks other ≡ false

-- ---- one by one

-- of the rows one's disk isn't among these
record HasOther (leaves : Disks) (rows : List PvRow) : Type 0 where
  disk : ℕ
  row : list_any (λ (r : PvRow). r.disk == disk) rows ≡ true
  off : leaves disk ≡ false

some_other : (leaves : Disks) (rows : List PvRow) → list_all (λ (row : PvRow). leaves row.disk) rows ≡ false → HasOther leaves rows
some_other leaves [] some = absurd (false≢true (sym some))
some_other leaves (row ∷ rows) some = by (leaves row.disk) refl some (some_other leaves rows)
  where
    by : (goes : Bool) → leaves row.disk ≡ goes → goes && list_all (λ (r : PvRow). leaves r.disk) rows ≡ false → (list_all (λ (r : PvRow). leaves r.disk) rows ≡ false → HasOther leaves rows) → HasOther leaves (row ∷ rows)
    by true goes some rest = let its = rest some in record { disk = its.disk; row = or_more (row.disk == its.disk) its.row; off = its.off }
      where
        or_more : (b : Bool) {c : Bool} → c ≡ true → b || c ≡ true
        or_more true is = refl
        or_more false is = is
    by false goes some rest = record { disk = row.disk; row = ap (λ (b : Bool). b || list_any (λ (r : PvRow). r.disk == row.disk) rows) (eq-eqb row.disk row.disk refl); off = goes }

isnt_not : (b : Bool) → not b ≡ false → b ≡ true
isnt_not true is = refl
isnt_not false is = absurd (false≢true (sym is))

each_free : (d : Descriptor) (disks : List ℕ) → AreFree d disks → AreFreeEach d disks
each_free d disks free =
    let rest = some_other (is_in disks) d.pvs free.some_stay in
    record {
      member = λ x on. isnt_not (is_member d x) (none_passes (λ (y : ℕ). not (is_member d y)) disks free.members x on);
      unused = λ x on. none_passes (is_used d) disks free.unused x on;
      other = rest.disk;
      stays = rest.row;
      apart = rest.off;
    }

-- ---- one after the other

none_in : (x : ℕ) (xs : List ℕ) → ((k : ℕ) (e : ℕ) → k < length xs → x ≢ get_or xs k e) → is_in xs x ≡ false
none_in x [] apart = refl
none_in x (y ∷ ys) apart = ap (λ (b : Bool). b || is_in ys x) (ne_eqb x y (apart zero y (omega arith))) ∙ none_in x ys (λ k e few. apart (suc k) e (omega (arith, few)))

either_in : (a : Bool) (b : Bool) → b ≡ true → a || b ≡ true
either_in true b is = refl
either_in false b is = is

module _ (d : Descriptor) (x : ℕ) (xs : List ℕ) (free : AreFreeEach d (x ∷ xs)) (apart : is_in xs x ≡ false) where
  still_member : (y : ℕ) → is_member d y ≡ true → (y == x) ≡ false → IsTrue (is_member (reduced (x ∷ []) d) y)
  still_member y is off = staying_member (is_in (x ∷ [])) y d.pvs ∙ ap (λ (b : Bool). b && not (is_in (x ∷ []) y)) is ∙ ap not (or_false (y == x) ∙ off)

  -- one that is named later is another one
  other_one : (y : ℕ) → is_in xs y ≡ true → (y == x) ≡ false
  other_one y on = by (y == x) refl
    where
      by : (b : Bool) → (y == x) ≡ b → b ≡ false
      by true is = clash_gives (is_in xs y) on (ap (is_in xs) (eqb-true y x is) ∙ apart)
      by false is = refl

  rest_free : AreFreeEach (reduced (x ∷ []) d) xs
  rest_free = record {
    member = λ y on. still_member y (free.member y (either_in (y == x) (is_in xs y) on)) (other_one y on);
    unused = λ y on. free.unused y (either_in (y == x) (is_in xs y) on);
    other = free.other;
    stays = still_member free.other free.stays (fails_first (free.other == x) (is_in xs free.other) free.apart);
    apart = fails_second (free.other == x) (is_in xs free.other) free.apart;
  }
    where
      fails_first : (a b : Bool) → a || b ≡ false → a ≡ false
      fails_first true b is = is
      fails_first false b is = refl

      fails_second : (a b : Bool) → a || b ≡ false → b ≡ false
      fails_second true b is = absurd (false≢true (sym is))
      fails_second false b is = is

  may_depart : MayDepart d x
  may_depart = record {
    member = free.member x named;
    other = free.other;
    stays = free.stays;
    apart = λ same. clash_gives (is_in (x ∷ xs) free.other) (ap (is_in (x ∷ xs)) same ∙ named) free.apart;
    unused = free.unused x named;
  }
    where
      named : is_in (x ∷ xs) x ≡ true
      named = ap (λ (b : Bool). b || is_in xs x) (eq-eqb x x refl)

all_may : (d : Descriptor) (disks : List ℕ) → IsValid d → AllPairs (λ (a b : ℕ). a ≢ b) disks → AreFreeEach d disks → MayDepartAll d disks
all_may d [] valid differ free = tt
all_may d (x ∷ xs) valid differ free =
    let apart : is_in xs x ≡ false = none_in x xs (pairs_head (λ (a b : ℕ). a ≢ b) x xs differ) in
    let may : MayDepart d x = may_depart d x xs free apart in
    (valid, may, all_may (reduced (x ∷ []) d) xs (reduced_valid d x valid may) (pairs_tail (λ (a b : ℕ). a ≢ b) x xs differ) (rest_free d x xs free apart))

pub may_depart_all : (d : Descriptor) (disks : List ℕ) → IsValid d → AllPairs (λ (a b : ℕ). a ≢ b) disks → AreFree d disks → MayDepartAll d disks
may_depart_all d disks valid differ free = all_may d disks valid differ (each_free d disks free)

few_go : (d : Descriptor) (disks : List ℕ) → IsValid d → MayDepartAll d disks → length disks < length d.pvs
few_go d [] valid may = let one = valid.head.a_member in omega (arith, one)
few_go d (x ∷ xs) valid may =
    let less = few_go (reduced (x ∷ []) d) xs (reduced_valid d x valid may.1) may.2 in
    let count = (split_at x d.pvs valid.members.disks_differ may.1.member).fewer in
    omega (arith, less, count)

-- fewer leave than there are
pub few_leave : (d : Descriptor) (disks : List ℕ) → IsValid d → AllPairs (λ (a b : ℕ). a ≢ b) disks → AreFree d disks → length disks < length d.pvs
few_leave d disks valid differ free = few_go d disks valid (may_depart_all d disks valid differ free)
