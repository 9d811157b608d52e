-- Which marks go, and which stay.
use Rattle.std.proofs.Common.{◌≡◌, ℕ, ◌<◌, Bool, true, false, cond, ◌&&◌, ◌||◌, List, [], ◌∷◌, filter, refl, sym, ap, ◌∙◌, eq-eqb, arith}
use Rattle.std.specs.Prelude.{◌==◌, not, All, IsTrue, IsFalse}
use Rattle.std.specs.List.{list_any, range_with_len}
use Rattle.std.proofs.lemmas.Bool.{eqb-true}
use Rattle.std.proofs.lemmas.List.Elements.{All-cons, All-nil, All-tail}
use Rattle.lvm_num.specs.declared.descriptor.Descriptor.{Descriptor}
use Rattle.lvm_num.specs.declared.descriptor.LvRow.{LvRow}
use Rattle.lvm_num.specs.declared.status.Status.{Status}
use Rattle.lvm_num.specs.Descriptor.{copies_of}
use Rattle.lvm_num.specs.Status.{calls_dirty}
use Rattle.lvm_num.proofs.AmongLemmas.{any_one, in_range, of_range, one_any}
use Rattle.lvm_core.specs.Committing.{dirt_of, is_in}
use Rattle.lvm_volume_plan.specs.CopiesFaults.{has_usable}
use Rattle.lvm_volumes.specs.Tidying.{lacks_usable, needs_mark, unneeded}

-- ---- which go

same_test : (x y : ℕ) → (x == y) ≡ (y == x)
same_test x y = by (x == y) (y == x) refl refl
  where
    by : (s t : Bool) → (x == y) ≡ s → (y == x) ≡ t → s ≡ t
    by true true a b = refl
    by false false a b = refl
    by true false a b = sym (eq-eqb y x (sym (eqb-true x y a))) ∙ b
    by false true a b = sym a ∙ eq-eqb x y (sym (eqb-true y x b))

none_of : (t : Bool) → t && false ≡ false
none_of true = refl
none_of false = refl

-- of those of which the test doesn't hold
in_rest : (needs : ℕ → Bool) (lv : ℕ) (xs : List ℕ) → is_in (filter (λ n. not (needs n)) xs) lv ≡ list_any (λ n. n == lv) xs && not (needs lv)
in_rest needs lv [] = refl
in_rest needs lv (x ∷ xs) = by (x == lv) refl (needs x) refl (in_rest needs lv xs)
  where
    by : (s : Bool) → (x == lv) ≡ s → (t : Bool) → needs x ≡ t → is_in (filter (λ n. not (needs n)) xs) lv ≡ list_any (λ n. n == lv) xs && not (needs lv)
        → is_in (cond (not t) (x ∷ filter (λ n. not (needs n)) xs) (filter (λ n. not (needs n)) xs)) lv ≡ (s || list_any (λ n. n == lv) xs) && not (needs lv)
    by true same true its rest =
        let here : needs lv ≡ true = ap needs (sym (eqb-true x lv same)) ∙ its in
        let none : not (needs lv) ≡ false = ap not here in
        rest ∙ ap (λ (t : Bool). list_any (λ n. n == lv) xs && t) none ∙ none_of (list_any (λ n. n == lv) xs) ∙ sym none
    by false same true its rest = rest
    by true same false its rest =
        let here : needs lv ≡ false = ap needs (sym (eqb-true x lv same)) ∙ its in
        ap (λ (t : Bool). t || is_in (filter (λ n. not (needs n)) xs) lv) (same_test lv x ∙ same) ∙ sym (ap not here)
    by false same false its rest = ap (λ (t : Bool). t || is_in (filter (λ n. not (needs n)) xs) lv) (same_test lv x ∙ same) ∙ rest

-- so just those stay dirty that need it
pub stay_dirty : (d : Descriptor) (s : Status) (lv : ℕ) → dirt_of [] (unneeded d s) s lv ≡ calls_dirty s lv && needs_mark d.lvs s lv
stay_dirty d s lv = ap (λ (t : Bool). (calls_dirty s lv || false) && not t) (in_rest (needs_mark d.lvs s) lv s.dirty) ∙ by (calls_dirty s lv) (needs_mark d.lvs s lv)
  where
    by : (b t : Bool) → (b || false) && not (b && not t) ≡ b && t
    by true true = refl
    by true false = refl
    by false true = refl
    by false false = refl

-- they are numbers of volumes
pub all_rest : (P : ℕ → Type 0) (test : ℕ → Bool) (xs : List ℕ) → All P xs → All P (filter test xs)
all_rest P test [] all = All-nil P
all_rest P test (x ∷ xs) all = by (test x) (all_rest P test xs (All-tail P x xs all))
  where
    by : (t : Bool) → All P (filter test xs) → All P (cond t (x ∷ filter test xs) (filter test xs))
    by true rest = All-cons P x (filter test xs) (all 0 x (omega arith)) rest
    by false rest = rest

-- ---- a volume without a copy to use

pub some_lacks : (s : Status) (row : LvRow) (lp : ℕ) → lp < row.lps → IsFalse (has_usable s (copies_of row lp)) → lacks_usable s row ≡ true
some_lacks s row lp lt none = one_any (λ n. not (has_usable s (copies_of row n))) (range_with_len 0 row.lps) lp (in_range 0 row.lps lp (omega arith) (omega (arith, lt))) (ap not none)

pub none_lacks : (s : Status) (row : LvRow) → ((lp : ℕ) → lp < row.lps → IsTrue (has_usable s (copies_of row lp))) → lacks_usable s row ≡ false
none_lacks s row each = by (lacks_usable s row) refl
  where
    by : (t : Bool) → lacks_usable s row ≡ t → t ≡ false
    by false is = refl
    by true is =
        let lp = any_one (λ n. not (has_usable s (copies_of row n))) (range_with_len 0 row.lps) is in
        let low = of_range 0 row.lps lp.0 lp.1 in
        let no : false ≡ true = sym (ap not (each lp.0 (omega (arith, low)))) ∙ lp.2 in
        cc no
