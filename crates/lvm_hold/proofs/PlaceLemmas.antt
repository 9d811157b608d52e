-- Places of rows, whose ids ascend.
use Rattle.std.proofs.Common.{◌≡◌, ◌==◌, ◌≢◌, ◌+◌, ◌<◌, ◌≤◌, ◌++◌, [], ◌∷◌, ℕ, zero, suc, List, Option, Some, None, Bool, true, false, cond, not, refl, sym, ◌∙◌, ap, subst, inl, inr, arith, length, get_or, length-append, Result, Ok, Err}
use Rattle.std.specs.List.{All, Contains, find}
use Rattle.std.specs.List.Sorted.{IsSearchInRange, IsBinarySearchResult, IsNonDecreasingBy}
use Rattle.std.specs.Ordering.{nat_cmp, ordering_index}
use Rattle.std.specs.Option.{option_map, is_some, IfSome}
use Rattle.std.specs.Result.{result_ok}
use Rattle.std.proofs.lemmas.Option.{same_Some}
use Rattle.std.proofs.lemmas.Cmp.{ranked}
use Rattle.std.proofs.lemmas.Bool.{eqb-true, eq-eqb, ne_eqb, cases_lt, cases_eq}
use Rattle.std.proofs.lemmas.Bool.Decides.{nat_tests}
use Rattle.std.proofs.lemmas.List.{get_or_at}
use Rattle.std.proofs.lemmas.List.Elements.{All-head, All-tail, All-cons, Contains-get_or}
use Rattle.lvm_hold.specs.declared.queue.Row.{Row}
use Rattle.lvm_hold.specs.Order.{IsAscending}
use Rattle.lvm_hold.specs.Waiting.{without, IsInside}
use Rattle.lvm_hold.proofs.OrderLemmas.{inside_tells}
use Rattle.lvm_hold.specs.Chains.{place_in}

-- the rows are those before the place, the one of this id there, and those behind it
pub record SplitsAt (rows : List Row) (id place : ℕ) : Type 0 where
  pub front : List Row
  pub row : Row
  pub back : List Row
  pub is : rows ≡ front ++ row ∷ back
  pub at : length front ≡ place
  pub its : row.id ≡ id

split_further : (first : Row) (rows : List Row) (id k : ℕ) → SplitsAt rows id k → SplitsAt (first ∷ rows) id (suc k)
split_further first rows id k s = record { front = first ∷ s.front; row = s.row; back = s.back; is = ap (λ (rs : List Row). first ∷ rs) s.is; at = ap suc s.at; its = s.its }

split_cases : (t : Bool) (o : Option ℕ) (first : Row) (rows : List Row) (id place : ℕ) → (first.id == id) ≡ t → place_in id rows ≡ o → ((k : ℕ) → place_in id rows ≡ Some k → SplitsAt rows id k) → cond t (Some 0) (option_map suc o) ≡ Some place → SplitsAt (first ∷ rows) id place
split_cases true o first rows id place test at rest is =
    let none : 0 ≡ place = same_Some 0 place is in
    record { front = []; row = first; back = rows; is = refl; at = none; its = eqb-true first.id id test }
split_cases false (Some k) first rows id place test at rest is =
    let more : suc k ≡ place = same_Some (suc k) place is in
    subst (SplitsAt (first ∷ rows) id) more (split_further first rows id k (rest k at))
split_cases false None first rows id place test at rest is = cc

pub splits : (rows : List Row) (id place : ℕ) → place_in id rows ≡ Some place → SplitsAt rows id place
splits [] id place is = cc
splits (first ∷ rows) id place is = split_cases (first.id == id) (place_in id rows) first rows id place refl refl (λ k at. splits rows id k at) is

pub place_within : (rows : List Row) (id place : ℕ) → place_in id rows ≡ Some place → place < length rows
place_within rows id place is =
    let s = splits rows id place is in
    let size : length rows ≡ length s.front + suc (length s.back) = ap length s.is ∙ length-append s.front (s.row ∷ s.back) in
    omega (arith, s.at)

pub some_within : (rows : List Row) (id : ℕ) (o : Option ℕ) → o ≡ place_in id rows → IfSome o (λ place. place < length rows)
some_within rows id None is = tt
some_within rows id (Some place) is = place_within rows id place (sym is)

-- the place of an id tells whether it is found
found_cases : (t : Bool) (row : Row) (o : Option ℕ) (r : Option Row) → is_some o ≡ is_some r → is_some (cond t (Some 0) (option_map suc o)) ≡ is_some (cond t (Some row) r)
found_cases true row o r same = refl
found_cases false row None r same = same
found_cases false row (Some k) r same = same

pub place_tells : (rows : List Row) (id : ℕ) → is_some (place_in id rows) ≡ is_some (find (λ (row : Row). row.id == id) rows)
place_tells [] id = refl
place_tells (row ∷ rows) id = found_cases (row.id == id) row (place_in id rows) (find (λ (r : Row). r.id == id) rows) (place_tells rows id)

-- none has the id
pub place_none : (rows : List Row) (id : ℕ) → All (λ (row : Row). row.id ≢ id) rows → place_in id rows ≡ None
place_none [] id none = refl
place_none (row ∷ rows) id none =
    rw (ne_eqb row.id id (All-head (λ (r : Row). r.id ≢ id) row rows none), place_none rows id (All-tail (λ (r : Row). r.id ≢ id) row rows none)) refl

-- the one at a place has the id, and ids ascend
pub place_some : (rows : List Row) (id place : ℕ) → IsAscending rows → place < length rows → ((d : Row) → (get_or rows place d).id ≡ id) → place_in id rows ≡ Some place
place_some [] id place order lt its = absurd (omega arith)
place_some (row ∷ rows) id zero order lt its = rw (eq-eqb row.id id (its row)) refl
place_some (row ∷ rows) id (suc k) order lt its =
    let below : row.id < (get_or rows k row).id = order.0 k row (omega arith) in
    let same : (get_or rows k row).id ≡ id = its row in
    rw (ne_eqb row.id id (λ e. absurd (omega arith)), place_some rows id k order.1 (omega arith) its) refl

-- ---- a search

pub rises : (rows : List Row) (i j : ℕ) (d : Row) → IsAscending rows → i < j → j < length rows → (get_or rows i d).id < (get_or rows j d).id
rises [] i j d order less lt = absurd (omega arith)
rises (row ∷ rows) zero zero d order less lt = absurd (omega arith)
rises (row ∷ rows) (suc i) zero d order less lt = absurd (omega arith)
rises (row ∷ rows) zero (suc j) d order less lt = order.0 j d (omega arith)
rises (row ∷ rows) (suc i) (suc j) d order less lt = rises rows i j d order.1 (omega arith) (omega arith)

ranks_rise : (rows : List Row) (id : ℕ) → IsAscending rows → IsNonDecreasingBy (λ (row : Row). ordering_index (nat_cmp row.id id)) rows
ranks_rise rows id order i j d le lt =
    let never_falls : (get_or rows i d).id ≤ (get_or rows j d).id = elim (cases_eq i j) [
      | inl same ↦ omega (arith, ap (λ n. (get_or rows n d).id) same)
      | inr apart ↦ omega (arith, rises rows i j d order (omega arith) lt)
    ] in
    grind (arith, nat_tests)

pub searched : (rows : List Row) (id : ℕ) (r : Result ℕ ℕ) → IsAscending rows → IsSearchInRange r (length rows) → IsBinarySearchResult (λ (row : Row). nat_cmp row.id id) rows r → result_ok r ≡ place_in id rows
searched rows id (Ok at) order within equal = sym (place_some rows id at order within (λ d. ranked (get_or rows at d).id id _ (sym (equal d))))
searched rows id (Err at) order within parted =
    let parts = parted (ranks_rise rows id order) in
    sym (place_none rows id
    (λ k d lt. elim (cases_lt k at) [
      | inl below ↦ λ same. let less : (get_or rows k d).id < id = ranked (get_or rows k d).id id _ (sym (parts.0 k d (omega arith) below)) in omega arith
      | inr past ↦ λ same. let more : id < (get_or rows k d).id = ranked (get_or rows k d).id id _ (sym (parts.1 k d past lt)) in omega arith
    ]))

-- ---- one less

-- ids below the one that leaves, and above it, stay
stays_test : (t : Bool) (row : Row) (rows others : List Row) → t ≡ false → rows ≡ others → cond (not t) (row ∷ rows) rows ≡ row ∷ others
stays_test false row rows others is same = ap (λ (rs : List Row). row ∷ rs) same
stays_test true row rows others is same = cc

above_stay : (id : ℕ) (rows : List Row) → All (λ (row : Row). id < row.id) rows → without id rows ≡ rows
above_stay id [] above = refl
above_stay id (row ∷ rows) above =
    let more : id < row.id = All-head (λ (r : Row). id < r.id) row rows above in
    stays_test (row.id == id) row (without id rows) rows (ne_eqb row.id id (λ e. absurd (omega arith))) (above_stay id rows (All-tail (λ (r : Row). id < r.id) row rows above))

gone_test : (t : Bool) (row : Row) (rows others : List Row) → t ≡ true → rows ≡ others → cond (not t) (row ∷ rows) rows ≡ others
gone_test true row rows others is same = same
gone_test false row rows others is same = cc

pub without_middle : (front : List Row) (row : Row) (back : List Row) → IsAscending (front ++ row ∷ back) → without row.id (front ++ row ∷ back) ≡ front ++ back
without_middle [] row back order = gone_test (row.id == row.id) row (without row.id back) back (eq-eqb row.id row.id refl) (above_stay row.id back order.0)
without_middle (first ∷ front) row back order =
    let less : first.id < (get_or (front ++ row ∷ back) (length front) row).id = order.0 (length front) row (omega (arith, length-append front (row ∷ back))) in
    let it : get_or (front ++ row ∷ back) (length front) row ≡ row = get_or_at front row back row (length front) refl in
    let same : (get_or (front ++ row ∷ back) (length front) row).id ≡ row.id = ap (λ (r : Row). r.id) it in
    stays_test (first.id == row.id) first (without row.id (front ++ row ∷ back)) (front ++ back) (ne_eqb first.id row.id (λ e. absurd (omega arith))) (without_middle front row back order.1)

pub All-middle : (P : Row → Type 0) (front : List Row) (row : Row) (back : List Row) → All P (front ++ row ∷ back) → All P (front ++ back)
All-middle P [] row back all = All-tail P row back all
All-middle P (first ∷ front) row back all =
    All-cons P first (front ++ back) (All-head P first (front ++ row ∷ back) all) (All-middle P front row back (All-tail P first (front ++ row ∷ back) all))

pub ascending_middle : (front : List Row) (row : Row) (back : List Row) → IsAscending (front ++ row ∷ back) → IsAscending (front ++ back)
ascending_middle [] row back order = order.1
ascending_middle (first ∷ front) row back order = (All-middle (λ (later : Row). first.id < later.id) front row back order.0, ascending_middle front row back order.1)

-- ---- one that is inside

pub inside_has_place : (rows : List Row) (id : ℕ) → IsAscending rows → IsInside rows id → place_in id rows ≡ None → ⊥
inside_has_place rows id order inside none =
    let tells = inside_tells rows id (find (λ (row : Row). row.id == id) rows) order refl in
    let some : is_some (place_in id rows) ≡ true = place_tells rows id ∙ tells.1 inside in
    let not_some : is_some (place_in id rows) ≡ false = ap is_some none in
    cc

-- the row at its place
pub record IsAt (rows : List Row) (id : ℕ) (row : Row) : Type 0 where
  pub among : Contains rows row
  pub its : row.id ≡ id

pub at_its_place : (rows : List Row) (id place : ℕ) (d : Row) → place_in id rows ≡ Some place → IsAt rows id (get_or rows place d)
at_its_place rows id place d is =
    let s = splits rows id place is in
    let row : get_or rows place d ≡ s.row = ap (λ (rs : List Row). get_or rs place d) s.is ∙ get_or_at s.front s.row s.back d place s.at in
    record { among = Contains-get_or rows place d (place_within rows id place is); its = ap (λ (r : Row). r.id) row ∙ s.its }
