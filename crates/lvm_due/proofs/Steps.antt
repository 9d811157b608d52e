-- The step of the copy that is open stands in the hold queue, and what it may read.
use Rattle.std.proofs.Common.{◌≡◌, ◌<◌, ◌≤◌, ◌+◌, ℕ, zero, suc, add-one, drop, get_or, length, slice_index_or, Bool, true, false, List, [], ◌∷◌, Option, Some, None, nat_lt, refl, sym, ◌∙◌, ap, subst, arith}
use Rattle.std.specs.Prelude.{◌&&◌, ◌||◌, Contains, IfSome, find, filter, not, if◌then◌else◌}
use Rattle.std.proofs.Math.Seq.{drop-cons}
use Rattle.std.proofs.lemmas.List.{drop_all}
use Rattle.lvm_num.specs.declared.place.Pp.{Pp}
use Rattle.lvm_hold.specs.declared.queue.Row.{Row}
use Rattle.lvm_hold.specs.Order.{IsAscending}
use Rattle.lvm_session.specs.declared.bringing.OpenCopy.{OpenCopy}
use Rattle.lvm_session.specs.State.{Core}
use Rattle.lvm_session.specs.Judging.{is_running}
use Rattle.lvm_session.specs.Bringing.{has_row, is_out, is_whole, step_row}
use Rattle.lvm_session.specs.Sound.{IsCopy, IsGoing, rows_of, waiting_rows, with_row}
use Rattle.lvm_due.proofs.OrderLemmas.{queue_ascends}

module _ (core : Core) (going : IsGoing core) where
  pub its_copy : (c : OpenCopy) → core.copy ≡ Some c → IsCopy core c
  its_copy c is = subst (λ (m : Option OpenCopy). IfSome m (IsCopy core)) is going.copy

  pub ascends : IsAscending core.queue.rows
  ascends = subst IsAscending (sym going.queue) (queue_ascends core its_copy going.told.table.ascending)

row_in : (step : Row) (rows : List Row) → Contains (with_row step rows) step
row_in step [] = (zero, omega arith, refl)
row_in step (row ∷ rows) = by_test (nat_lt step.id row.id) (row_in step rows)
  where
    later : (first : Row) (more : List Row) → Contains more step → Contains (first ∷ more) step
    later first more among = let within = among.1 in (suc among.0, omega (arith, within), among.2)

    by_test : (b : Bool) → Contains (with_row step rows) step → Contains (if b then step ∷ row ∷ rows else row ∷ with_row step rows) step
    by_test true rest = (zero, omega arith, refl)
    by_test false rest = later row (with_row step rows) rest

pub step_in : (core : Core) (c : OpenCopy) → IsGoing core → core.copy ≡ Some c → (is_running c && not (is_whole core c)) ≡ true → Contains core.queue.rows (step_row core c)
step_in core c going is runs =
    let has : has_row core c ≡ true = either (is_out c.step) (is_running c && not (is_whole core c)) runs in
    subst (λ (rows : List Row). Contains rows (step_row core c)) (sym (going.queue ∙ ap rows_by is ∙ ap (λ (b : Bool). if b then with_row (step_row core c) (waiting_rows core.requests) else waiting_rows core.requests) has))
    (row_in (step_row core c) (waiting_rows core.requests))
  where
    either : (a b : Bool) → b ≡ true → (a || b) ≡ true
    either true b is = refl
    either false b is = is

    rows_by : Option OpenCopy → List Row
    rows_by copy = Rattle.std.specs.Option.option_map_or (λ (d : OpenCopy). if has_row core d then with_row (step_row core d) (waiting_rows core.requests) else waiting_rows core.requests) copy (waiting_rows core.requests)

-- the first of those that are left
pub find_left : (f g : Pp → Bool) (ps : List Pp) → find g (filter f ps) ≡ find (λ (p : Pp). f p && g p) ps
find_left f g [] = refl
find_left f g (p ∷ ps) = by_test (f p) refl (find_left f g ps)
  where
    by_test : (a : Bool) → f p ≡ a → find g (filter f ps) ≡ find (λ (q : Pp). f q && g q) ps → find g (filter f (p ∷ ps)) ≡ find (λ (q : Pp). f q && g q) (p ∷ ps)
    by_test true is rest =
        ap (λ (b : Bool). find g (if b then p ∷ filter f ps else filter f ps)) is
        ∙ ap (λ (o : Option Pp). if g p then Some p else o) rest
        ∙ sym (ap (λ (b : Bool). if b && g p then Some p else find (λ (q : Pp). f q && g q) ps) is)
    by_test false is rest =
        ap (λ (b : Bool). find g (if b then p ∷ filter f ps else filter f ps)) is
        ∙ rest
        ∙ sym (ap (λ (b : Bool). if b && g p then Some p else find (λ (q : Pp). f q && g q) ps) is)

module _ (h : Pp → Bool) (ps : List Pp) (k : ℕ) (p : Pp) (within : k < length ps) (is : p ≡ get_or ps k p) where
  rest_is : drop k ps ≡ p ∷ drop (k + 1) ps
  rest_is = drop-cons ps k p within ∙ ap (λ x. x ∷ drop (suc k) ps) (sym is) ∙ ap (λ n. p ∷ drop n ps) (sym (add-one k))

  -- the search ends here
  pub found_here : h p ≡ true → find h (drop k ps) ≡ Some p
  found_here passes = ap (find h) rest_is ∙ ap (λ (b : Bool). if b then Some p else find h (drop (k + 1) ps)) passes

  -- or goes on
  pub found_later : h p ≡ false → find h (drop k ps) ≡ find h (drop (k + 1) ps)
  found_later fails = ap (find h) rest_is ∙ ap (λ (b : Bool). if b then Some p else find h (drop (k + 1) ps)) fails

pub found_none : (h : Pp → Bool) (ps : List Pp) (k : ℕ) → length ps ≤ k → find h (drop k ps) ≡ None
found_none h ps k past = ap (find h) (drop_all k ps past)

pub flipped : (a b : Bool) → not a ≡ b → a ≡ not b
flipped true b is = ap not is
flipped false b is = ap not is

-- what is read within a list is there whatever is put past it
pub index_same : (ps : List Pp) (k : ℕ) (d : Pp) → k < length ps → slice_index_or ps k d ≡ get_or ps k (slice_index_or ps k d)
index_same [] k d within = absurd (omega (arith, within))
index_same (p ∷ ps) zero d within = refl
index_same (p ∷ ps) (suc k) d within = index_same ps k d (omega (arith, within))
