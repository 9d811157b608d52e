-- Each request that waits, and the step of the copy that is open, has its row in the hold queue of a sound session.
use Rattle.std.proofs.Common.{◌≡◌, inl, inr, ℕ, zero, suc, Bool, true, false, if◌then◌else◌, List, [], ◌∷◌, Option, Some, None, slice_get, refl, sym, ap, subst, ◌∙◌}
use Rattle.std.specs.Prelude.{nat_lt}
use Rattle.std.specs.Option.{option_map_or}
use Rattle.lvm_kept.specs.Group.{IsOneOf}
use Rattle.lvm_kept.specs.Torn.{RecordWrite}
use Rattle.lvm_hold.specs.declared.queue.Row.{Row}
use Rattle.lvm_path.specs.declared.request.Phase.TheVariants as phase
use Rattle.lvm_session.specs.declared.open.Open.{Open}
use Rattle.lvm_session.specs.declared.bringing.OpenCopy.{OpenCopy}
use Rattle.lvm_session.specs.State.{Core, State}
use Rattle.lvm_session.specs.Judging.{held_of, is_waiting, place_of}
use Rattle.lvm_session.specs.Bringing.{has_row, step_row}
use Rattle.lvm_session.specs.Sound.{rows_of, waiting_rows, with_row}
use Rattle.lvm_tie.specs.Tied.{IsOrderly}
use Rattle.lvm_tie.proofs.TiedLemmas.Orderly.{open_one}

-- each that waits has its row, and one that doesn't has landed
pub record HaveRows (core : Core) : Type 0 where
  pub requests : (k : ℕ) (o : Open) → slice_get core.requests k ≡ Some o → is_waiting o ≡ true → IsOneOf core.queue.rows (record { id = place_of o.request.id; ask = held_of o.request.ask })
  pub a_step : (c : OpenCopy) → core.copy ≡ Some c → has_row core c ≡ true → IsOneOf core.queue.rows (step_row core c)
  pub landed : (k : ℕ) (o : Open) → slice_get core.requests k ≡ Some o → is_waiting o ≡ false → o.request.phase ≡ phase.Landed

among_rows : (o : Open) (os : List Open) (k : ℕ) → slice_get os k ≡ Some o → is_waiting o ≡ true → IsOneOf (waiting_rows os) (record { id = place_of o.request.id; ask = held_of o.request.ask })
among_rows o [] k there waits = absurd (cc there)
among_rows o (x ∷ os) zero there waits = by (is_waiting x) (ap is_waiting same ∙ waits)
  where
    same : x ≡ o
    same = cc there

    by : (b : Bool) → b ≡ true → IsOneOf (if b then record { id = place_of x.request.id; ask = held_of x.request.ask } ∷ waiting_rows os else waiting_rows os) (record { id = place_of o.request.id; ask = held_of o.request.ask })
    by true is = inl (ap (λ (y : Open). record { id = place_of y.request.id; ask = held_of y.request.ask }) (sym same))
    by false is = absurd (cc is)
among_rows o (x ∷ os) (suc k) there waits = by (is_waiting x) (among_rows o os k there waits)
  where
    by : (b : Bool) → IsOneOf (waiting_rows os) (record { id = place_of o.request.id; ask = held_of o.request.ask })
        → IsOneOf (if b then record { id = place_of x.request.id; ask = held_of x.request.ask } ∷ waiting_rows os else waiting_rows os) (record { id = place_of o.request.id; ask = held_of o.request.ask })
    by true rest = inr rest
    by false rest = rest

with_row_has : (own : Row) (rows : List Row) → IsOneOf (with_row own rows) own
with_row_has own [] = inl refl
with_row_has own (row ∷ rows) = by (nat_lt own.id row.id) (with_row_has own rows)
  where
    by : (b : Bool) → IsOneOf (with_row own rows) own → IsOneOf (if b then own ∷ row ∷ rows else row ∷ with_row own rows) own
    by true others = inl refl
    by false others = inr others

with_row_keeps : (own row : Row) (rows : List Row) → IsOneOf rows row → IsOneOf (with_row own rows) row
with_row_keeps own row [] one = absurd one
with_row_keeps own row (r ∷ rows) one = by (nat_lt own.id r.id) one (with_row_keeps own row rows)
  where
    by : (b : Bool) → IsOneOf (r ∷ rows) row → (IsOneOf rows row → IsOneOf (with_row own rows) row) → IsOneOf (if b then own ∷ r ∷ rows else r ∷ with_row own rows) row
    by true its others = inr its
    by false (inl here) others = inl here
    by false (inr there) others = inr (others there)

module _ (s : State) (write : Option RecordWrite) (orderly : IsOrderly s write) where
  queue_is : s.core.queue.rows ≡ rows_of s.core
  queue_is = (orderly.sound.on orderly.on).going.queue

  all_rows : (row : Row) → IsOneOf (waiting_rows s.core.requests) row → IsOneOf (rows_of s.core) row
  all_rows row one = by s.core.copy
    where
      of : (c : OpenCopy) (b : Bool) → IsOneOf (if b then with_row (step_row s.core c) (waiting_rows s.core.requests) else waiting_rows s.core.requests) row
      of c true = with_row_keeps (step_row s.core c) row (waiting_rows s.core.requests) one
      of c false = one

      by : (m : Option OpenCopy) → IsOneOf (option_map_or (λ (c : OpenCopy). if has_row s.core c then with_row (step_row s.core c) (waiting_rows s.core.requests) else waiting_rows s.core.requests) m (waiting_rows s.core.requests)) row
      by None = one
      by (Some c) = of c (has_row s.core c)

  pub rows_are : HaveRows s.core
  rows_are = record {
    requests = λ k o there waits. subst (λ (rows : List Row). IsOneOf rows (record { id = place_of o.request.id; ask = held_of o.request.ask })) (sym queue_is) (all_rows (record { id = place_of o.request.id; ask = held_of o.request.ask }) (among_rows o s.core.requests k there waits));
    a_step = λ c is row. subst (λ (rows : List Row). IsOneOf rows (step_row s.core c)) (sym queue_is)
        (subst (λ (m : Option OpenCopy). IsOneOf (option_map_or (λ (x : OpenCopy). if has_row s.core x then with_row (step_row s.core x) (waiting_rows s.core.requests) else waiting_rows s.core.requests) m (waiting_rows s.core.requests)) (step_row s.core c)) (sym is)
        (subst (λ b. IsOneOf (if b then with_row (step_row s.core c) (waiting_rows s.core.requests) else waiting_rows s.core.requests) (step_row s.core c)) (sym row) (with_row_has (step_row s.core c) (waiting_rows s.core.requests))));
    landed = λ k o there over. ((open_one s write orderly k o there).over over).phase_is;
  }
