-- The copy that is open stays as it is, or ends and gives up what it has in hand, and its place in the hold queue where no transfer of it is out.
use Rattle.std.proofs.Common.{◌&&◌, ◌+◌, ◌==◌, [], ap, arith, Bool, false, if◌then◌else◌, length, List, nat_lt, None, not, Option, refl, Some, subst, sym, true, ◌||◌, ℕ, ◌∙◌, ◌∷◌, ◌≡◌}
use Rattle.std.proofs.lemmas.Bool.{ne_eqb}
use Rattle.std.specs.List.{AllByRecursion}
use Rattle.std.specs.Option.{option_map_or}
use Rattle.std.specs.Prelude.{IfSome, slice_index_or}
use Rattle.lvm_num.specs.Buffer.{Buffer}
use Rattle.lvm_num.specs.declared.place.Pp.{Pp}
use Rattle.lvm_num.proofs.Booleans.{not_so}
use Rattle.lvm_disk.specs.Device.{Flight}
use Rattle.lvm_hold.specs.Conflicts.{conflicts}
use Rattle.lvm_hold.specs.Waiting.{is_blocked, Waiting, without}
use Rattle.lvm_hold.specs.declared.queue.Held.{Held}
use Rattle.lvm_hold.specs.declared.queue.Row.{Row}
use Rattle.lvm_session.specs.Bringing.{hand_of, has_row, is_idle, is_out, is_whole, step_of, step_row, with_back, with_copy_end}
use Rattle.lvm_session.specs.Judging.{copies_in, group_in, held_of, is_caught, is_running, place_of}
use Rattle.lvm_session.specs.State.{Core}
use Rattle.lvm_session.specs.declared.bringing.CopyEnd.{CopyEnd}
use Rattle.lvm_session.specs.declared.bringing.CopyEnd.TheVariants as ending
use Rattle.lvm_session.specs.declared.bringing.OpenCopy.{OpenCopy}
use Rattle.lvm_session.specs.declared.bringing.Step.{Step}
use Rattle.lvm_session.specs.declared.bringing.Step.TheVariants as step
use Rattle.lvm_session.specs.declared.flown.Flown.{Flown}
use Rattle.lvm_session.specs.declared.flown.Owner.{Owner}
use Rattle.lvm_session.specs.declared.flown.Owner.TheVariants as owner
use Rattle.lvm_session.specs.declared.open.Open.{Open}
use Rattle.lvm_session.specs.Dark.{hand_of_copy}
use Rattle.lvm_session.specs.Owners.{AreRows, IsCopyStepOf, IsStepOf, IsTransferOf}
use Rattle.lvm_session.specs.Requests.{IsOpenOne}
use Rattle.lvm_session.specs.Sound.{count_if, is_hand, IsCopy, IsGoing, IsReadFrom, rows_of, waiting_rows, with_row}
use Rattle.lvm_keeps.proofs.DarkLemmas.Ending.{back, back_long}
use Rattle.lvm_keeps.proofs.OwnersLemmas.Rows.{data_still, status_still}
use Rattle.lvm_keeps.proofs.Small.{is_false}
use Rattle.lvm_session.proofs.MovesLemmas.{places_by}
use Rattle.lvm_keeps.proofs.RequestsLemmas.{changed, open_on, copy_stepped, kind_over, same_next, SamePlaces}
use Rattle.lvm_keeps_events.proofs.OwnersLemmas.Rows.{rows_each}
use Rattle.lvm_keeps_events.proofs.SoundLemmas.Over.{even_rows, without_step, none_filter}
use Rattle.lvm_keeps_events.proofs.Lists.{or_false}

-- ---- a core in which the copy, the hold queue and the pool have changed

abbrev pub parted : Core → Waiting → Option OpenCopy → List Bool → Core
parted core queue copy pool = changed core core.history core.requests queue copy pool core.flying core.cache.entries core.last

-- nothing more is in the way or caught up with, and what is in hand is out
pub record LeavesParts (core : Core) (queue : Waiting) (copy : Option OpenCopy) (pool : List Bool) : Type 0 where
  pub room : queue.room ≡ core.queue.room
  pub long : length pool ≡ length core.pool
  pub free : (place : ℕ) (ask : Held) → is_blocked core.queue.rows place ask ≡ false → is_blocked queue.rows place ask ≡ false
  pub caught : (group : ℕ) (p : Pp) → is_caught core group p ≡ false → is_caught (parted core queue copy pool) group p ≡ false
  pub places : SamePlaces core (parted core queue copy pool)
  pub bring : IfSome copy (IsCopy (parted core queue copy pool))
  pub rows : queue.rows ≡ rows_of (parted core queue copy pool)
  pub out : option_map_or (λ (k : OpenCopy). is_out k.step) copy false ≡ option_map_or (λ (k : OpenCopy). is_out k.step) core.copy false
  pub steps : (f : Flight) → IsCopyStepOf core f → IsCopyStepOf (parted core queue copy pool) f
  pub hands : (n : ℕ) → count_if (slice_index_or pool n false) + count_if (is_hand n (hand_of_copy core.copy)) ≡ count_if (slice_index_or core.pool n false) + count_if (is_hand n (hand_of_copy copy))

-- ---- it stays

pub kept : (core : Core) → IsGoing core → LeavesParts core core.queue core.copy core.pool
kept core going = record {
  room = refl;
  long = refl;
  free = λ place ask e. e;
  caught = λ group p e. e;
  places = λ ask. refl;
  bring = going.copy;
  rows = going.queue;
  out = refl;
  steps = λ f of. of;
  hands = λ n. refl;
}

-- ---- it ends

-- the step of one that ends
abbrev after_step : Step → Step
after_step at = if is_out at then at else step.Idle

no_hand : (at : Step) → hand_of (after_step at) ≡ None
no_hand step.Idle = refl
no_hand (step.Reading source) = refl
no_hand (step.Read buf) = refl
no_hand step.Writing = refl

out_same : (at : Step) → is_out (after_step at) ≡ is_out at
out_same step.Idle = refl
out_same (step.Reading source) = refl
out_same (step.Read buf) = refl
out_same step.Writing = refl

idle_back : (at : Step) → is_idle (after_step at) ≡ false → is_idle at ≡ false
idle_back step.Idle e = e
idle_back (step.Reading source) e = e
idle_back (step.Read buf) e = refl
idle_back step.Writing e = e

without_others : (n : ℕ) (rows : List Row) → AllByRecursion (λ (r : Row). r.id ≡ n → ⊥) rows → without n rows ≡ rows
without_others n [] others = refl
without_others n (row ∷ rows) others = ap (λ b. if not b then row ∷ without n rows else without n rows) (ne_eqb row.id n others.0) ∙ ap (λ (rest : List Row). row ∷ rest) (without_others n rows others.1)

module _ (core : Core) (going : IsGoing core) (c : OpenCopy) (is : core.copy ≡ Some c) (how : CopyEnd) where
  abbrev pub ended : OpenCopy
  ended = with_copy_end c how

  abbrev pub queue : Waiting
  queue = if is_out c.step then core.queue else record core.queue { rows = without c.place core.queue.rows }

  abbrev pub pool : List Bool
  pool = with_back core.pool (hand_of c.step)

  abbrev now : Core
  now = parted core queue (Some ended) pool

  its : IsCopy core c
  its = subst (λ m. IfSome m (IsCopy core)) is going.copy

  of_copy : {A : Type 0} (t : OpenCopy → A) (none : A) → option_map_or t core.copy none ≡ t c
  of_copy t none = ap (λ m. option_map_or t m none) is

  free_by : (place : ℕ) (ask : Held) (b : Bool) → is_blocked core.queue.rows place ask ≡ false → is_blocked (if b then core.queue else record core.queue { rows = without c.place core.queue.rows }).rows place ask ≡ false
  free_by place ask true e = e
  free_by place ask false e = none_filter (λ (r : Row). nat_lt r.id place && conflicts r.ask ask) (λ (r : Row). not (r.id == c.place)) core.queue.rows e

  -- ---- its row

  abbrev others : List Row
  others = waiting_rows core.requests

  abbrev all_rows : List Row
  all_rows = with_row (step_row core c) others

  rows_were : core.queue.rows ≡ (if has_row core c then all_rows else others)
  rows_were = going.queue ∙ of_copy (λ (k : OpenCopy). if has_row core k then with_row (step_row core k) others else others) others

  odd : AllByRecursion (λ (r : Row). r.id ≡ c.place → ⊥) others
  odd = subst (λ n. AllByRecursion (λ (r : Row). r.id ≡ n → ⊥) others) (sym its.place.2) (even_rows its.place.0 core.requests)

  without_its : (b : Bool) → without c.place (if b then all_rows else others) ≡ others
  without_its true = without_step (step_row core c) others odd
  without_its false = without_others c.place others odd

  rows_by : (b : Bool) → is_out c.step ≡ b → (if b then core.queue else record core.queue { rows = without c.place core.queue.rows }).rows ≡ (if b then all_rows else others)
  rows_by true e = rows_were ∙ ap (λ x. if x || (is_running c && not (is_whole core c)) then all_rows else others) e
  rows_by false e = ap (without c.place) rows_were ∙ without_its (has_row core c)

  rows_are : queue.rows ≡ rows_of now
  rows_are = rows_by (is_out c.step) refl ∙ sym (ap (λ x. if x || false then all_rows else others) (out_same c.step) ∙ ap (λ x. if x then all_rows else others) (or_false (is_out c.step)))

  room_by : (b : Bool) → (if b then core.queue else record core.queue { rows = without c.place core.queue.rows }).room ≡ core.queue.room
  room_by true = refl
  room_by false = refl

  -- ---- its step

  source_on : (at : Step) (copies : List Pp) → IsReadFrom at copies c → IsReadFrom (after_step at) copies ended
  source_on step.Idle copies its_source = tt
  source_on (step.Reading source) copies its_source = its_source
  source_on (step.Read buf) copies its_source = tt
  source_on step.Writing copies its_source = tt

  step_on : (at : Step) (f : Flight) → IsStepOf at core c f → IsStepOf (after_step at) now ended f
  step_on step.Idle f of = of
  step_on (step.Reading source) f of = record { disk_is = of.disk_is; first = of.first; count = of.count; write_is = of.write_is }
  step_on (step.Read buf) f of = absurd of
  step_on step.Writing f of = record { disk_is = of.disk_is; first = of.first; count = of.count; write_is = of.write_is }

  bring_now : (c.moves ≡ true → how ≡ ending.Done → ⊥) → IsCopy now ended
  bring_now undone = copy_stepped core now c ended.step c.tried (Some how) refl (same_next core) its
      (subst (λ h. IfSome h (λ (buf : Buffer). length buf.sectors ≡ 256)) (sym (no_hand c.step)) tt)
      (λ busy. ap not (free_by c.place (step_of core c) (is_out c.step) (is_false (is_blocked core.queue.rows c.place (step_of core c)) (its.free (idle_back c.step busy)))))
      (λ e. no_hand c.step) its.tried (source_on c.step (copies_in core.descriptor c.lv c.lp) its.source) (λ runs busy. not_so runs)
      (kind_over core now c ended.step c.tried (Some how) refl refl refl (λ e. e) c.moves (λ moves move done. undone moves (cc done)) its.kind)

  -- a request beside it stays, however it ends
  pub one_ended : (x : Open) → IsOpenOne core x → IsOpenOne now x
  one_ended x it = open_on core core.history core.requests queue (Some ended) pool core.flying core.cache.entries core.last x (free_by (place_of x.request.id) (held_of x.request.ask) (is_out c.step)) (λ p e. refl) (λ ask. ap (places_by core ask) is) it

  pub leaves : (c.moves ≡ true → how ≡ ending.Done → ⊥) → LeavesParts core queue (Some ended) pool
  leaves undone = record {
    room = room_by (is_out c.step);
    long = back_long core.pool (hand_of c.step);
    free = λ place ask e. free_by place ask (is_out c.step) e;
    caught = λ group p e. refl;
    places = λ ask. ap (places_by core ask) is;
    bring = bring_now undone;
    rows = rows_are;
    out = out_same c.step ∙ sym (of_copy (λ (k : OpenCopy). is_out k.step) false);
    steps = λ f of. (ended, refl, step_on c.step f (subst (λ (k : OpenCopy). IsStepOf k.step core k f) (let e : Some of.0 ≡ Some c = sym of.1 ∙ is in cc e) of.2));
    hands = λ n.
        let low = going.hands n in
        let same : count_if (is_hand n (hand_of_copy core.copy)) ≡ count_if (is_hand n (hand_of c.step)) = ap (λ m. count_if (is_hand n (hand_of_copy m))) is in
        let given = back core.pool (hand_of c.step) n (omega (arith, low, same)) in
        let none : count_if (is_hand n (hand_of (after_step c.step))) ≡ 0 = ap (λ h. count_if (is_hand n h)) (no_hand c.step) in
        omega (arith, same, given, none);
  }

-- ---- a request beside it

pub one_on : (core : Core) (queue : Waiting) (copy : Option OpenCopy) (pool : List Bool) → LeavesParts core queue copy pool → (x : Open) → IsOpenOne core x → IsOpenOne (parted core queue copy pool) x
one_on core queue copy pool left x it = open_on core core.history core.requests queue copy pool core.flying core.cache.entries core.last x (left.free (place_of x.request.id) (held_of x.request.ask)) (left.caught (group_in core x.request.ask)) left.places it

-- the rows of others stay
module _ (core : Core) (queue : Waiting) (copy : Option OpenCopy) (pool : List Bool) (left : LeavesParts core queue copy pool) where
  transfer_on : (who : Owner) (g : Flight) → IsTransferOf core who g → IsTransferOf (parted core queue copy pool) who g
  transfer_on (owner.Data id target) g of = data_still core (parted core queue copy pool) refl id target g of
  transfer_on (owner.Status d) g of = status_still core (parted core queue copy pool) refl d g of
  transfer_on (owner.Note d) g of = record { note = of.note; flies = of.flies; disk_is = of.disk_is; first = of.first; count = of.count; write = of.write; carries = of.carries }
  transfer_on owner.Copy g of = left.steps g of

  pub rows_on : (rows : List Flown) (flights : List Flight) → AreRows core rows flights → AreRows (parted core queue copy pool) rows flights
  rows_on rows flights all = rows_each core (parted core queue copy pool) transfer_on rows flights all
