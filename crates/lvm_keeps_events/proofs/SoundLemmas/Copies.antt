-- What becomes of the copy that is open by the review: it goes on, or ends.
use Rattle.std.proofs.Common.{◌≡◌, ◌⊎◌, inl, inr, ◌==◌, ◌≤◌, ◌+◌, ◌-◌, ◌*◌, ℕ, Bool, true, false, ◌&&◌, ◌||◌, not, nat_lt, if◌then◌else◌, List, [], ◌∷◌, Option, Some, None, length, refl, sym, ◌∙◌, ap, subst, arith}
use Rattle.std.specs.Prelude.{IfSome, find, is_none, slice_index_or, unwrap_or}
use Rattle.std.specs.List.{AllByRecursion}
use Rattle.std.specs.Option.{option_map_or}
use Rattle.std.proofs.lemmas.List.Elements.{filter_agree}
use Rattle.std.proofs.lemmas.Bool.{ne_eqb}
use Rattle.lvm_num.specs.Buffer.{Buffer}
use Rattle.lvm_num.specs.declared.place.Pp.{Pp}
use Rattle.lvm_num.specs.declared.status.Status.{Status}
use Rattle.lvm_num.specs.Disks.{has}
use Rattle.lvm_num.specs.Status.{calls_stale}
use Rattle.lvm_num.specs.Descriptor.{is_pp}
use Rattle.lvm_num.proofs.Booleans.{not_so}
use Rattle.lvm_num.proofs.Lists.{all_weaker}
use Rattle.lvm_disk.specs.Device.{Flight}
use Rattle.lvm_hold.specs.declared.queue.Held.{Held}
use Rattle.lvm_hold.specs.declared.queue.Row.{Row}
use Rattle.lvm_hold.specs.Conflicts.{conflicts}
use Rattle.lvm_hold.specs.Waiting.{Waiting, is_blocked, without}
use Rattle.lvm_status.specs.Update.{Stored}
use Rattle.lvm_session.specs.declared.bringing.CopyEnd.{CopyEnd}
use Rattle.lvm_session.specs.declared.bringing.CopyEnd.TheVariants as ending
use Rattle.lvm_session.specs.declared.bringing.OpenCopy.{OpenCopy}
use Rattle.lvm_session.specs.declared.bringing.Step.{Step}
use Rattle.lvm_session.specs.declared.bringing.Step.TheVariants as step
use Rattle.lvm_session.specs.declared.flown.Owner.TheVariants as owner
use Rattle.lvm_session.specs.State.{Core}
use Rattle.lvm_session.specs.Judging.{copies_in, is_caught, is_missing, is_running, is_stale, is_usable, is_wanted_stale, stays_fresh}
use Rattle.lvm_session.specs.Bringing.{after_copy_end, copy_ends, end_by_sources, end_of, ends_if, groups_of, hand_of, has_row, is_cleared, is_done_end, is_idle, is_out, is_whole, marked_by_end, sources_of, step_of, step_row, with_back, with_end}
use Rattle.lvm_session.specs.Dark.{hand_of_copy}
use Rattle.lvm_session.specs.Marks.{Reviews, WantsStale, is_entailed}
use Rattle.lvm_session.specs.Causes.{IsChosenSince, is_held_stale}
use Rattle.lvm_session.specs.Left.{copy_left, copy_updates, if_so, is_brought_up, step_left, tried_of, update_work}
use Rattle.lvm_session.specs.Owners.{IsCopyStepOf, IsStepOf, flies}
use Rattle.lvm_session.specs.Sound.{IsCopy, IsReadFrom, count_if, is_clearing, is_hand, rows_of, waiting_rows, with_row, IsOfKind}
use Rattle.lvm_session.proofs.MovesLemmas.{places_by}
use Rattle.lvm_keeps.proofs.KeepsLemmas.Landing.{or_parts}
use Rattle.lvm_keeps.proofs.DarkLemmas.Ending.{back, back_long}
use Rattle.lvm_keeps.proofs.Small.{both, is_false}
use Rattle.lvm_keeps.proofs.RequestsLemmas.{copy_stepped, kind_over, never_done, same_next, SamePlaces}
use Rattle.lvm_keeps_events.proofs.SoundLemmas.Over.{even_rows, none_filter, out_no_hand, without_step}
use Rattle.lvm_keeps_events.proofs.JudgingLemmas.Review.{Clears, WriteEnd, Reviewed, and_of, due, flies_is, its_copy, left_behind, mid, missing_is, not_wanted, now, held_by, settled_on, stale_is, still_clear, to_be_cleared, uncleared, usable_is, wanted_on, fresh_from, place_stays}
use Rattle.lvm_keeps_events.proofs.JudgingLemmas.DuesMarks.{own_pp}

-- it goes on as it is, or ends, which is an update less and less work
abbrev pub Fewer : (e : WriteEnd) → Reviewed e → Type 0
Fewer e r =
    ((copy_ends (mid e) ≡ None) × (option_map_or (copy_updates (now e r)) r.copy 0 ≡ option_map_or (copy_updates e.core) e.core.copy 0) × (option_map_or (copy_left (now e r)) r.copy 0 ≡ option_map_or (copy_left e.core) e.core.copy 0))
    ⊎ ((option_map_or (copy_updates (now e r)) r.copy 0 + 1 ≤ option_map_or (copy_updates e.core) e.core.copy 0) × (option_map_or (copy_left (now e r)) r.copy 0 + 256 ≤ option_map_or (copy_left e.core) e.core.copy 0))

-- What is true of it, of its place in the hold queue and of its buffer.
pub record Brings (e : WriteEnd) (r : Reviewed e) : Type 0 where
  pub caught : (group : ℕ) (p : Pp) → is_caught e.core group p ≡ false → is_caught (now e r) group p ≡ false
  pub places : SamePlaces e.core (now e r)
  pub blocked : (place : ℕ) (ask : Held) → is_blocked e.core.queue.rows place ask ≡ false → is_blocked r.queue.rows place ask ≡ false
  pub room : r.queue.room ≡ e.core.queue.room
  pub queue : r.queue.rows ≡ rows_of (now e r)
  pub copy : IfSome r.copy (IsCopy (now e r))
  pub reviewed : copy_ends (now e r) ≡ None
  pub clearings : (p : Pp) → is_held_stale (now e r) p ≡ true → is_wanted_stale (now e r) p ≡ false → is_clearing (now e r) p ≡ true
  pub out : flies (now e r) owner.Copy ≡ flies e.core owner.Copy
  pub step : (f : Flight) → IsCopyStepOf e.core f → IsCopyStepOf (now e r) f
  pub long : length r.pool ≡ length e.pool
  pub hands : (n : ℕ) → count_if (is_hand n (hand_of_copy e.core.copy)) ≤ count_if (slice_index_or e.pool n false)
      → count_if (slice_index_or r.pool n false) + count_if (is_hand n (hand_of_copy e.core.copy)) ≡ count_if (slice_index_or e.pool n false) + count_if (is_hand n (hand_of_copy r.copy))
  pub chosen : IfSome e.core.copy (λ (c : OpenCopy). AllByRecursion (IsChosenSince e.core c) e.core.requests) → IfSome r.copy (λ (c : OpenCopy). AllByRecursion (IsChosenSince (now e r) c) e.core.requests)
  pub brought : (p : Pp) → is_brought_up (now e r) p ≡ true → is_brought_up e.core p ≡ true
  pub carried : (group : ℕ) (p : Pp) → is_brought_up (now e r) p ≡ true → is_caught (now e r) group p ≡ is_caught e.core group p
  pub fewer : Fewer e r

-- ---- it goes on

still_by : (core next : Core) (c : OpenCopy) (rest : Option CopyEnd) (a b w d f : Bool) → (f ≡ true → d ≡ true) → (if not a then None else if b then Some ending.SyncFailed else if w then ends_if d ending.Done else rest) ≡ None
    → (if not a then None else if b then Some ending.SyncFailed else if w then ends_if f ending.Done else rest) ≡ None
still_by core next c rest false b w d f on e = refl
still_by core next c rest true true w d f on e = absurd (cc e)
still_by core next c rest true false true d false on e = refl
still_by core next c rest true false true true true on e = e
still_by core next c rest true false true false true on e = not_so (on refl)
still_by core next c rest true false false d f on e = e

module _ (e : WriteEnd) (status : Stored) (marks : WantsStale (due e) e.next status) (still : copy_ends (mid e) ≡ None) where
  abbrev core : Core
  core = e.core

  abbrev pub going_on : Reviewed e
  going_on = record { status = status; marks = marks; queue = e.core.queue; copy = e.core.copy; pool = e.pool }

  abbrev after : Core
  after = now e going_on

  step_on : (at : Step) (c : OpenCopy) (f : Flight) → IsStepOf at core c f → IsStepOf at after c f
  step_on step.Idle c f its = its
  step_on (step.Reading source) c f its = record { disk_is = its.disk_is; first = its.first; count = its.count; write_is = its.write_is }
  step_on (step.Read buf) c f its = its
  step_on step.Writing c f its = record { disk_is = its.disk_is; first = its.first; count = its.count; write_is = its.write_is }

  bring : (c : OpenCopy) → core.copy ≡ Some c → IsCopy core c → IsCopy after c
  bring c is k = record {
    row = k.row;
    volume = k.volume;
    lp = k.lp;
    kind = by_kind c.moves refl k.kind;
    cursor = k.cursor;
    faults = k.faults;
    place = k.place;
    room = k.room;
    free = k.free;
    hand = k.hand;
    tried = k.tried;
    source = k.source;
    under_way = k.under_way;
  }
    where
      not_left : is_stale (mid e) c.pp ≡ true → is_entailed (mid e) c.pp ≡ false
      not_left stale = by (is_entailed (mid e) c.pp) refl
        where
          by : (b : Bool) → is_entailed (mid e) c.pp ≡ b → is_entailed (mid e) c.pp ≡ false
          by false i = i
          by true i = not_so (sym (left_behind (mid e) c.pp i).fresh ∙ stale)

      by_kind : (b : Bool) → c.moves ≡ b → IsOfKind b core c → IsOfKind b after c
      by_kind false stays it = record {
        its = it.its;
        stale = λ runs short. let was = it.stale runs short in (settled_on e going_on c.pp was.0, wanted_on e going_on c.pp was.1);
        clearing = λ runs whole. let stale = uncleared e still c is stays runs whole in
            (stale_is e going_on c.pp ∙ stale, still_clear e going_on c.pp (it.clearing runs whole).1 (not_left stale) (ap (λ m. marked_by_end (mid e) m c.pp) still));
      }
      by_kind true moves it = record {
        from = it.from;
        its = it.its;
        free = it.free;
        member = it.member;
        member_is = it.member_is;
        inside = it.inside;
        apart = it.apart;
        there = it.there;
        called = it.called;
        clear = λ runs whole. still_clear e going_on c.pp (it.clear runs whole) (place_stays e c it) (ap (λ m. marked_by_end (mid e) m c.pp) still);
        fresh = fresh_from e going_on c.lv c.lp it.fresh;
        ends = it.ends;
      }

  bring_all : IfSome core.copy (IsCopy after)
  bring_all = by core.copy refl e.going.copy
    where
      by : (m : Option OpenCopy) → core.copy ≡ m → IfSome m (IsCopy core) → IfSome m (IsCopy after)
      by None is its = tt
      by (Some c) is its = bring c is its

  sources_same : (c : OpenCopy) → sources_of after c ≡ sources_of (mid e) c
  sources_same c = filter_agree (λ (p : Pp). not (is_pp p c.pp) && is_usable after p) (λ (p : Pp). not (is_pp p c.pp) && is_usable (mid e) p) (λ p. ap (λ b. not (is_pp p c.pp) && b) (usable_is e going_on p)) (copies_in core.descriptor c.lv c.lp)

  cleared_by : (c : OpenCopy) → is_cleared after c ≡ true → is_cleared (mid e) c ≡ true
  cleared_by c is =
      let kind = both (not c.moves) (stays_fresh after c.pp) is in
      let a = both (not (is_held_stale after c.pp)) (not (is_wanted_stale after c.pp)) kind.1 in
      let b = or_parts (is_stale after c.pp) (calls_stale (unwrap_or status.in_flight status.committed) c.pp) (is_false (is_held_stale after c.pp) a.0) in
      and_of (not c.moves) (stays_fresh (mid e) c.pp) kind.0 (and_of (not (is_held_stale (mid e) c.pp)) (not (is_wanted_stale (mid e) c.pp))
      (ap not (ap (λ x. x || calls_stale (unwrap_or e.next.in_flight e.next.committed) c.pp) (sym (stale_is e going_on c.pp) ∙ b.0)
      ∙ (ap (λ (s : Status). calls_stale s c.pp) (e.follows.flies ∙ sym (flies_is e going_on)) ∙ b.1)))
      (ap not (e.follows.stale c.pp ∙ (not_wanted e going_on c.pp (is_false (is_wanted_stale after c.pp) a.1)).0)))

  still_open : (c : OpenCopy) → end_of (mid e) c ≡ None → end_of after c ≡ None
  still_open c i =
      ap (λ b. if not (is_running c) then None else if b then Some ending.SyncFailed else if is_whole core c then ends_if (is_cleared after c) ending.Done else end_by_sources after c) (missing_is e going_on c.pp.disk)
      ∙ ap (λ (ps : List Pp). if not (is_running c) then None else if is_missing (mid e) c.pp.disk then Some ending.SyncFailed else if is_whole core c then ends_if (is_cleared after c) ending.Done
      else if length ps == 0 then Some ending.NoFresh else ends_if (is_idle c.step && is_none (find (λ (p : Pp). not (has c.tried p.disk)) ps)) ending.SyncFailed) (sources_same c)
      ∙ still_by (mid e) after c (end_by_sources (mid e) c) (is_running c) (is_missing (mid e) c.pp.disk) (is_whole core c) (is_cleared (mid e) c) (is_cleared after c) (cleared_by c) i

  reviewed : copy_ends after ≡ None
  reviewed = by core.copy still
    where
      by : (m : Option OpenCopy) → option_map_or (end_of (mid e)) m None ≡ None → option_map_or (end_of after) m None ≡ None
      by None i = refl
      by (Some c) i = still_open c i

  pub goes_on : Brings e going_on
  goes_on = record {
    caught = λ group p is. is;
    places = λ ask. refl;
    blocked = λ place ask free. free;
    room = refl;
    queue = e.going.queue;
    copy = bring_all;
    reviewed = reviewed;
    clearings = λ p held clear. e.going.clearings p (held_by e going_on p held) (not_wanted e going_on p clear).0;
    out = refl;
    step = λ f its. (its.0, its.1, step_on its.0.step its.0 f its.2);
    long = refl;
    hands = λ n low. refl;
    chosen = λ all. all;
    brought = λ p is. is;
    carried = λ group p is. refl;
    fewer = inl (still, refl, refl);
  }

-- ---- it ends

-- its step, unless a transfer of it is out, and its place in the hold queue
pub record IsEnded (core : Core) (c : OpenCopy) (at : Step) (queue : Waiting) : Type 0 where
  pub hand : hand_of at ≡ None
  pub out : is_out at ≡ is_out c.step
  pub step : (f : Flight) → IsStepOf c.step core c f → IsStepOf at core c f
  pub source : IsReadFrom at (copies_in core.descriptor c.lv c.lp) c
  pub free : is_idle at ≡ false → is_blocked queue.rows c.place (step_of core c) ≡ false
  pub room : queue.room ≡ core.queue.room
  pub rows : queue.rows ≡ (if is_out at then with_row (step_row core c) (waiting_rows core.requests) else waiting_rows core.requests)
  pub blocked : (place : ℕ) (ask : Held) → is_blocked core.queue.rows place ask ≡ false → is_blocked queue.rows place ask ≡ false

module _ (e : WriteEnd) (c : OpenCopy) (is : e.core.copy ≡ Some c) where
  rows_were : e.core.queue.rows ≡ (if has_row e.core c then with_row (step_row e.core c) (waiting_rows e.core.requests) else waiting_rows e.core.requests)
  rows_were = e.going.queue ∙ ap (λ m. option_map_or (λ (k : OpenCopy). if has_row e.core k then with_row (step_row e.core k) (waiting_rows e.core.requests) else waiting_rows e.core.requests) m (waiting_rows e.core.requests)) is

  pub out_ended : is_out c.step ≡ true → IsEnded e.core c c.step e.core.queue
  out_ended out = record {
    hand = out_no_hand c.step out;
    out = refl;
    step = λ f its. its;
    source = (its_copy e c is).source;
    free = λ busy. is_false (is_blocked e.core.queue.rows c.place (step_of e.core c)) ((its_copy e c is).free busy);
    room = refl;
    rows = rows_were ∙ ap (λ (b : Bool). if b || (is_running c && not (is_whole e.core c)) then with_row (step_row e.core c) (waiting_rows e.core.requests) else waiting_rows e.core.requests) out
        ∙ sym (ap (λ (b : Bool). if b then with_row (step_row e.core c) (waiting_rows e.core.requests) else waiting_rows e.core.requests) out);
    blocked = λ place ask free. free;
  }

  pub idle_ended : is_out c.step ≡ false → IsEnded e.core c step.Idle (record e.core.queue { rows = without c.place e.core.queue.rows })
  idle_ended out = record {
    hand = refl;
    out = sym out;
    step = λ f its. no_step c.step out f its;
    source = tt;
    free = λ busy. not_so (sym busy);
    room = refl;
    rows = ap (without c.place) rows_were ∙ by (has_row e.core c);
    blocked = λ place ask free. none_filter (λ (r : Row). nat_lt r.id place && conflicts r.ask ask) (λ (r : Row). not (r.id == c.place)) e.core.queue.rows free;
  }
    where
      no_step : (at : Step) → is_out at ≡ false → (f : Flight) → IsStepOf at e.core c f → IsStepOf step.Idle e.core c f
      no_step step.Idle none f its = its
      no_step (step.Reading source) none f its = not_so (sym none)
      no_step (step.Read buf) none f its = its
      no_step step.Writing none f its = not_so (sym none)

      others : AllByRecursion (λ (r : Row). r.id ≡ c.place → ⊥) (waiting_rows e.core.requests)
      others = let place = (its_copy e c is).place in subst (λ n. AllByRecursion (λ (r : Row). r.id ≡ n → ⊥) (waiting_rows e.core.requests)) (sym place.2) (even_rows place.0 e.core.requests)

      kept : (rows : List Row) → AllByRecursion (λ (r : Row). r.id ≡ c.place → ⊥) rows → without c.place rows ≡ rows
      kept [] all = refl
      kept (r ∷ rows) all = ap (λ b. if not b then r ∷ without c.place rows else without c.place rows) (ne_eqb r.id c.place all.0) ∙ ap (λ (rest : List Row). r ∷ rest) (kept rows all.1)

      by : (b : Bool) → without c.place (if b then with_row (step_row e.core c) (waiting_rows e.core.requests) else waiting_rows e.core.requests) ≡ waiting_rows e.core.requests
      by true = without_step (step_row e.core c) (waiting_rows e.core.requests) others
      by false = kept (waiting_rows e.core.requests) others

-- one that is done is cleared
done_cleared : (core : Core) (c : OpenCopy) (how : CopyEnd) → end_of core c ≡ Some how → is_done_end how ≡ true → is_cleared core c ≡ true
done_cleared core c how ends done = by (is_running c) (is_missing core c.pp.disk) (is_whole core c) (is_cleared core c) (length (sources_of core c) == 0) (is_idle c.step && is_none (find (λ (p : Pp). not (has c.tried p.disk)) (sources_of core c))) ends
  where
    other : {X : Type 0} (k : CopyEnd) → k ≡ how → is_done_end k ≡ false → X
    other k same none = not_so (sym none ∙ ap is_done_end same ∙ done)

    by : (a b w d n t : Bool) → (if not a then None else if b then Some ending.SyncFailed else if w then ends_if d ending.Done else if n then Some ending.NoFresh else ends_if t ending.SyncFailed) ≡ Some how → d ≡ true
    by false b w d n t i = absurd (cc i)
    by true true w d n t i = other ending.SyncFailed (let same : ending.SyncFailed ≡ how = cc i in same) refl
    by true false true true n t i = refl
    by true false true false n t i = absurd (cc i)
    by true false false d true t i = other ending.NoFresh (let same : ending.NoFresh ≡ how = cc i in same) refl
    by true false false d false true i = other ending.SyncFailed (let same : ending.SyncFailed ≡ how = cc i in same) refl
    by true false false d false false i = absurd (cc i)

pub runs_of : (core : Core) (c : OpenCopy) (how : CopyEnd) → end_of core c ≡ Some how → is_running c ≡ true
runs_of core c how ends = by (is_running c) (if is_missing core c.pp.disk then Some ending.SyncFailed else if is_whole core c then ends_if (is_cleared core c) ending.Done else end_by_sources core c) ends
  where
    by : (a : Bool) (m : Option CopyEnd) → (if not a then None else m) ≡ Some how → a ≡ true
    by true m i = refl
    by false m i = absurd (cc i)

module _ (e : WriteEnd) (status : Stored) (marks : WantsStale (due e) e.next status) (c : OpenCopy) (is : e.core.copy ≡ Some c) (how : CopyEnd) (ends : copy_ends (mid e) ≡ Some how) (at : Step) (queue : Waiting) (its : IsEnded e.core c at queue) where
  abbrev before : Core
  before = e.core

  abbrev pub ended : OpenCopy
  ended = record c { step = at; end = Some how }

  abbrev pub at_end : Reviewed e
  at_end = record { status = status; marks = marks; queue = queue; copy = Some ended; pool = with_back e.pool (hand_of c.step) }

  abbrev then_on : Core
  then_on = now e at_end

  k : IsCopy before c
  k = its_copy e c is

  its_end : end_of (mid e) c ≡ Some how
  its_end = sym (ap (λ m. option_map_or (end_of (mid e)) m None) is) ∙ ends

  runs : is_running c ≡ true
  runs = runs_of (mid e) c how its_end

  source_on : (x : Step) → IsReadFrom x (copies_in before.descriptor c.lv c.lp) c → IsReadFrom x (copies_in before.descriptor c.lv c.lp) ended
  source_on step.Idle from_it = from_it
  source_on (step.Reading source) from_it = from_it
  source_on (step.Read buf) from_it = from_it
  source_on step.Writing from_it = from_it

  step_over : (x : Step) (f : Flight) → IsStepOf x before c f → IsStepOf x then_on ended f
  step_over step.Idle f of = of
  step_over (step.Reading source) f of = record { disk_is = of.disk_is; first = of.first; count = of.count; write_is = of.write_is }
  step_over (step.Read buf) f of = of
  step_over step.Writing f of = record { disk_is = of.disk_is; first = of.first; count = of.count; write_is = of.write_is }

  bring_over : IsCopy then_on ended
  bring_over = copy_stepped before then_on c at c.tried (Some how) refl (same_next before) k
      (subst (λ m. IfSome m (λ (buf : Buffer). length buf.sectors ≡ 256)) (sym its.hand) tt) (λ busy. ap not (its.free busy)) (λ over. its.hand)
      k.tried (source_on at its.source) (λ goes busy. not_so goes) (kind_over before then_on c at c.tried (Some how) refl refl refl (fresh_from e at_end c.lv c.lp) c.moves (λ moves move done. never_done (mid e) c moves (its_end ∙ done)) k.kind)

  -- nothing is left to be cleared
  clear_over : (p : Pp) → is_held_stale then_on p ≡ true → is_wanted_stale then_on p ≡ false → is_clearing then_on p ≡ true
  clear_over p held clear = by (to_be_cleared e p (held_by e at_end p held) none.0)
    where
      none : (is_wanted_stale before p ≡ false) × (is_entailed (mid e) p ≡ false) × (marked_by_end (mid e) (copy_ends (mid e)) p ≡ false)
      none = not_wanted e at_end p clear

      -- it ended as done, or is a move whose place nothing calls stale
      ended_so : (d m s : Bool) → not d && (true && true && (not m || s)) ≡ false → (d ≡ true) ⊎ (s ≡ false)
      ended_so true m s i = inl refl
      ended_so false true false i = inr refl
      ended_so false true true i = not_so (sym i)
      ended_so false false s i = not_so (sym i)

      by : Clears before p → is_clearing then_on p ≡ true
      by x = not_so (sym fresh_so ∙ held)
        where
          same : x.copy ≡ c
          same = let both_open : Some x.copy ≡ Some c = sym x.is_open ∙ is in cc both_open

          whole : is_whole before c ≡ true
          whole = sym (ap (is_whole before) same) ∙ x.whole

          its_pp : c.pp ≡ p
          its_pp = sym (ap (λ (y : OpenCopy). y.pp) same) ∙ x.its

          so : (is_done_end how ≡ true) ⊎ (is_held_stale (mid e) c.pp ≡ false)
          so = ended_so (is_done_end how) c.moves (is_held_stale (mid e) c.pp)
              (sym (ap (λ m. marked_by_end (mid e) m p) ends ∙ ap (λ m. not (is_done_end how) && option_map_or (λ (y : OpenCopy). is_whole before y && is_pp p y.pp && (not y.moves || is_held_stale (mid e) y.pp)) m false) is
              ∙ ap (λ b. not (is_done_end how) && (b && is_pp p c.pp && (not c.moves || is_held_stale (mid e) c.pp))) whole
              ∙ ap (λ b. not (is_done_end how) && (true && b && (not c.moves || is_held_stale (mid e) c.pp))) (ap (is_pp p) its_pp ∙ own_pp p)) ∙ none.2)

          uncalled : (is_done_end how ≡ true) ⊎ (is_held_stale (mid e) c.pp ≡ false) → (is_stale (mid e) c.pp ≡ false) × (calls_stale (unwrap_or e.next.in_flight e.next.committed) c.pp ≡ false)
          uncalled (inr uncalled_so) = or_parts (is_stale (mid e) c.pp) (calls_stale (unwrap_or e.next.in_flight e.next.committed) c.pp) uncalled_so
          uncalled (inl is_done) = or_parts (is_stale (mid e) c.pp) (calls_stale (unwrap_or e.next.in_flight e.next.committed) c.pp)
              (is_false (is_held_stale (mid e) c.pp) (both (not (is_held_stale (mid e) c.pp)) (not (is_wanted_stale (mid e) c.pp)) (both (not c.moves) (stays_fresh (mid e) c.pp) (done_cleared (mid e) c how its_end is_done)).1).0)

          fresh_so : is_held_stale then_on p ≡ false
          fresh_so = let now_so = uncalled so in
              ap (λ q. is_held_stale then_on q) (sym its_pp) ∙ ap (λ b. b || calls_stale (unwrap_or status.in_flight status.committed) c.pp) (stale_is e at_end c.pp ∙ now_so.0)
              ∙ ap (λ (s : Status). calls_stale s c.pp) (flies_is e at_end ∙ sym e.follows.flies) ∙ now_so.1

  or_false : (a : Bool) → a || false ≡ a
  or_false true = refl
  or_false false = refl

  queue_over : queue.rows ≡ rows_of then_on
  queue_over = its.rows ∙ sym (ap (λ (b : Bool). if b then with_row (step_row before c) (waiting_rows before.requests) else waiting_rows before.requests) (or_false (is_out at)))

  hands_over : (n : ℕ) → count_if (is_hand n (hand_of_copy before.copy)) ≤ count_if (slice_index_or e.pool n false)
      → count_if (slice_index_or (with_back e.pool (hand_of c.step)) n false) + count_if (is_hand n (hand_of_copy before.copy)) ≡ count_if (slice_index_or e.pool n false) + count_if (is_hand n (hand_of at))
  hands_over n low =
      let same : count_if (is_hand n (hand_of_copy before.copy)) ≡ count_if (is_hand n (hand_of c.step)) = ap (λ m. count_if (is_hand n (hand_of_copy m))) is in
      let none : count_if (is_hand n (hand_of at)) ≡ 0 = ap (λ h. count_if (is_hand n h)) its.hand in
      let given = back e.pool (hand_of c.step) n (omega (arith, low, same)) in
      omega (arith, same, none, given)

  fewer_over : Fewer e at_end
  fewer_over = inr (
    let same : option_map_or (copy_updates before) before.copy 0 ≡ copy_updates before c = ap (λ m. option_map_or (copy_updates before) m 0) is in let low = updates (is_running c) (is_whole before c) c.moves runs in omega (arith, same, low),
    let same : option_map_or (copy_left before) before.copy 0 ≡ copy_left before c = ap (λ m. option_map_or (copy_left before) m 0) is in
        let low = work (is_running c) (is_whole before c) runs (16 * (groups_of before - c.cursor - 1)) (step_left c.step (tried_of before c)) in omega (arith, same, low),
  )
    where
      updates : (a w m : Bool) → a ≡ true → 1 ≤ (if not a then 0 else (if w then 1 else 2) + if_so m 1)
      updates true true m i = omega arith
      updates true false m i = omega arith
      updates false w m i = not_so i

      work : (a w : Bool) → a ≡ true → (x y : ℕ) → 256 ≤ (if not a then 0 else if w then 2 * update_work else 3 * update_work + x + 8 + y)
      work true true i x y = omega arith
      work true false i x y = omega arith
      work false w i x y = not_so i

  pub ends_so : Brings e at_end
  ends_so = record {
    caught = λ group p none. refl;
    places = λ ask. ap (places_by before ask) is;
    blocked = its.blocked;
    room = its.room;
    queue = queue_over;
    copy = bring_over;
    reviewed = refl;
    clearings = clear_over;
    out = its.out ∙ sym (ap (λ m. option_map_or (λ (y : OpenCopy). is_out y.step) m false) is);
    step = λ f of. (ended, refl, step_over at f (its.step f (let same : of.0 ≡ c = (let both_open : Some of.0 ≡ Some c = sym of.1 ∙ is in cc both_open) in subst (λ (y : OpenCopy). IsStepOf y.step before y f) same of.2)));
    long = back_long e.pool (hand_of c.step);
    hands = hands_over;
    chosen = λ all. chosen_over (subst (λ m. IfSome m (λ (y : OpenCopy). AllByRecursion (IsChosenSince before y) before.requests)) is all);
    brought = λ p on. not_so on;
    carried = λ group p on. not_so on;
    fewer = fewer_over;
  }
    where
      chosen_over : AllByRecursion (IsChosenSince before c) before.requests → AllByRecursion (IsChosenSince then_on ended) before.requests
      chosen_over all = all_weaker (IsChosenSince before c) (IsChosenSince then_on ended) (λ x one. one) before.requests all

-- ---- one or the other

module _ (e : WriteEnd) (new : Core) (reviews : Reviews (mid e) new) (P : Core → Type 0) (on : (still : copy_ends (mid e) ≡ None) → P (now e (going_on e new.status reviews.marks still)))
    (over : (c : OpenCopy) (is : e.core.copy ≡ Some c) (how : CopyEnd) (ends : copy_ends (mid e) ≡ Some how) (at : Step) (queue : Waiting) (its : IsEnded e.core c at queue) → P (now e (at_end e new.status reviews.marks c is how ends at queue its))) where
  abbrev made : OpenCopy → CopyEnd → Bool → Core
  made c how b = record (mid e) { copy = Some (record c { step = if b then c.step else step.Idle; end = Some how }); queue = if b then e.core.queue else record e.core.queue { rows = without c.place e.core.queue.rows }; pool = with_back e.pool (hand_of c.step); status = new.status }

  pub by_review : P new
  by_review = by (copy_ends (mid e)) refl reviews.is
    where
      by_copy : (how : CopyEnd) (m : Option OpenCopy) → e.core.copy ≡ m → copy_ends (mid e) ≡ Some how → new ≡ record (option_map_or (λ (c : OpenCopy). after_copy_end (mid e) c how) m (mid e)) { status = new.status } → P new
      by_copy how None none ends is = absurd (let no : None ≡ Some how = sym (ap (λ m. option_map_or (end_of (mid e)) m None) none) ∙ ends in cc no)
      by_copy how (Some c) is_open ends is = by_out (is_out c.step) refl
        where
          by_out : (b : Bool) → is_out c.step ≡ b → P new
          by_out true out = subst P (sym (is ∙ ap (made c how) out)) (over c is_open how ends c.step e.core.queue (out_ended e c is_open out))
          by_out false out = subst P (sym (is ∙ ap (made c how) out)) (over c is_open how ends step.Idle (record e.core.queue { rows = without c.place e.core.queue.rows }) (idle_ended e c is_open out))

      by : (m : Option CopyEnd) → copy_ends (mid e) ≡ m → new ≡ record (with_end (mid e) m) { status = new.status } → P new
      by None still is = subst P (sym is) (on still)
      by (Some how) ends is = by_copy how e.core.copy refl ends is
