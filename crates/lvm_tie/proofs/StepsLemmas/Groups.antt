-- The write by which a copy is brought up ends well, and more track groups follow: its next step enters the queue.
use Rattle.std.proofs.Common.{◌≡◌, inl, inr, ⊎_elim, ℕ, ◌<◌, Bool, true, false, ◌&&◌, ◌||◌, ◌==◌, not, if◌then◌else◌, List, [], Option, Some, None, refl, sym, ap, subst, ◌∙◌, arith}
use Rattle.std.specs.Prelude.{IsTrue, nat_lt, slice_get, slice_set}
use Rattle.std.proofs.lemmas.Bool.{cases_eq, not-false}
use Rattle.std.proofs.lemmas.Bool.Decides.{nat_tests}
use Rattle.lvm_num.specs.declared.place.Pp.{Pp}
use Rattle.lvm_vol.specs.Facts.{Fact}
use Rattle.lvm_vol.specs.Log.{next_id, no_request}
use Rattle.lvm_disk.specs.Device.{HasSectors}
use Rattle.lvm_num.specs.Descriptor.{is_pp}
use Rattle.lvm_num.proofs.Booleans.{clash_gives}
use Rattle.lvm_num.proofs.Lists.{all_at}
use Rattle.lvm_status.specs.Update.{Stored}
use Rattle.lvm_session.specs.declared.open.Open.{Open}
use Rattle.lvm_session.specs.declared.bringing.OpenCopy.{OpenCopy}
use Rattle.lvm_session.specs.declared.bringing.CopyEnd.{CopyEnd}
use Rattle.lvm_session.specs.State.{Core, State, state}
use Rattle.lvm_session.specs.Judging.{place_of}
use Rattle.lvm_session.specs.Bringing.{is_held_stale, block_at, copy_ends, groups_of, has_row, is_done_end, is_whole, marked_by_end, step_place, with_copy_end, with_end}
use Rattle.lvm_session.specs.Ends.{with_step}
use Rattle.lvm_session.specs.Marks.{Reviews, is_entailed}
use Rattle.lvm_session.specs.Sound.{IsSound}
use Rattle.lvm_keeps_events.proofs.passed.Calls.{below_next}
use Rattle.lvm_keeps_events.specs.GroupEnds.{EndsGroup}
use Rattle.lvm_invariant.specs.State.{Held, Queued, ModelState}
use Rattle.lvm_invariant.specs.EnterStep.{StepEnters, entered}
use Rattle.lvm_invariant.specs.Updates.{put, with_name}
use Rattle.lvm_invariant.proofs.UpdatesLemmas.Requests.{put_same}
use Rattle.lvm_tie.specs.Seen.{IsRequestAt, IsStepAt, SeesRunning, update_of}
use Rattle.lvm_tie.specs.Tied.{IsTied}
use Rattle.lvm_tie.proofs.StateLemmas.{IsOfItsPartition, its_copy, there_first}
use Rattle.lvm_tie.proofs.BringingLemmas.{first_block, row_number, step_placed}
use Rattle.lvm_tie.proofs.AmongLemmas.{or_either, and_false}
use Rattle.lvm_tie.proofs.StepsLemmas.Leaving.{Stands, gone, gone_here, gone_there, put_there, step_entered}
use Rattle.lvm_tie.proofs.StepsLemmas.Landed.{landed_write, now, q}
use Rattle.lvm_tie.proofs.StepsLemmas.Stepped.{IsStepped, apart, ended_ties, stepped_ties, wanted_stale}
use Rattle.lvm_tie.proofs.StepsLemmas.Passing.{d, goes, its, landed, left, mid, o2, part, stands_left, there}

module _ (past : List Fact) (old new : State) (at : ℕ) (tied : IsTied past old) (sound : IsSound new) (sectors : HasSectors new.device) (event : EndsGroup old new at)
    (short : is_whole old.core (d past old new at tied sectors event) ≡ false) where
  abbrev core : Core
  core = old.core

  abbrev v : ModelState
  v = tied.view

  abbrev c : OpenCopy
  c = event.copy

  -- the copy at its next track group
  abbrev e : OpenCopy
  e = d past old new at tied sectors event

  abbrev on : Core
  on = with_step (mid past old new at tied sectors event) e

  on_is : event.passes.on ≡ on
  on_is = by (is_whole core e) short (goes past old new at tied sectors event)
    where
      by : (b : Bool) → b ≡ false → Rattle.lvm_session.specs.Ends.CopyStepsOn b (mid past old new at tied sectors event) e event.passes.on → event.passes.on ≡ on
      by false is its = its
      by true is its = absurd (cc is)

  reviews : Reviews on new.core
  reviews = subst (λ (x : Core). Reviews x new.core) on_is event.passes.reviews

  -- nothing more is wanted
  unmarked : (how : Option CopyEnd) (p : Pp) → marked_by_end on how p ≡ false
  unmarked None p = refl
  unmarked (Some how) p = ap (λ b. not (is_done_end how) && (b && is_pp p c.pp && (not c.moves || is_held_stale on c.pp))) short ∙ and_false (not (is_done_end how))

  same : new.core.status ≡ core.status
  same = reviews.marks.same (λ p due. ⊎_elim
      (λ (entailed : is_entailed on p ≡ true). (tied.orderly.sound.on tied.orderly.on).going.behind p entailed)
      (λ marked. clash_gives (marked_by_end on (copy_ends on) p) marked (unmarked (copy_ends on) p))
      (or_either (is_entailed on p) (marked_by_end on (copy_ends on) p) due))

  core_is : (how : Option CopyEnd) → copy_ends on ≡ how → new.core ≡ with_end on how
  core_is how is = reviews.is ∙ ap (λ (m : Option CopyEnd). record (with_end on m) { status = new.core.status }) is ∙ ap (λ (s : Stored). record (with_end on how) { status = s }) same ∙ own how
    where
      own : (m : Option CopyEnd) → record (with_end on m) { status = core.status } ≡ with_end on m
      own None = refl
      own (Some x) = refl

  -- ---- its next step

  abbrev i : ℕ
  i = step_place core

  next_less : e.cursor < groups_of core
  next_less = let h : not (nat_lt e.cursor (groups_of core)) ≡ false = short in let k : nat_lt e.cursor (groups_of core) ≡ true = not-false (nat_lt e.cursor (groups_of core)) h in grind (arith, nat_tests)

  abbrev next_its : IsOfItsPartition core e
  next_its = let t = its past old new at tied sectors event in record { row = t.row; volume = t.volume; lp = t.lp; among = t.among; cursor = (let lt = next_less in omega (arith, lt)) }

  abbrev step_q : Queued
  step_q = q past old new at event.row true event.buf tied event.returns event.own c event.is_open

  abbrev next : Queued
  next = record { lv = c.lv; first = block_at core e; count = 256; write = false; step = true; value = λ b. []; phase = Held; several = false; targets = λ p. None; got = None }

  abbrev was : ModelState
  was = left past old new at tied sectors event

  low : (k : ℕ) (p : Open) → slice_get core.requests k ≡ Some p → place_of p.request.id < i
  low k p at_k =
      let under : p.request.id < next_id core.history = all_at (λ (x : Open). x.request.id < next_id core.history) core.requests k p (below_next core.history core.requests tied.orderly.sound.told.ordered tied.orderly.sound.told.requests) at_k in
      omega (arith, under)

  apart_next : (k : ℕ) (p : Open) → slice_get core.requests k ≡ Some p → place_of p.request.id ≡ i → ⊥
  apart_next k p at_k same_place = let lt = low k p at_k in omega (arith, lt, same_place)

  newest : (j : ℕ) (x : Queued) → gone v.queue c.place step_q j ≡ Some x → j < i
  newest j x at_j = elim (cases_eq j c.place) [
    | inl is ↦ absurd (let k : Some x ≡ None = sym at_j ∙ ap (gone v.queue c.place step_q) is ∙ gone_here v.queue c.place step_q in cc)
    | inr ne ↦ ⊎_elim
        (λ (r : IsRequestAt core j). let lt = low r.place r.request r.there in let k = r.its in omega (arith, lt, k))
        (λ (r : IsStepAt core j). absurd (let own : r.copy ≡ c = (let k : Some r.copy ≡ Some c = sym r.is_open ∙ event.is_open in cc) in ne (sym r.its ∙ ap (λ (y : OpenCopy). y.place) own)))
        (tied.sees.queue.only j x (sym (gone_there v.queue c.place step_q j ne) ∙ at_j))
  ]

  may_enter : StepEnters was i next
  may_enter = record {
    held = refl;
    newest = newest;
    placed = let p = step_placed past old tied e next_its next_less next refl refl refl in record { place = p.place; inside = p.inside };
    step = refl;
    reads = refl;
  }

  row_now : has_row core e ≡ true
  row_now = λ t. event.runs t && not (short t)

  stepped : IsStepped core v c e (put (gone v.queue c.place step_q) i next) (with_name v.name i no_request) (Some (o2 past old new at tied sectors event))
  stepped = record {
    rests = refl;
    same = record { moves = refl; lv = refl; lp = refl; pp = refl };
    queue_still = λ k p at_k. put_there (gone v.queue c.place step_q) i next (place_of p.request.id) (apart_next k p at_k)
        ∙ gone_there v.queue c.place step_q (place_of p.request.id) (apart past old new at event.row true event.buf tied event.returns event.own c event.is_open k p at_k);
    name_still = λ k p at_k. let test : (place_of p.request.id == i) ≡ false = (let ne = apart_next k p at_k in grind (arith, nat_tests)) in ap (λ b. if b then no_request else v.name (place_of p.request.id)) test;
    a_step = λ r. (next, put_same (gone v.queue c.place step_q) i next, record { lv = refl; first = refl; count = refl; write = refl; step = refl; hand = (refl, refl); failed = λ p bad. absurd (cc bad) });
    only = λ j x at_j. elim (cases_eq j i) [
      | inl is ↦ inr (row_now, sym is)
      | inr ne ↦ inl (still_there j x (sym (put_there (gone v.queue c.place step_q) i next j ne) ∙ at_j))
    ];
    open_seen = subst (λ (b : Bool). SeesRunning b (groups_of core) e (Some (o2 past old new at tied sectors event))) (sym event.runs) (record { copy = o2 past old new at tied sectors event; is_open = refl; target = refl; passed = λ l g. refl });
  }
    where
      still_there : (j : ℕ) (x : Queued) → gone v.queue c.place step_q j ≡ Some x → (j ≡ c.place → ⊥) × (v.queue j ≡ Some x)
      still_there j x at_j = elim (cases_eq j c.place) [
        | inl is ↦ absurd (let k : Some x ≡ None = sym at_j ∙ ap (gone v.queue c.place step_q) is ∙ gone_here v.queue c.place step_q in cc)
        | inr ne ↦ (ne, sym (gone_there v.queue c.place step_q j ne) ∙ at_j)
      ]

  stands : Stands tied.votes core.descriptor (update_of core.status) (now past old new at event.row true event.buf tied event.returns event.own c event.is_open) (entered was i no_request next)
  stands = step_entered tied.votes core.descriptor (update_of core.status) (now past old new at event.row true event.buf tied event.returns event.own c event.is_open) was i next may_enter (stands_left past old new at tied sectors event)

  aimed : IsTrue (v.is_copy e.lv (block_at core e) e.pp)
  aimed = subst (λ n. IsTrue (v.is_copy n (block_at core e) c.pp)) (row_number past old tied e next_its next_less)
      (its_copy past old tied c event.is_open (its past old new at tied sectors event) (there_first past old tied c.pp.disk (there past old new at tied sectors event)) (block_at core e) (first_block past old tied e next_its next_less))

  by_end : (how : Option CopyEnd) → copy_ends on ≡ how → IsTied past new
  by_end None is =
      let whole : new ≡ state new.device on = λ t. record { device = new.device; core = core_is None is t } in
      subst (IsTied past) (sym whole)
      (stepped_ties past old new at event.row true event.buf tied event.returns event.own c event.is_open e (slice_set core.pool event.buf.number false) on.queue
      (Some (o2 past old new at tied sectors event)) (landed past old new at tied sectors event) (Some (o2 past old new at tied sectors event)) (put (gone v.queue c.place step_q) i next) (with_name v.name i no_request)
      stepped stands (λ r. aimed) (subst IsSound whole sound))
  by_end (Some how) is =
      let after : Core = with_end on (Some how) in
      let whole : new ≡ state new.device after = λ t. record { device = new.device; core = core_is (Some how) is t } in
      subst (IsTied past) (sym whole)
      (ended_ties past old new at event.row true event.buf tied event.returns event.own c event.is_open (with_copy_end e how) (slice_set core.pool event.buf.number false) after.queue
      (landed_write past old new at event.row true event.buf tied event.returns event.own c event.is_open event.writes sectors v.open_copy (inl refl))
      (wanted_stale past old new at event.row true event.buf tied event.returns event.own c event.is_open event.runs (part past old new at tied sectors event)) refl refl (record { moves = refl; lv = refl; lp = refl; pp = refl }) (subst IsSound whole sound))

  pub group_tied : IsTied past new
  group_tied = by_end (copy_ends on) refl
