-- A copy is opened, or begins to move, over a state in which its partition is a copy that counts as stale.
use Rattle.std.proofs.Common.{◌≡◌, inl, inr, ⊎_elim, ℕ, zero, suc, ◌+◌, ◌*◌, ◌<◌, ◌≤◌, Bool, true, false, ◌&&◌, ◌==◌, not, if◌then◌else◌, List, [], ◌∷◌, map, Option, Some, None, refl, sym, ap, subst, ◌∙◌, arith}
use Rattle.std.specs.Prelude.{IsTrue, IsFalse, nat_le, nat_lt, slice_get}
use Rattle.std.proofs.lemmas.Bool.{cases_eq}
use Rattle.std.proofs.lemmas.Bool.Decides.{nat_tests}
use Rattle.lvm_num.specs.declared.place.Pp.{Pp}
use Rattle.lvm_num.proofs.Lists.{all_at}
use Rattle.lvm_vol.specs.Facts.{Fact}
use Rattle.lvm_vol.specs.Log.{next_id, no_request}
use Rattle.lvm_disk.specs.Device.{Flight, image_of}
use Rattle.lvm_kept.specs.Contents.{contents_of}
use Rattle.lvm_map.proofs.PlacesLemmas.{mib_positive}
use Rattle.lvm_session.specs.declared.open.Open.{Open}
use Rattle.lvm_session.specs.declared.bringing.OpenCopy.{OpenCopy}
use Rattle.lvm_session.specs.declared.bringing.Step.TheVariants as step
use Rattle.lvm_session.specs.declared.flown.Flown.{Flown}
use Rattle.lvm_session.specs.declared.flown.Owner.{Owner}
use Rattle.lvm_session.specs.declared.flown.Owner.TheVariants as owner
use Rattle.lvm_session.specs.State.{Core, State, is_there, state}
use Rattle.lvm_session.specs.Judging.{place_of}
use Rattle.lvm_session.specs.Bringing.{block_at, groups_of, has_row, step_place}
use Rattle.lvm_session.specs.Calls.{aged, opened}
use Rattle.lvm_session.specs.Ends.{with_step}
use Rattle.lvm_session.specs.Sound.{IsSound}
use Rattle.lvm_keeps_events.proofs.passed.Calls.{below_next}
use Rattle.lvm_invariant.specs.State.{Beside, Held, ModelCopy, Queued, ModelState}
use Rattle.lvm_invariant.specs.EnterStep.{entered}
use Rattle.lvm_invariant.specs.Events.{EnterStep, Open as Opening, ModelStep}
use Rattle.lvm_invariant.specs.Good.{Good}
use Rattle.lvm_invariant.proofs.EventsLemmas.Each.{each_keeps}
use Rattle.lvm_crash.specs.Session.{Describes}
use Rattle.lvm_crash.proofs.RecordsLemmas.Quiet.{quiet_lasts}
use Rattle.lvm_tie.specs.Out.{CarriesStep, CarryTheirs}
use Rattle.lvm_tie.specs.Seen.{IsRequestAt, IsStepAt, Sees, SeesCopy, SeesRequest, SeesStatus, SeesStep, beside_if, passed_by, update_of}
use Rattle.lvm_tie.specs.Tied.{HoldsRecords, IsTied}
use Rattle.lvm_tie.proofs.TiedLemmas.Orderly.{orderly_same}
use Rattle.lvm_invariant.specs.Submit.{IsPlaced}
use Rattle.lvm_places.specs.Places.{BlocksOf, CopiesOf, Marking, placed}
use Rattle.lvm_session.specs.declared.origin.Origin.{Origin}

-- ---- the table

aged_was : (os : List Open) (k : ℕ) (p : Open) → slice_get (map aged os) k ≡ Some p → (o : Open) × (slice_get os k ≡ Some o) × (p ≡ aged o)
aged_was [] k p there = absurd (cc there)
aged_was (x ∷ os) zero p there = (x, refl, let e : aged x ≡ p = cc there in sym e)
aged_was (x ∷ os) (suc k) p there = aged_was os k p there

aged_is : (os : List Open) (k : ℕ) (o : Open) → slice_get os k ≡ Some o → slice_get (map aged os) k ≡ Some (aged o)
aged_is [] k o there = absurd (cc there)
aged_is (x ∷ os) zero o there = let e : x ≡ o = cc there in ap (λ (y : Open). Some (aged y)) e
aged_is (x ∷ os) (suc k) o there = aged_is os k o there

-- ---- the opening

module _ (past : List Fact) (s : State) (tied : IsTied past s) (none : s.core.copy ≡ None) (origin : Origin) (moves : Bool) (pp : Pp) (lv lp number tried : ℕ) (faults : List ℕ)
    (sound : IsSound (state s.device (with_step (record s.core { requests = map aged s.core.requests; origin = origin }) (opened moves pp lv lp number tried faults (step_place s.core)))))
    (copies : CopiesOf) (block : BlocksOf) (marking : Marking) (beside : Option Beside) where
  abbrev core : Core
  core = s.core

  abbrev v : ModelState
  v = tied.view

  abbrev i : ℕ
  i = step_place core

  abbrev pub c : OpenCopy
  c = opened moves pp lv lp number tried faults (step_place s.core)

  abbrev core1 : Core
  core1 = record core { requests = map aged core.requests; origin = origin }

  abbrev core2 : Core
  core2 = with_step core1 c

  abbrev o : ModelCopy
  o = record { target = pp; passed = passed_by (groups_of core) c }

  abbrev pub q : Queued
  q = record { lv = lv; first = block_at s.core c; count = 256; write = false; step = true; value = λ b. []; phase = Held; several = false; targets = λ p. None; got = None }

  -- the state over which it is opened
  abbrev pub w0 : ModelState
  w0 = placed tied.view copies block marking tied.view.open_copy beside

  abbrev v1 : ModelState
  v1 = record w0 { open_copy = Some o }

  abbrev w : ModelState
  w = entered v1 i no_request q

  low : (k : ℕ) (p : Open) → slice_get core.requests k ≡ Some p → place_of p.request.id < i
  low k p there =
      let less : p.request.id < next_id core.history = all_at (λ (x : Open). x.request.id < next_id core.history) core.requests k p (below_next core.history core.requests tied.orderly.sound.told.ordered tied.orderly.sound.told.requests) there in
      omega (arith, less)

  none_open : v.open_copy ≡ None
  none_open = subst (λ (m : Option OpenCopy). SeesCopy (groups_of core) m v.open_copy) none tied.sees.open_copy

  some_groups : 0 < groups_of core
  some_groups = let e = mib_positive core.descriptor tied.orderly.sound.fitting.valid in omega (arith, e)

  module _ (good0 : Good tied.votes w0) (describes0 : Describes w0 w0.facts s.core.descriptor (update_of s.core.status) (contents_of (image_of s.device.sizes tied.media)))
      (status0 : SeesStatus beside s.core.status (is_there s.core) marking.committed marking.in_flight marking.wanted tied.view.status_flying marking.status tied.view.missing) (beside0 : beside ≡ beside_if moves s.core c)
      (stale0 : IsTrue (marking.committed.value.stale pp)) (there0 : IsFalse (tied.view.missing pp.disk)) (placed0 : IsPlaced w0 q) (aimed0 : IsTrue (copies lv (block_at s.core c) pp))
      (recorded0 : HoldsRecords marking.committed.stamp s.core.descriptor origin.table s.core.status s.core.homes (image_of s.device.sizes tied.media)) where
    open_step : ModelStep tied.votes (Opening o) w0 v1
    open_step = (record { none = none_open; there = there0; stale = stale0; passed = λ l g. nothing_passed l g }, refl)
      where
        nothing_passed : (l g : ℕ) → IsFalse (passed_by (groups_of core) c l g)
        nothing_passed l g = by (l == lv) (nat_le (groups_of core * lp) g) (nat_lt g (groups_of core * lp + 0)) refl refl
          where
            by : (a b d : Bool) → nat_le (groups_of core * lp) g ≡ b → nat_lt g (groups_of core * lp + 0) ≡ d → (a && b && d) ≡ false
            by false b d is at = refl
            by true false d is at = refl
            by true true false is at = refl
            by true true true is at = absurd (let a : groups_of core * lp ≤ g = grind (arith, nat_tests) in let b2 : g < groups_of core * lp + 0 = grind (arith, nat_tests) in omega (arith, a, b2))

    good1 : Good tied.votes v1
    good1 = each_keeps tied.votes (Opening o) w0 v1 open_step good0

    describes1 : Describes v1 v1.facts core.descriptor (update_of core.status) (contents_of (image_of s.device.sizes tied.media))
    describes1 = quiet_lasts tied.votes (Opening o) w0 v1 core.descriptor (update_of core.status) (contents_of (image_of s.device.sizes tied.media)) open_step good0 tt describes0 refl refl refl

    enter_step : ModelStep tied.votes (EnterStep i no_request q) v1 w
    enter_step = (
      record {
        held = refl;
        newest = λ j e at. ⊎_elim
            (λ (r : IsRequestAt core j). let less = low r.place r.request r.there in let e2 = r.its in omega (arith, less, e2))
            (λ (r : IsStepAt core j). absurd (let e2 : None ≡ Some r.copy = sym none ∙ r.is_open in cc))
            (tied.sees.queue.only j e at);
        placed = record { place = placed0.place; inside = placed0.inside };
        step = refl;
        reads = refl;
      },
      refl,
    )

    put_here : w.queue i ≡ Some q
    put_here = let test : (i == i) ≡ true = grind (arith, nat_tests) in ap (λ b. if b then Some q else v.queue i) test

    put_there : (j : ℕ) → (j ≡ i → ⊥) → w.queue j ≡ v.queue j
    put_there j ne = let test : (j == i) ≡ false = grind (arith, nat_tests) in ap (λ b. if b then Some q else v.queue j) test

    apart : (k : ℕ) (p : Open) → slice_get core.requests k ≡ Some p → place_of p.request.id ≡ i → ⊥
    apart k p there e = let less = low k p there in omega (arith, less, e)

    row_now : has_row core2 c ≡ true
    row_now = let lt : nat_lt 0 (groups_of core) ≡ true = (let e = some_groups in grind (arith, nat_tests)) in ap (λ b. true && not (not b)) lt

    sees : Sees past core2 w
    sees = record {
      queue = record {
        requests = λ k p at.
            let was = aged_was core.requests k p at in
            let t = tied.sees.queue.requests k was.0 was.1 in
            let its2 : SeesRequest was.0 t.0 = t.2 in (
              t.0,
              ap (λ (x : Open). w.queue (place_of x.request.id)) was.2 ∙ put_there (place_of was.0.request.id) (apart k was.0 was.1) ∙ t.1,
              subst (λ (x : Open). SeesRequest x t.0) (sym was.2) (record { lv = its2.lv; first = its2.first; count = its2.count; write = its2.write; step = its2.step; phase = its2.phase; several = its2.several; targets = its2.targets; got = its2.got }),
            );
        a_step = λ d is row. let same : c ≡ d = (let e : Some c ≡ Some d = is in cc) in (
          q,
          ap (λ (x : OpenCopy). w.queue x.place) (sym same) ∙ put_here,
          subst (λ (x : OpenCopy). SeesStep core2 x q) same (record { lv = refl; first = refl; count = refl; write = refl; step = refl; hand = (refl, refl); failed = λ p bad. absurd (cc bad) }),
        );
        only = λ j e at. elim (cases_eq j i) [
          | inl is ↦ inr (record { copy = c; is_open = refl; row = row_now; its = sym is })
          | inr ne ↦ ⊎_elim
              (λ (r : IsRequestAt core j). inl (record { place = r.place; request = aged r.request; there = aged_is core.requests r.place r.request r.there; its = r.its }))
              (λ (r : IsStepAt core j). absurd (let e2 : None ≡ Some r.copy = sym none ∙ r.is_open in cc))
              (tied.sees.queue.only j e (sym (put_there j ne) ∙ at))
        ];
        names = λ k p at.
            let was = aged_was core.requests k p at in
            let test : (place_of was.0.request.id == i) ≡ false = (let ne = apart k was.0 was.1 in grind (arith, nat_tests)) in
            ap (λ (x : Open). w.name (place_of x.request.id)) was.2 ∙ ap (λ b. if b then no_request else v.name (place_of was.0.request.id)) test ∙ tied.sees.queue.names k was.0 was.1
            ∙ ap (λ (x : Open). Rattle.lvm_vol.specs.Log.request_of core.history.facts x.request.id) (sym was.2);
      };
      facts = tied.sees.facts;
      status = status0;
      notes = tied.sees.notes;
      open_copy = record { copy = o; is_open = refl; target = refl; passed = λ l g. refl };
      step_write = tied.sees.step_write ∙ ap Rattle.lvm_tie.specs.Seen.step_write_in none;
      beside = beside0;
    }

    carries : (f : Flight) (who : Owner) → CarriesStep core2 w f who
    carries f (owner.Data id n) = tt
    carries f (owner.Status disk) = tt
    carries f (owner.Note disk) = tt
    carries f owner.Copy = λ d p is writing. absurd (let same : c ≡ d = (let e : Some c ≡ Some d = is in cc) in let e2 : step.Idle ≡ step.Writing = ap (λ (x : OpenCopy). x.step) same ∙ writing in cc)

    carry_so : (fs : List Flight) (rows : List Flown) → CarryTheirs core2 w fs rows
    carry_so [] rows = tt
    carry_so (f ∷ fs) [] = tt
    carry_so (f ∷ fs) (row ∷ rows) = (carries f row.owner, carry_so fs rows)

    pub opening_ties : IsTied past (state s.device core2)
    opening_ties = record {
      votes = tied.votes;
      media = tied.media;
      setting = tied.setting;
      view = w;
      sees = sees;
      good = each_keeps tied.votes (EnterStep i no_request q) v1 w enter_step good1;
      describes = quiet_lasts tied.votes (EnterStep i no_request q) v1 w core.descriptor (update_of core.status) (contents_of (image_of s.device.sizes tied.media)) enter_step good1 tt describes1 refl refl refl;
      write = tied.write;
      orderly = orderly_same s (state s.device core2) tied.write tied.orderly sound refl refl refl;
      since = tied.since;
      recorded = recorded0;
      notes = tied.notes;
      copy_aimed = λ d is row. let same : c ≡ d = (let e : Some c ≡ Some d = is in cc) in
          subst (λ (x : OpenCopy). IsTrue (copies x.lv (block_at core x) x.pp) × ((source : Pp) → x.step ≡ step.Reading source → IsTrue (copies x.lv (block_at core x) source))) same
          (aimed0, λ source reads. absurd (let e : step.Idle ≡ step.Reading source = reads in cc));
      carry = carry_so s.device.flights core.flying;
    }
