-- An answer that is taken, tied.
use Rattle.std.proofs.Common.{◌≡◌, inl, inr, ⊎_elim, ℕ, zero, suc, Bool, true, false, ◌&&◌, ◌||◌, ◌==◌, not, List, [], ◌∷◌, ◌++◌, Option, Some, None, refl, sym, ap, subst, ◌∙◌, arith}
use Rattle.std.specs.Prelude.{MatchOption, if◌then◌else◌, is_none, position, slice_get}
use Rattle.std.specs.List.{remove}
use Rattle.std.proofs.lemmas.Bool.{cases_eq}
use Rattle.std.proofs.lemmas.Bool.Decides.{nat_tests}
use Rattle.std.proofs.lemmas.Option.{same_Some}
use Rattle.lvm_vol.specs.Facts.{Request as Asked, Fact, Taken}
use Rattle.lvm_vol.specs.Log.{request_of, with_fact}
use Rattle.lvm_vol.specs.declared.entry.Outcome.{Outcome}
use Rattle.lvm_disk.specs.Device.{Flight, image_of}
use Rattle.lvm_kept.specs.Contents.{contents_of}
use Rattle.lvm_kept.specs.Torn.{RecordWrite}
use Rattle.lvm_path.specs.declared.request.Phase.{Phase}
use Rattle.lvm_path.specs.declared.request.Phase.TheVariants as phase
use Rattle.lvm_path.specs.Targets.{is_begun}
use Rattle.lvm_session.specs.declared.open.Open.{Open}
use Rattle.lvm_session.specs.declared.bringing.OpenCopy.{OpenCopy}
use Rattle.lvm_session.specs.declared.bringing.Step.{Step}
use Rattle.lvm_session.specs.declared.flown.Owner.{Owner}
use Rattle.lvm_session.specs.declared.flown.Owner.TheVariants as owner
use Rattle.lvm_session.specs.State.{Core, State, state}
use Rattle.lvm_session.specs.Judging.{is_running, place_of}
use Rattle.lvm_session.specs.Bringing.{has_row, is_out, is_whole}
use Rattle.lvm_session.specs.declared.answers.Taken.TheVariants as answers
use Rattle.lvm_session.specs.Calls.{TakeAt, TakesLanded, after_take, is_asked}
use Rattle.lvm_session.specs.Sound.{IsSound}
use Rattle.lvm_invariant.specs.State.{Queued, ModelState, has_landed}
use Rattle.lvm_invariant.specs.Updates.{without}
use Rattle.lvm_invariant.specs.Take.{TakesAnswerOf, taken}
use Rattle.lvm_invariant.specs.Events.{Take}
use Rattle.lvm_invariant.proofs.EventsLemmas.Each.{each_keeps}
use Rattle.lvm_crash.proofs.RecordsLemmas.Quiet.{quiet_lasts}
use Rattle.lvm_tie.proofs.OutLemmas.Ties.{carry_on}
use Rattle.lvm_tie.proofs.SeenLemmas.Entered.{sees_entered}
use Rattle.lvm_tie.proofs.TiedLemmas.Orderly.{HaveNumbers, numbers_of, open_one}
use Rattle.lvm_tie.specs.Out.{CarriesStep}
use Rattle.lvm_tie.specs.Seen.{update_of, phase_seen, SeesRequest, IsRequestAt, IsStepAt, Sees}
use Rattle.lvm_tie.specs.Tied.{IsOrderly, IsTied}
use Rattle.lvm_tie.specs.Lands.{TakeTies}

-- one that is left stood elsewhere
pub record WasThere {X : Type 0} (xs : List X) (place : ℕ) (x : X) : Type 0 where
  pub at : ℕ
  pub there : slice_get xs at ≡ Some x
  pub other : at ≡ place → ⊥

was_there : {X : Type 0} (xs : List X) (place k : ℕ) (x : X) → slice_get (remove xs place) k ≡ Some x → WasThere xs place x
was_there [] zero k x h = absurd (let e : None ≡ Some x = h in cc)
was_there [] (suc place) k x h = absurd (let e : None ≡ Some x = h in cc)
was_there (y ∷ ys) zero k x h = record { at = suc k; there = h; other = λ e. absurd (omega arith) }
was_there (y ∷ ys) (suc place) zero x h = record { at = 0; there = h; other = λ e. absurd (omega arith) }
was_there (y ∷ ys) (suc place) (suc k) x h = let r = was_there ys place k x h in record { at = suc r.at; there = r.there; other = λ e. r.other (omega arith) }

-- each other is left
is_left : {X : Type 0} (xs : List X) (place k : ℕ) (x : X) → slice_get xs k ≡ Some x → (k ≡ place → ⊥) → (j : ℕ) × (slice_get (remove xs place) j ≡ Some x)
is_left [] place k x h other = absurd (let e : None ≡ Some x = h in cc)
is_left (y ∷ ys) zero zero x h other = absurd (other refl)
is_left (y ∷ ys) zero (suc k) x h other = (k, h)
is_left (y ∷ ys) (suc place) zero x h other = (0, h)
is_left (y ∷ ys) (suc place) (suc k) x h other = let r = is_left ys place k x h (λ e. other (omega arith)) in (suc r.0, r.1)

module _ (past : List Fact) (old : State) (place : ℕ) (o : Open) (tied : IsTied past old) (there : slice_get old.core.requests place ≡ Some o) (numbers : HaveNumbers old.core) (over : o.request.phase ≡ phase.Landed) where
  abbrev core : Core
  core = old.core

  abbrev v : ModelState
  v = tied.view

  abbrev i : ℕ
  i = place_of o.request.id

  abbrev q : Queued
  q = (tied.sees.queue.requests place o there).0

  at : v.queue i ≡ Some q
  at = (tied.sees.queue.requests place o there).1

  sees : SeesRequest o q
  sees = (tied.sees.queue.requests place o there).2

  abbrev fact : Fact
  fact = Taken (request_of core.history.facts o.request.id)

  fact_is : Taken (v.name i) ≡ fact
  fact_is = ap (λ (r : Asked). Taken r) (tied.sees.queue.names place o there)

  abbrev core1 : Core
  core1 = record core { requests = remove core.requests place }

  abbrev core2 : Core
  core2 = record core1 { history = with_fact core.history fact }

  abbrev left : ℕ → Option Queued
  left = without v.queue i

  elsewhere : (j : ℕ) → (j ≡ i → ⊥) → left j ≡ v.queue j
  elsewhere j ne = let test : (j == i) ≡ false = grind (arith, nat_tests) in ap (λ b. if b then None else v.queue j) test

  gone : (j : ℕ) → j ≡ i → left j ≡ None
  gone j e = let test : (j == i) ≡ true = grind (arith, nat_tests) in ap (λ b. if b then None else v.queue j) test

  apart : (k : ℕ) (p : Open) → slice_get core.requests k ≡ Some p → (k ≡ place → ⊥) → place_of p.request.id ≡ i → ⊥
  apart k p is ne e = ne (numbers k place p o is there (omega arith))

  step_apart : (c : OpenCopy) → core.copy ≡ Some c → has_row core c ≡ true → c.place ≡ i → ⊥
  step_apart c is row e =
      let a = tied.sees.queue.a_step c is row in
      let same : a.0 ≡ q = same_Some a.0 q (sym a.1 ∙ ap v.queue e ∙ at) in
      let no : ◌≡◌ {A = Bool} true false = sym a.2.step ∙ ap (λ (x : Queued). x.step) same ∙ sees.step in
      absurd cc

  sees1 : Sees past core1 (record v { queue = left })
  sees1 = record {
    queue = record {
      requests = λ k p is. let r = was_there core.requests place k p is in let s = tied.sees.queue.requests r.at p r.there in (s.0, elsewhere (place_of p.request.id) (apart r.at p r.there r.other) ∙ s.1, s.2);
      a_step = λ c is row. let s = tied.sees.queue.a_step c is row in (s.0, elsewhere c.place (step_apart c is row) ∙ s.1, s.2);
      only = λ j e is. elim (cases_eq j i) [
        | inl same ↦ absurd (let n : None ≡ Some e = sym (gone j same) ∙ is in cc)
        | inr ne ↦ ⊎_elim
            (λ (r : IsRequestAt core j). inl (let l = is_left core.requests place r.place r.request r.there (λ e2. ne (sym r.its ∙ ap (λ (x : Open). place_of x.request.id) (same_Some r.request o (sym r.there ∙ ap (slice_get core.requests) e2 ∙ there)))) in record { place = l.0; request = r.request; there = l.1; its = r.its }))
            (λ (r : IsStepAt core j). inr r)
            (tied.sees.queue.only j e (sym (elsewhere j ne) ∙ is))
      ];
      names = λ k p is. let r = was_there core.requests place k p is in tied.sees.queue.names r.at p r.there;
    };
    facts = tied.sees.facts;
    status = tied.sees.status;
    notes = tied.sees.notes;
    open_copy = tied.sees.open_copy;
    step_write = tied.sees.step_write;
    beside = tied.sees.beside;
  }

  takes : TakesAnswerOf v i q
  takes = record { there = at; landed = ap has_landed (sees.phase ∙ ap (λ (p : Phase). phase_seen p (is_begun o.request.targets.items)) over) }

  abbrev w : ModelState
  w = record v { queue = left; facts = v.facts ++ Taken (v.name i) ∷ [] }

  w_is : w ≡ taken v i q
  w_is = sym (ap (λ b. record v { queue = left; facts = if b then v.facts else v.facts ++ Taken (v.name i) ∷ [] }) sees.step)

  sees2 : Sees past core2 w
  sees2 = subst (λ (f : Fact). Sees past core2 (record v { queue = left; facts = v.facts ++ f ∷ [] })) (sym fact_is) (sees_entered past core1 (record v { queue = left }) fact refl sees1)

  carries : (g : Flight) (who : Owner) → CarriesStep core v g who → CarriesStep core2 w g who
  carries g (owner.Data id n) its = tt
  carries g (owner.Status disk) its = tt
  carries g (owner.Note disk) its = tt
  carries g owner.Copy its = λ c p is writing here.
      its c p is writing (sym (elsewhere c.place (step_apart c is (ap (λ (st : Step). is_out st || (is_running c && not (is_whole core c))) writing))) ∙ here)

  pub tied_after : IsOrderly (state old.device core2) tied.write → IsTied past (state old.device core2)
  tied_after orderly = record {
    votes = tied.votes;
    media = tied.media;
    setting = tied.setting;
    view = w;
    sees = sees2;
    good = each_keeps tied.votes (Take i q) v w (takes, w_is) tied.good;
    describes = quiet_lasts tied.votes (Take i q) v w core.descriptor (update_of core.status) (contents_of (image_of old.device.sizes tied.media)) (takes, w_is) tied.good tt tied.describes refl refl refl;
    write = tied.write;
    since = tied.since;
    recorded = tied.recorded;
    orderly = orderly;
    copy_aimed = tied.copy_aimed;
    carry = carry_on core core2 v w old.device.flights core.flying carries tied.carry;
    notes = tied.notes;
  }

-- ---- of a sound session

landed_phase : (s : State) (write : Option RecordWrite) (orderly : IsOrderly s write) (place : ℕ) (o : Open) (how : Outcome) → slice_get s.core.requests place ≡ Some o → o.landed ≡ Some how → o.request.phase ≡ phase.Landed
landed_phase s write orderly place o how there landed = ((open_one s write orderly place o there).over (ap is_none landed)).phase_is

pub take_ties : TakeTies
take_ties past s new client id answer tied sound gives = by (position (is_asked client id) s.core.requests) gives
  where
    at_place : (place : ℕ) (o : Open) → slice_get s.core.requests place ≡ Some o → (m : Option Outcome) → o.landed ≡ m → TakesLanded s.core new place o answer m → IsTied past (state s.device new)
    at_place place o there None is takes = subst (λ (c : Core). IsTied past (state s.device c)) (sym takes.1) tied
    at_place place o there (Some how) is takes =
        let sound_then : IsSound (state s.device (after_take s.core place o.request.id)) = subst (λ (c : Core). IsSound (state s.device c)) takes.1 sound in
        subst (λ (c : Core). IsTied past (state s.device c)) (sym takes.1)
        (tied_after past s place o tied there (numbers_of s tied.write tied.orderly) (landed_phase s tied.write tied.orderly place o how there is) (record { sound = sound_then; on = tied.orderly.on; update = tied.orderly.update }))

    by : (m : Option ℕ) → MatchOption m ((answer ≡ answers.Unknown) × (new ≡ s.core)) (λ (place : ℕ). TakeAt s.core new place answer) → IsTied past (state s.device new)
    by None done = subst (λ (c : Core). IsTied past (state s.device c)) (sym done.1) tied
    by (Some place) done = at_place place done.0 done.1 done.0.landed refl done.2
