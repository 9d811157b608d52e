-- Landings, tied.
use Rattle.std.proofs.Common.{◌≡◌, ◌⊎◌, inl, inr, ⊎_elim, ℕ, Bool, true, false, ◌&&◌, ◌||◌, ◌==◌, not, List, [], ◌∷◌, ◌++◌, Option, Some, None, refl, sym, ap, subst, ◌∙◌, arith}
use Rattle.std.specs.Prelude.{IsTrue, IsFalse, if◌then◌else◌, slice_set, position}
use Rattle.std.specs.List.{list_any}
use Rattle.std.specs.Option.{option_map_or}
use Rattle.std.proofs.lemmas.Bool.{cases_eq}
use Rattle.std.proofs.lemmas.Bool.Decides.{nat_tests}
use Rattle.lvm_num.specs.declared.place.Pp.{Pp}
use Rattle.lvm_num.specs.declared.descriptor.Policy.{Policy}
use Rattle.lvm_vol.specs.declared.entry.Outcome.{Outcome}
use Rattle.lvm_vol.specs.declared.entry.Outcome.TheVariants as outcome
use Rattle.lvm_vol.specs.Facts.{Request as Asked, Fact, Landed}
use Rattle.lvm_vol.specs.Log.{request_of, with_fact}
use Rattle.lvm_disk.specs.Device.{Flight, image_of}
use Rattle.lvm_kept.specs.Contents.{contents_of}
use Rattle.lvm_mwc.specs.Cache.{Cached}
use Rattle.lvm_path.specs.declared.facts.Facts.{Facts}
use Rattle.lvm_path.specs.declared.facts.Next.{Next}
use Rattle.lvm_path.specs.declared.facts.Next.TheVariants as next
use Rattle.lvm_path.specs.declared.request.Request.{Request}
use Rattle.lvm_path.specs.declared.request.Phase.{Phase}
use Rattle.lvm_path.specs.declared.request.Phase.TheVariants as phase
use Rattle.lvm_path.specs.declared.target.Target.{Target}
use Rattle.lvm_path.specs.Asks.{count_of, is_write}
use Rattle.lvm_path.specs.Targets.{is_begun, is_done, states_of}
use Rattle.lvm_session.specs.declared.open.Open.{Open}
use Rattle.lvm_session.specs.declared.bringing.OpenCopy.{OpenCopy}
use Rattle.lvm_session.specs.declared.bringing.Step.{Step}
use Rattle.lvm_session.specs.declared.bringing.Step.TheVariants as step
use Rattle.lvm_session.specs.declared.flown.Owner.{Owner}
use Rattle.lvm_session.specs.declared.flown.Owner.TheVariants as owner
use Rattle.lvm_session.specs.State.{Core, State, state}
use Rattle.lvm_session.specs.Judging.{is_running, place_of, IsWithinVolume, is_usable, copies_for, facts_of}
use Rattle.lvm_session.specs.Bringing.{is_out, is_whole}
use Rattle.lvm_session.specs.Events.{Lands, after_landing, got_blocks, landed_as, without_pin}
use Rattle.lvm_invariant.specs.State.{Queued, ModelState, Stage, ModelPhase, Held, WantEntry, Ready, Going, Well, Badly, HasPassed, Started, is_settled_stale}
use Rattle.lvm_invariant.specs.Updates.{put, land, landed}
use Rattle.lvm_invariant.specs.Events.{Event, ModelStep, LandNoFresh}
use Rattle.lvm_invariant.proofs.EventsLemmas.Each.{each_keeps}
use Rattle.lvm_crash.specs.Lasting.{AsksOf}
use Rattle.lvm_crash.proofs.RecordsLemmas.Quiet.{quiet_lasts}
use Rattle.lvm_tie.proofs.OutLemmas.Ties.{carry_on}
use Rattle.lvm_tie.proofs.SeenLemmas.Changing.{step_apart, sees_changed}
use Rattle.lvm_tie.proofs.SeenLemmas.Entered.{sees_entered}
use Rattle.lvm_crash.specs.Session.{is_beside}
use Rattle.lvm_tie.proofs.StateLemmas.{beside_is_stale, copy_is_one, usable_one}
use Rattle.lvm_tie.proofs.AmongLemmas.{any_none}
use Rattle.lvm_tie.specs.Out.{CarriesStep}
use Rattle.lvm_tie.specs.Seen.{update_of, SeesRequest, Sees, phase_seen}
use Rattle.lvm_tie.proofs.TiedLemmas.Orderly.{HaveNumbers, numbers_of}
use Rattle.lvm_tie.specs.Tied.{IsOrderly, IsTied}
use Rattle.lvm_tie.proofs.EventsLemmas.{cache_is, entries_stay}
use Rattle.lvm_path.specs.Next.{start_or_wait, next_chosen, next_write, next_read, next_in}
use Rattle.lvm_invariant.specs.LandNoFresh.{FindsNoFresh}

module _ (past : List Fact) (old new : State) (place : ℕ) (how : Outcome) (lands : Lands old new place how) (tied : IsTied past old) (q : Queued) (event : Event) (numbers : HaveNumbers old.core)
    (at : tied.view.queue (place_of lands.request.request.id) ≡ Some q) (sees : SeesRequest lands.request q) where
  abbrev core : Core
  core = old.core

  abbrev v : ModelState
  v = tied.view

  abbrev o : Open
  o = lands.request

  abbrev i : ℕ
  i = place_of o.request.id

  abbrev o2 : Open
  o2 = landed_as how o

  abbrev q2 : Queued
  q2 = land q

  abbrev fact : Fact
  fact = Landed (request_of core.history.facts o.request.id) how (is_begun o.request.targets.items) (got_blocks (count_of o.request.ask) o.got)

  abbrev told : Fact
  told = Landed (v.name i) how (is_begun o.request.targets.items) (got_blocks (count_of o.request.ask) o.got)

  fact_is : told ≡ fact
  fact_is = ap (λ (r : Asked). Landed r how (is_begun o.request.targets.items) (got_blocks (count_of o.request.ask) o.got)) (tied.sees.queue.names place o lands.there)

  abbrev done : Core
  done = after_landing core place o how

  abbrev core1 : Core
  core1 = record core { requests = slice_set core.requests place o2; pool = done.pool; queue = done.queue; cache = record core.cache { entries = (without_pin core.cache o.request).entries } }

  abbrev core2 : Core
  core2 = record core1 { history = with_fact core.history fact }

  abbrev w : ModelState
  w = landed v i q (v.facts ++ told ∷ [])

  sees2 : SeesRequest o2 q2
  sees2 = record { lv = sees.lv; first = sees.first; count = sees.count; write = sees.write; step = sees.step; phase = refl; several = sees.several; targets = sees.targets; got = λ buf none. absurd cc }

  sees_all : Sees past core2 w
  sees_all = subst (λ (f : Fact). Sees past core2 (record v { queue = put v.queue i q2; facts = v.facts ++ f ∷ [] })) (sym fact_is)
      (sees_entered past core1 (record v { queue = put v.queue i q2 }) fact refl
      (sees_changed past core v place o o2 q2 core1.pool core.flying core.last core1.queue core1.cache.entries v.media.block tied.sees numbers lands.there refl sees2 (entries_stay core.cache o.request)))

  whole : new ≡ state old.device core2
  whole = lands.is ∙ ap (λ (c : Cached). state old.device (record core2 { cache = c })) (cache_is core.cache o.request)

  carries : (g : Flight) (who : Owner) → CarriesStep core v g who → CarriesStep core2 w g who
  carries g (owner.Data id n) its = tt
  carries g (owner.Status disk) its = tt
  carries g (owner.Note disk) its = tt
  carries g owner.Copy its = λ c p is writing here. its c p is writing (sym (elsewhere c is writing) ∙ here)
    where
      elsewhere : (c : OpenCopy) → core.copy ≡ Some c → c.step ≡ step.Writing → w.queue c.place ≡ v.queue c.place
      elsewhere c is writing = elim (cases_eq c.place i) [
        | inl e ↦ absurd (step_apart past core v place o o2 q2 core1.pool core.flying core.last core1.queue core1.cache.entries v.media.block tied.sees numbers lands.there refl sees2 (entries_stay core.cache o.request) c is
            (ap (λ (st : Step). is_out st || (is_running c && not (is_whole core c))) writing) e)
        | inr ne ↦ let test : (c.place == i) ≡ false = grind (arith, nat_tests) in ap (λ b. if b then Some q2 else v.queue c.place) test
      ]

  pub lands_tied : ModelStep tied.votes event v w → AsksOf core.descriptor event → IsOrderly new tied.write → IsTied past new
  lands_tied step asks orderly = subst (IsTied past) (sym whole) (record {
    votes = tied.votes;
    media = tied.media;
    setting = tied.setting;
    view = w;
    sees = sees_all;
    good = each_keeps tied.votes event v w step tied.good;
    describes = quiet_lasts tied.votes event v w core.descriptor (update_of core.status) (contents_of (image_of old.device.sizes tied.media)) step tied.good asks tied.describes refl refl refl;
    write = tied.write;
    since = tied.since;
    recorded = tied.recorded;
    orderly = subst (λ (x : State). IsOrderly x tied.write) whole orderly;
    copy_aimed = tied.copy_aimed;
    carry = carry_on core core2 v w old.device.flights core.flying carries tied.carry;
    notes = tied.notes;
  })

-- ---- without a usable copy

pub data NoneFound (usable : Bool) (write : Bool) (p : ModelPhase) : Type 0 where
  AtFirst : p ≡ Held → usable ≡ false → NoneFound usable write p
  Later : (p ≡ WantEntry) ⊎ (p ≡ Ready) → write ≡ true → usable ≡ false → NoneFound usable write p

not_by_write : (policy : Policy) (ts : List Target) → next_write policy ts ≡ next.Land outcome.NoFresh → ⊥
not_by_write policy ts = by (Rattle.lvm_sched.specs.Writes.next_target policy (states_of ts))
  where
    by : (o : Option ℕ) → start_or_wait o ≡ next.Land outcome.NoFresh → ⊥
    by None h = absurd cc
    by (Some k) h = absurd cc

not_by_read : (ts : List Target) → next_read ts ≡ next.Land outcome.NoFresh → ⊥
not_by_read ts = by (list_any (λ (t : Target). is_done t.state) ts) (list_any (λ (t : Target). Rattle.lvm_sched.specs.Writes.is_flying t.state) ts) (position (λ (t : Target). Rattle.lvm_sched.specs.Writes.is_waiting t.state) ts)
  where
    by : (a b : Bool) (o : Option ℕ) → (if a then next.Land outcome.Got else if b then next.Wait else option_map_or next.Start o (next.Land outcome.ReadFailed)) ≡ next.Land outcome.NoFresh → ⊥
    by true b o h = absurd cc
    by false true o h = absurd cc
    by false false None h = absurd cc
    by false false (Some k) h = absurd cc

chosen_none : (k : Facts) (on : Next) → (on ≡ next.Land outcome.NoFresh → ⊥) → next_chosen k on ≡ next.Land outcome.NoFresh → k.usable ≡ false
chosen_none k on other h = by k.pending k.usable k.changed h
  where
    by : (p u c : Bool) → (if p then on else if not u then next.Land outcome.NoFresh else if c then next.Admit else on) ≡ next.Land outcome.NoFresh → u ≡ false
    by true u c h = absurd (other h)
    by false false c h = refl
    by false true true h = absurd cc
    by false true false h = absurd (other h)

none_found : (k : Facts) (r : Request) (p : Phase) → ((p ≡ phase.WantEntry) ⊎ (p ≡ phase.WantRecord) → is_write r.ask ≡ true) → next_in p k r ≡ next.Land outcome.NoFresh → NoneFound k.usable (is_write r.ask) (phase_seen p (is_begun r.targets.items))
none_found k r phase.Held writes h = AtFirst refl (by k.blocked k.pending k.usable h)
  where
    by : (b p u : Bool) → (if b || p then next.Wait else if u then next.Admit else next.Land outcome.NoFresh) ≡ next.Land outcome.NoFresh → u ≡ false
    by true p u h = absurd cc
    by false true u h = absurd cc
    by false false true h = absurd cc
    by false false false h = refl
none_found k r phase.WantEntry writes h = Later (inl refl) (writes (inl refl)) (chosen_none k (if k.pinned then next.Wait else next.Pin) (by k.pinned) h)
  where
    by : (b : Bool) → (if b then next.Wait else next.Pin) ≡ next.Land outcome.NoFresh → ⊥
    by true h = absurd cc
    by false h = absurd cc
none_found k r phase.WantRecord writes h = Later (inr refl) (writes (inr refl)) (chosen_none k (if k.named && k.dirty && not k.pending then next_write r.policy r.targets.items else next.Wait) (by (k.named && k.dirty && not k.pending)) h)
  where
    by : (b : Bool) → (if b then next_write r.policy r.targets.items else next.Wait) ≡ next.Land outcome.NoFresh → ⊥
    by true h = not_by_write r.policy r.targets.items h
    by false h = absurd cc
none_found k r phase.Data writes h = by (is_write r.ask) (is_begun r.targets.items) h
  where
    waits : (b : Bool) → (if b then next.Wait else next_write r.policy r.targets.items) ≡ next.Land outcome.NoFresh → ⊥
    waits true h = absurd cc
    waits false h = not_by_write r.policy r.targets.items h

    by : (w b : Bool) → (if w then (if b then next_write r.policy r.targets.items else next_chosen k (if k.pending then next.Wait else next_write r.policy r.targets.items)) else next_read r.targets.items) ≡ next.Land outcome.NoFresh
        → NoneFound k.usable w (if b then Going else Ready)
    by false b h = absurd (not_by_read r.targets.items h)
    by true true h = absurd (not_by_write r.policy r.targets.items h)
    by true false h = Later (inr refl) refl (chosen_none k (if k.pending then next.Wait else next_write r.policy r.targets.items) (waits k.pending) h)
none_found k r phase.WantStatus writes h = by k.marked k.kept h
  where
    by : (m c : Bool) → (if m then next.Land (if c then outcome.Done else outcome.Lost) else next.Wait) ≡ next.Land outcome.NoFresh → NoneFound k.usable (is_write r.ask) Going
    by true true h = absurd cc
    by true false h = absurd cc
    by false c h = absurd cc
none_found k r phase.Landed writes h = absurd cc

module _ (past : List Fact) (old new : State) (place : ℕ) (how : Outcome) (lands : Lands old new place how) (tied : IsTied past old) (inside : IsWithinVolume old.core.descriptor lands.request.request.ask) (is : how ≡ outcome.NoFresh)
    (writes : (lands.request.request.phase ≡ phase.WantEntry) ⊎ (lands.request.request.phase ≡ phase.WantRecord) → is_write lands.request.request.ask ≡ true) where
  finds_none : (q : Queued) → tied.view.queue (place_of lands.request.request.id) ≡ Some q → SeesRequest lands.request q → FindsNoFresh tied.view (place_of lands.request.request.id) q
  finds_none q at sees = by (none_found (facts_of old.core lands.request.request) lands.request.request lands.request.request.phase writes (lands.lands ∙ ap next.Land is))
    where
      none : list_any (is_usable old.core) (copies_for old.core lands.request.request.ask) ≡ false → (c : Pp) → IsTrue (tied.view.is_copy q.lv q.first c) → IsFalse (Rattle.lvm_invariant.specs.State.is_usable tied.view c)
      none unusable c copy = of_beside (is_beside tied.view.beside c) refl
        where
          of_beside : (b : Bool) → is_beside tied.view.beside c ≡ b → IsFalse (Rattle.lvm_invariant.specs.State.is_usable tied.view c)
          of_beside true is = ap (λ b. not b && not (tied.view.missing c.disk)) (beside_is_stale past old tied c is)
          of_beside false off =
              let one = copy_is_one past old tied lands.request.request.ask inside c off (sym (λ k. tied.view.is_copy (sees.lv k) (sees.first k) c) ∙ copy) in
              usable_one past old tied lands.request.request.ask inside c one ∙ any_none (is_usable old.core) (copies_for old.core lands.request.request.ask) c unusable one

      by : NoneFound (list_any (is_usable old.core) (copies_for old.core lands.request.request.ask)) (is_write lands.request.request.ask) (phase_seen lands.request.request.phase (is_begun lands.request.request.targets.items)) → FindsNoFresh tied.view (place_of lands.request.request.id) q
      by (AtFirst is unusable) = record { there = at; request = sees.step; early = inl (sees.phase ∙ is); none = none unusable }
      by (Later is write unusable) = record { there = at; request = sees.step; early = inr (sees.write ∙ write, ⊎_elim (λ e. inl (sees.phase ∙ e)) (λ e. inr (sees.phase ∙ e)) is); none = none unusable }

  pub no_fresh_ties : lands.request.got ≡ None → is_begun lands.request.request.targets.items ≡ false → IsOrderly new tied.write → IsTied past new
  no_fresh_ties empty early orderly =
      let o : Open = lands.request in
      let v : ModelState = tied.view in
      let seen = tied.sees.queue.requests place o lands.there in
      let q : Queued = seen.0 in
      let i : ℕ = place_of o.request.id in
      let none : got_blocks (count_of o.request.ask) o.got ≡ [] = ap (got_blocks (count_of o.request.ask)) empty in
      let step : ModelStep tied.votes (LandNoFresh i q) v (landed v i q (v.facts ++ Landed (v.name i) how (is_begun o.request.targets.items) (got_blocks (count_of o.request.ask) o.got) ∷ [])) =
      (finds_none q seen.1 seen.2, λ k. landed v i q (v.facts ++ Landed (v.name i) (is k) (early k) (none k) ∷ [])) in
      lands_tied past old new place how lands tied q (LandNoFresh i q) (numbers_of old tied.write tied.orderly) seen.1 seen.2 step tt orderly
