-- Each landing of a sound session, tied.
use Rattle.std.proofs.Common.{◌≡◌, ◌⊎◌, inl, inr, ⊎_elim, ℕ, ◌≤◌, Bool, true, false, ◌&&◌, ◌||◌, not, if◌then◌else◌, List, [], ◌∷◌, length, Option, Some, None, refl, sym, ap, subst, ◌∙◌, arith}
use Rattle.std.specs.Prelude.{IfSome, is_some, position}
use Rattle.std.specs.List.{list_any}
use Rattle.std.specs.Option.{option_map_or}
use Rattle.lvm_num.specs.Buffer.{Buffer}
use Rattle.lvm_num.specs.Geometry.{track_group_of}
use Rattle.lvm_vol.specs.Facts.{Request as Asked, Fact}
use Rattle.lvm_vol.specs.declared.entry.Outcome.{Outcome}
use Rattle.lvm_vol.specs.declared.entry.Outcome.TheVariants as outcome
use Rattle.lvm_sched.specs.Writes.{is_flying, is_waiting as target_waits, next_target}
use Rattle.lvm_num.specs.declared.descriptor.Policy.{Policy}
use Rattle.lvm_num.proofs.Lists.{all_at}
use Rattle.lvm_sched.specs.declared.writes.TargetState.{TargetState}
use Rattle.lvm_sched.specs.declared.writes.TargetState.TheVariants as target
use Rattle.lvm_path.specs.declared.facts.Facts.{Facts}
use Rattle.lvm_path.specs.declared.facts.Next.{Next}
use Rattle.lvm_path.specs.declared.facts.Next.TheVariants as next
use Rattle.lvm_path.specs.declared.request.Phase.{Phase}
use Rattle.lvm_path.specs.declared.request.Phase.TheVariants as phase
use Rattle.lvm_path.specs.declared.request.Request.{Request}
use Rattle.lvm_path.specs.declared.target.Target.{Target}
use Rattle.lvm_path.specs.Asks.{at_of, is_write, lv_of}
use Rattle.lvm_path.specs.Targets.{are_over, is_begun, is_done, is_failed, is_over, states_of}
use Rattle.lvm_path.specs.Next.{next_chosen, next_data, next_in, next_read, next_write, start_or_wait}
use Rattle.lvm_session.specs.declared.open.Open.{Open}
use Rattle.lvm_session.specs.State.{Core, State}
use Rattle.lvm_session.specs.Judging.{facts_of, group_in, is_caught, is_kept, is_waiting}
use Rattle.lvm_session.specs.Events.{Lands}
use Rattle.lvm_session.specs.Requests.{IsPhase, IsRequest, IsTarget, may_lack, wants_status}
use Rattle.lvm_session.specs.Sound.{IsSound}
use Rattle.lvm_keeps_events.proofs.UncaughtLemmas.{lost_is_uncaught}
use Rattle.lvm_kept.specs.Group.{IsOneOf}
use Rattle.lvm_invariant.specs.State.{HasPassed}
use Rattle.lvm_tie.specs.Tied.{IsOrderly, IsTied}
use Rattle.lvm_tie.proofs.StateLemmas.{passed_caught, target_beside}
use Rattle.lvm_tie.proofs.TiedLemmas.Orderly.{asked_one, open_one, request_is, waiting_one}
use Rattle.lvm_tie.proofs.AmongLemmas.{one_there}
use Rattle.lvm_tie.specs.Lands.{LandTies}
use Rattle.lvm_tie.proofs.LandsLemmas.LandTies.{no_fresh_ties}
use Rattle.lvm_tie.proofs.LandsLemmas.MarkedTies.{how as how_is, tied_after}
use Rattle.lvm_tie.proofs.LandsLemmas.GotTies.{GotsAre, HasGot, tied_after as got_ties}

-- ---- how a request lands

no_landing : (n : Next) (how : Outcome) → (n ≡ next.Wait) → n ≡ next.Land how → ⊥
no_landing n how waits lands = let e : next.Wait ≡ next.Land how = sym waits ∙ lands in cc

not_written : (how : Outcome) (policy : Policy) (ts : List Target) → next_write policy ts ≡ next.Land how → ⊥
not_written how policy ts = by (next_target policy (states_of ts))
  where
    by : (o : Option ℕ) → start_or_wait o ≡ next.Land how → ⊥
    by None h = cc h
    by (Some k) h = cc h

chosen_lands : (k : Facts) (on : Next) (how : Outcome) → (on ≡ next.Land how → ⊥) → next_chosen k on ≡ next.Land how → how ≡ outcome.NoFresh
chosen_lands k on how other h = by k.pending k.usable k.changed h
  where
    by : (p u c : Bool) → (if p then on else if not u then next.Land outcome.NoFresh else if c then next.Admit else on) ≡ next.Land how → how ≡ outcome.NoFresh
    by true u c h = absurd (other h)
    by false false c h = let e : how ≡ outcome.NoFresh = cc h in e
    by false true true h = absurd (cc h)
    by false true false h = absurd (other h)

-- a request without a copy; a write whose transfers have ended; or a read
pub data Landing (p : Phase) (write : Bool) (how : Outcome) : Type 0 where
  Without : how ≡ outcome.NoFresh → Landing p write how
  Marked : p ≡ phase.WantStatus → Landing p write how
  Reads : p ≡ phase.Data → write ≡ false → Landing p write how

landing_of : (k : Facts) (r : Request) (p : Phase) (how : Outcome) → next_in p k r ≡ next.Land how → Landing p (is_write r.ask) how
landing_of k r phase.Held how h = by k.blocked k.pending k.usable h
  where
    by : (b p u : Bool) → (if b || p then next.Wait else if u then next.Admit else next.Land outcome.NoFresh) ≡ next.Land how → Landing phase.Held (is_write r.ask) how
    by true p u h = absurd (cc h)
    by false true u h = absurd (cc h)
    by false false true h = absurd (cc h)
    by false false false h = Without (let e : how ≡ outcome.NoFresh = cc h in e)
landing_of k r phase.WantEntry how h = Without (chosen_lands k (if k.pinned then next.Wait else next.Pin) how (by k.pinned) h)
  where
    by : (b : Bool) → (if b then next.Wait else next.Pin) ≡ next.Land how → ⊥
    by true h = cc h
    by false h = cc h
landing_of k r phase.WantRecord how h = Without (chosen_lands k (if k.named && k.dirty && not k.pending then next_write r.policy r.targets.items else next.Wait) how (by (k.named && k.dirty && not k.pending)) h)
  where
    by : (b : Bool) → (if b then next_write r.policy r.targets.items else next.Wait) ≡ next.Land how → ⊥
    by true h = not_written how r.policy r.targets.items h
    by false h = cc h
landing_of k r phase.Data how h = by (is_write r.ask) (is_begun r.targets.items) h
  where
    waits : (b : Bool) → (if b then next.Wait else next_write r.policy r.targets.items) ≡ next.Land how → ⊥
    waits true h = cc h
    waits false h = not_written how r.policy r.targets.items h

    by : (w b : Bool) → (if w then (if b then next_write r.policy r.targets.items else next_chosen k (if k.pending then next.Wait else next_write r.policy r.targets.items)) else next_read r.targets.items) ≡ next.Land how
        → Landing phase.Data w how
    by false b h = Reads refl refl
    by true true h = absurd (not_written how r.policy r.targets.items h)
    by true false h = Without (chosen_lands k (if k.pending then next.Wait else next_write r.policy r.targets.items) how (waits k.pending) h)
landing_of k r phase.WantStatus how h = Marked refl
landing_of k r phase.Landed how h = absurd (cc h)

-- one that finds no copy hasn't begun
none_begun : (k : Facts) (r : Request) (o : Open) (p : Phase) → o.request ≡ r → r.phase ≡ p → IsPhase p o → next_in p k r ≡ next.Land outcome.NoFresh → is_begun o.request.targets.items ≡ false
none_begun k r o phase.Held same at its h = ap is_begun its.0
none_begun k r o phase.WantEntry same at its h = its.0
none_begun k r o phase.WantRecord same at its h = its.0
none_begun k r o phase.Data same at its h = by (is_write r.ask) (is_begun r.targets.items) refl h
  where
    not_read : (a b : Bool) (m : Option ℕ) → (if a then next.Land outcome.Got else if b then next.Wait else option_map_or next.Start m (next.Land outcome.ReadFailed)) ≡ next.Land outcome.NoFresh → ⊥
    not_read true b m h = cc h
    not_read false true m h = cc h
    not_read false false None h = cc h
    not_read false false (Some n) h = cc h

    by : (w b : Bool) → is_begun r.targets.items ≡ b → (if w then (if b then next_write r.policy r.targets.items else next_chosen k (if k.pending then next.Wait else next_write r.policy r.targets.items)) else next_read r.targets.items) ≡ next.Land outcome.NoFresh
        → is_begun o.request.targets.items ≡ false
    by false b is h = absurd (not_read (list_any (λ (t : Target). is_done t.state) r.targets.items) (list_any (λ (t : Target). is_flying t.state) r.targets.items) (position (λ (t : Target). target_waits t.state) r.targets.items) h)
    by true true is h = absurd (not_written outcome.NoFresh r.policy r.targets.items h)
    by true false is h = ap (λ (x : Request). is_begun x.targets.items) same ∙ is
none_begun k r o phase.WantStatus same at its h = absurd (by k.marked k.kept h)
  where
    by : (m c : Bool) → (if m then next.Land (if c then outcome.Done else outcome.Lost) else next.Wait) ≡ next.Land outcome.NoFresh → ⊥
    by true true h = cc h
    by true false h = cc h
    by false c h = cc h
none_begun k r o phase.Landed same at its h = absurd its

-- ---- targets

pub done_begun : (ts : List Target) → list_any (λ (t : Target). is_done t.state) ts ≡ true → is_begun ts ≡ true
done_begun [] h = absurd (cc h)
done_begun (t ∷ ts) h = by t.state (is_begun ts) (done_begun ts) h
  where
    by : (s : TargetState) (b : Bool) → (list_any (λ (u : Target). is_done u.state) ts ≡ true → b ≡ true) → is_done s || list_any (λ (u : Target). is_done u.state) ts ≡ true → not (target_waits s) || b ≡ true
    by target.Waiting b rest h = rest h
    by target.Flying b rest h = refl
    by target.Done b rest h = refl
    by target.Failed b rest h = refl

over_begun : (ts : List Target) → 1 ≤ length ts → are_over ts ≡ true → is_begun ts ≡ true
over_begun [] some over = absurd (omega (arith, some))
over_begun (t ∷ ts) some over = by t.state over
  where
    by : (s : TargetState) → (is_over s && are_over ts) ≡ true → not (target_waits s) || is_begun ts ≡ true
    by target.Waiting h = absurd (cc h)
    by target.Flying h = refl
    by target.Done h = refl
    by target.Failed h = refl

none_waits_begun : (ts : List Target) → 1 ≤ length ts → list_any (λ (t : Target). target_waits t.state) ts ≡ false → is_begun ts ≡ true
none_waits_begun [] some none = absurd (omega (arith, some))
none_waits_begun (t ∷ ts) some none = by (target_waits t.state) none
  where
    by : (b : Bool) → b || list_any (λ (u : Target). target_waits u.state) ts ≡ false → not b || is_begun ts ≡ true
    by true h = absurd (cc h)
    by false h = refl

some_long : (ts : List Target) (p : Target → Bool) → list_any p ts ≡ true → 1 ≤ length ts
some_long [] p h = absurd (cc h)
some_long (t ∷ ts) p h = omega arith

-- ---- the landing

module _ (past : List Fact) (old new : State) (place : ℕ) (how : Outcome) (lands : Lands old new place how) (tied : IsTied past old) (sound : IsSound new) where
  abbrev core : Core
  core = old.core

  abbrev o : Open
  o = lands.request

  abbrev ts : List Target
  ts = o.request.targets.items

  abbrev k : Facts
  k = facts_of core o.request

  orderly : IsOrderly new tied.write
  orderly = record {
    sound = sound;
    on = ap (λ (s : State). s.core.power) lands.is ∙ tied.orderly.on;
    update = subst (λ (s : State). Rattle.lvm_tie.specs.Out.IsWriteOf s.core.status s.core.homes s.core.status.in_flight tied.write) (sym lands.is) tied.orderly.update;
  }

  waits : is_waiting o ≡ true
  waits = by (is_waiting o) refl
    where
      by : (b : Bool) → is_waiting o ≡ b → is_waiting o ≡ true
      by true is = is
      by false is = absurd (let at = ((open_one old tied.write tied.orderly place o lands.there).over is).phase_is in let e : next.Wait ≡ next.Land how = sym (ap (λ (p : Phase). next_in p k o.request) at) ∙ lands.lands in cc)

  its : IsRequest core o
  its = waiting_one old tied.write tied.orderly place o lands.there waits

  landing : Landing o.request.phase (is_write o.request.ask) how
  landing = landing_of k o.request o.request.phase how lands.lands

  -- without a copy
  without : how ≡ outcome.NoFresh → IsTied past new
  without is =
      let early : is_begun ts ≡ false = none_begun k o.request o o.request.phase refl refl its.shape.phase_is (lands.lands ∙ ap next.Land is) in
      no_fresh_ties past old new place how lands tied (open_one old tied.write tied.orderly place o lands.there).laid.within is writes (empty early) early orderly
    where
      undone : is_begun ts ≡ false → list_any (λ (t : Target). is_done t.state) ts ≡ false
      undone early = by (list_any (λ (t : Target). is_done t.state) ts) refl
        where
          by : (b : Bool) → list_any (λ (t : Target). is_done t.state) ts ≡ b → b ≡ false
          by true done = absurd (let e : true ≡ false = sym (done_begun ts done) ∙ early in cc)
          by false done = refl

      none : (m : Option Buffer) → is_some m ≡ false → m ≡ None
      none None h = refl
      none (Some b) h = absurd (cc h)

      and_false : (a b : Bool) → b ≡ false → (a && b) ≡ false
      and_false true b h = h
      and_false false b h = refl

      empty : is_begun ts ≡ false → o.got ≡ None
      empty early = none o.got (its.shape.hand ∙ and_false (not (is_write o.request.ask)) (list_any (λ (t : Target). is_done t.state) ts) (undone early))

      by_phase : (p : Phase) → (p ≡ phase.WantEntry) ⊎ (p ≡ phase.WantRecord) → IsPhase p o → is_write o.request.ask ≡ true
      by_phase phase.Held is said = absurd (⊎_elim (λ e. cc e) (λ e. cc e) is)
      by_phase phase.WantEntry is said = said.2
      by_phase phase.WantRecord is said = said.1
      by_phase phase.Data is said = absurd (⊎_elim (λ e. cc e) (λ e. cc e) is)
      by_phase phase.WantStatus is said = absurd (⊎_elim (λ e. cc e) (λ e. cc e) is)
      by_phase phase.Landed is said = absurd said

      writes : (o.request.phase ≡ phase.WantEntry) ⊎ (o.request.phase ≡ phase.WantRecord) → is_write o.request.ask ≡ true
      writes at = by_phase o.request.phase at its.shape.phase_is

  -- a write whose transfers have ended
  marked : o.request.phase ≡ phase.WantStatus → IsTied past new
  marked at =
      let said : IsPhase phase.WantStatus o = subst (λ (p : Phase). IsPhase p o) at its.shape.phase_is in
      let some : 1 ≤ length ts = some_long ts (λ (t : Target). t.usable) (its.shape.usable (ap Rattle.lvm_session.specs.Requests.is_past_held at)) in
      let begun : is_begun ts ≡ true = over_begun ts some said.1 in
      let seen = tied.sees.queue.requests place o lands.there in
      tied_after past old new place how lands tied at said.0 begun said.1 (uncaught said.0) seen.0 seen.1 seen.2 (no_hand said.0)
      (how_is past old new place how lands tied at said.0 begun said.1 (uncaught said.0) seen.0 seen.1 seen.2) orderly
    where
      none : (m : Option Buffer) → is_some m ≡ false → m ≡ None
      none None h = refl
      none (Some b) h = absurd (cc h)

      no_hand : is_write o.request.ask ≡ true → o.got ≡ None
      no_hand writes = none o.got (its.shape.hand ∙ ap (λ b. not b && list_any (λ (t : Target). is_done t.state) ts) writes)

      and_right : (a b : Bool) → (a && b) ≡ false → a ≡ true → b ≡ false
      and_right true b h is = h
      and_right false b h is = absurd (cc is)

      not_caught : is_write o.request.ask ≡ true → (t : Target) → IsOneOf ts t → (is_failed t.state ≡ true) ⊎ (is_kept core o.request ≡ false) → is_caught core (group_in core o.request.ask) t.pp ≡ false
      not_caught writes t one (inl failed) =
          let there = one_there ts t one in
          and_right (may_lack o t) (is_caught core (group_in core o.request.ask) t.pp)
          (all_at (λ (u : Target). may_lack o u && is_caught core (group_in core o.request.ask) u.pp ≡ false) ts there.0 t (its.judged writes).uncaught there.1)
          (ap (λ b. b || o.older) failed)
      not_caught writes t one (inr gone) =
          let there = one_there ts t one in
          lost_is_uncaught old place o tied.orderly.sound tied.orderly.on lands.there (ap wants_status at) gone there.0 t there.1

      uncaught : is_write o.request.ask ≡ true → (t : Target) → IsOneOf ts t → (is_failed t.state ≡ true) ⊎ (is_kept core o.request ≡ false)
          → HasPassed tied.view (lv_of o.request.ask) (track_group_of (at_of o.request.ask)) t.pp → ⊥
      uncaught writes t one why passed =
          let there = one_there ts t one in
          let inside = (open_one old tied.write tied.orderly place o lands.there).laid.within in
          let caught = passed_caught past old tied o.request.ask inside t.pp (target_beside past old tied o.request.ask inside t (all_at (IsTarget core o.request.ask) ts there.0 t its.shape.targets there.1)) passed in
          let e : true ≡ false = sym caught ∙ not_caught writes t one why in
          cc

  -- a read
  reads : o.request.phase ≡ phase.Data → is_write o.request.ask ≡ false → IsTied past new
  reads at read = got_ties past old new place how lands tied waits at read begun (gots (list_any (λ (t : Target). is_done t.state) ts) refl) orderly
    where
      said : IsPhase phase.Data o
      said = subst (λ (p : Phase). IsPhase p o) at its.shape.phase_is

      goes : next_read ts ≡ next.Land how
      goes = sym ((λ t. next_in (at t) k o.request) ∙ (λ t. if read t then next_data k o.request else next_read ts)) ∙ lands.lands

      begun : is_begun ts ≡ true
      begun = by (list_any (λ (t : Target). is_done t.state) ts) refl (list_any (λ (t : Target). is_flying t.state) ts) (position (λ (t : Target). target_waits t.state) ts) refl goes
        where
          by : (a : Bool) → list_any (λ (t : Target). is_done t.state) ts ≡ a → (b : Bool) (m : Option ℕ) → position (λ (t : Target). target_waits t.state) ts ≡ m
              → (if a then next.Land outcome.Got else if b then next.Wait else option_map_or next.Start m (next.Land outcome.ReadFailed)) ≡ next.Land how → is_begun ts ≡ true
          by true is b m none h = done_begun ts is
          by false is true m none h = absurd (cc h)
          by false is false (Some n) none h = absurd (cc h)
          by false is false None none h = none_waits_begun ts said.0 (Rattle.lvm_tie.proofs.LandsLemmas.GotTies.no_place ts none)

      in_hand : (m : Option Buffer) → is_some m ≡ true → (buf : Buffer) × (m ≡ Some buf)
      in_hand None h = absurd (cc h)
      in_hand (Some buf) h = (buf, refl)

      no_hand : (m : Option Buffer) → is_some m ≡ false → m ≡ None
      no_hand None h = refl
      no_hand (Some buf) h = absurd (cc h)

      gots : (b : Bool) → list_any (λ (t : Target). is_done t.state) ts ≡ b → GotsAre core o b
      gots true done =
          let hand = in_hand o.got (its.shape.hand ∙ (λ t. not (read t) && done t)) in
          let room : length hand.0.sectors ≡ 256 = subst (λ (m : Option Buffer). IfSome m (λ (buf : Buffer). length buf.sectors ≡ 256)) hand.1 its.shape.room in
          let group = (open_one old tied.write tied.orderly place o lands.there).laid.blocks.group in
          record {
            buf = hand.0;
            in_hand = hand.1;
            long = omega (arith, room, group);
            count = ap (λ (r : Asked). r.count) (request_is old tied.write tied.orderly place o lands.there) ∙ (asked_one old tied.write tied.orderly place o lands.there).count;
          }
      gots false none = no_hand o.got (its.shape.hand ∙ (λ t. not (read t) && none t))

  pub landed_ties : IsTied past new
  landed_ties = by landing
    where
      by : Landing o.request.phase (is_write o.request.ask) how → IsTied past new
      by (Without is) = without is
      by (Marked at) = marked at
      by (Reads at read) = reads at read

pub land_ties : LandTies
land_ties place how past old new tied sound lands = landed_ties past old new place how lands tied sound
