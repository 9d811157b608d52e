-- Landings of writes whose staleness is settled, tied.
use Rattle.std.proofs.Common.{◌≡◌, ◌⊎◌, inl, inr, ⊎_elim, ℕ, Bool, true, false, ◌&&◌, ◌||◌, not, List, [], ◌∷◌, ◌++◌, Some, None, refl, sym, ap, subst, ◌∙◌}
use Rattle.std.specs.Prelude.{if◌then◌else◌}
use Rattle.std.specs.List.{list_all}
use Rattle.lvm_num.specs.declared.place.Pp.{Pp}
use Rattle.lvm_num.specs.Geometry.{track_group_of}
use Rattle.lvm_vol.specs.declared.entry.Outcome.{Outcome}
use Rattle.lvm_vol.specs.declared.entry.Outcome.TheVariants as outcome
use Rattle.lvm_vol.specs.Facts.{Fact, Landed}
use Rattle.lvm_kept.specs.Group.{IsOneOf}
use Rattle.lvm_sched.specs.declared.writes.TargetState.{TargetState}
use Rattle.lvm_sched.specs.declared.writes.TargetState.TheVariants as target
use Rattle.lvm_path.specs.declared.facts.Next.TheVariants as next
use Rattle.lvm_path.specs.declared.request.Phase.{Phase}
use Rattle.lvm_path.specs.declared.request.Phase.TheVariants as phase
use Rattle.lvm_path.specs.declared.target.Target.{Target}
use Rattle.lvm_path.specs.Asks.{lv_of, at_of, count_of, is_write}
use Rattle.lvm_path.specs.Targets.{is_begun, is_over, is_failed, are_over}
use Rattle.lvm_path.specs.Next.{next_in}
use Rattle.lvm_session.specs.declared.open.Open.{Open}
use Rattle.lvm_session.specs.State.{Core, State}
use Rattle.lvm_session.specs.Judging.{place_of, is_sure_at, is_settled, is_kept, is_marked, counts_failed, all_but_sure, facts_of}
use Rattle.lvm_session.specs.Events.{Lands, got_blocks}
use Rattle.lvm_invariant.specs.State.{Stage, Well, Badly, Queued, ModelState, HasPassed, Started}
use Rattle.lvm_invariant.specs.Updates.{landed}
use Rattle.lvm_num.specs.Descriptor.{is_pp}
use Rattle.lvm_invariant.specs.LandDone.{IsDropped, LandsDone}
use Rattle.lvm_invariant.specs.LandLost.{LandsLost}
use Rattle.lvm_invariant.specs.Events.{LandDone, LandLost, ModelStep}
use Rattle.lvm_crash.proofs.WritingLemmas.{pp_same}
use Rattle.lvm_tie.proofs.StateLemmas.{settled_seen}
use Rattle.lvm_tie.proofs.AmongLemmas.{all_one}
use Rattle.lvm_tie.specs.Seen.{stage_seen, stage_at, phase_seen, SeesRequest}
use Rattle.lvm_tie.proofs.TiedLemmas.Orderly.{numbers_of}
use Rattle.lvm_tie.specs.Tied.{IsOrderly, IsTied}
use Rattle.lvm_tie.proofs.LandsLemmas.LandTies.{lands_tied}

-- the target at a partition with a stage
pub record IsAt (ts : List Target) (e : Pp) (stage : Stage) : Type 0 where
  pub aim : Target
  pub one : IsOneOf ts aim
  pub its : aim.pp ≡ e
  pub is : stage ≡ stage_seen aim.state

pub stage_in : (ts : List Target) (e : Pp) (stage : Stage) → stage_at ts e ≡ Some stage → IsAt ts e stage
stage_in [] e stage h = absurd cc
stage_in (t ∷ ts) e stage h = by (is_pp e t.pp) refl h (stage_in ts e stage)
  where
    by : (b : Bool) → is_pp e t.pp ≡ b → (if b then Some (stage_seen t.state) else stage_at ts e) ≡ Some stage → (stage_at ts e ≡ Some stage → IsAt ts e stage) → IsAt (t ∷ ts) e stage
    by true test is rest = record { aim = t; one = inl refl; its = sym (pp_same e t.pp test); is = let s : stage ≡ stage_seen t.state = cc in s }
    by false test is rest = let r = rest is in record { aim = r.aim; one = inr r.one; its = r.its; is = r.is }

-- the first that is sure; all others are the rest
pub record IsButOne (core : Core) (ts : List Target) : Type 0 where
  pub kept : Pp
  pub others : (t : Target) → IsOneOf ts t → (t.pp ≡ kept) ⊎ IsOneOf (all_but_sure core ts) t

but_one : (core : Core) (ts : List Target) → IsButOne core ts
but_one core [] = record { kept = record { disk = 0; pp = 0 }; others = λ t one. absurd one }
but_one core (t ∷ ts) = let r = by (is_sure_at core t) (but_one core ts) in record { kept = r.0; others = r.1 }
  where
    both : (rest : List Target) (kept : Pp) → ((u : Target) → IsOneOf ts u → (u.pp ≡ kept) ⊎ IsOneOf rest u) → (u : Target) → IsOneOf (t ∷ ts) u → (u.pp ≡ kept) ⊎ IsOneOf (t ∷ rest) u
    both rest kept others u (inl here) = inr (inl here)
    both rest kept others u (inr there) = ⊎_elim (λ is. inl is) (λ is. inr (inr is)) (others u there)

    first : (u : Target) → IsOneOf (t ∷ ts) u → (u.pp ≡ t.pp) ⊎ IsOneOf ts u
    first u (inl here) = inl (ap (λ (x : Target). x.pp) here)
    first u (inr there) = inr there

    by : (b : Bool) → IsButOne core ts → (kept : Pp) × ((u : Target) → IsOneOf (t ∷ ts) u → (u.pp ≡ kept) ⊎ IsOneOf (if b then ts else t ∷ all_but_sure core ts) u)
    by true rest = (t.pp, first)
    by false rest = (rest.kept, both (all_but_sure core ts) rest.kept rest.others)

over_stage : (s : TargetState) → is_over s ≡ true → (stage_seen s ≡ Well) ⊎ ((stage_seen s ≡ Badly) × (is_failed s ≡ true))
over_stage target.Waiting h = absurd cc
over_stage target.Flying h = absurd cc
over_stage target.Done h = inl refl
over_stage target.Failed h = inr (refl, refl)

settled_or : (failed wanted settled : Bool) → failed ≡ true → (not (failed || wanted) || settled) ≡ true → settled ≡ true
settled_or true wanted settled h is = is
settled_or false wanted settled h is = absurd cc

module _ (past : List Fact) (old new : State) (place : ℕ) (result : Outcome) (lands : Lands old new place result) (tied : IsTied past old) (waits : lands.request.request.phase ≡ phase.WantStatus) (writes : is_write lands.request.request.ask ≡ true)
    (begun : is_begun lands.request.request.targets.items ≡ true) (over : are_over lands.request.request.targets.items ≡ true)
    (uncaught : (t : Target) → IsOneOf lands.request.request.targets.items t → (is_failed t.state ≡ true) ⊎ (is_kept old.core lands.request.request ≡ false)
    → HasPassed tied.view (lv_of lands.request.request.ask) (track_group_of (at_of lands.request.request.ask)) t.pp → ⊥)
    (q : Queued) (at : tied.view.queue (place_of lands.request.request.id) ≡ Some q) (sees : SeesRequest lands.request q) where
  abbrev core : Core
  core = old.core

  abbrev o : Open
  o = lands.request

  abbrev ts : List Target
  ts = o.request.targets.items

  abbrev v : ModelState
  v = tied.view

  abbrev i : ℕ
  i = place_of o.request.id

  started : Started v i q
  started = record { there = at; write = sees.write ∙ writes; going = sees.phase ∙ ap (λ (p : Phase). phase_seen p (is_begun ts)) waits }

  -- how it lands
  pub data How : Type 0 where
    Kept : result ≡ outcome.Done → is_kept core o.request ≡ true → ((t : Target) → IsOneOf ts t → is_failed t.state ≡ true → is_settled core t.pp ≡ true) → How
    Gone : result ≡ outcome.Lost → is_kept core o.request ≡ false → ((t : Target) → IsOneOf (all_but_sure core ts) t → is_settled core t.pp ≡ true) → How

  pub how : How
  how = by (is_kept core o.request) refl (is_marked core o.request) refl (sym (ap (λ (p : Phase). next_in p (facts_of core o.request) o.request) waits) ∙ lands.lands)
    where
      by : (k : Bool) → is_kept core o.request ≡ k → (m : Bool) → is_marked core o.request ≡ m → (if m then next.Land (if k then outcome.Done else outcome.Lost) else next.Wait) ≡ next.Land result → How
      by k is false marked h = absurd cc
      by true is true marked h = Kept (let e : result ≡ outcome.Done = cc in e) is (λ t one failed.
          let all : list_all (λ (u : Target). not (counts_failed core u) || is_settled core u.pp) ts ≡ true = sym (ap (λ b. if b then list_all (λ (u : Target). not (counts_failed core u) || is_settled core u.pp) ts else list_all (λ (u : Target). is_settled core u.pp) (all_but_sure core ts)) is) ∙ marked in
          settled_or (is_failed t.state) (t.usable && Rattle.lvm_session.specs.Judging.is_wanted_stale core t.pp) (is_settled core t.pp) failed (all_one (λ (u : Target). not (counts_failed core u) || is_settled core u.pp) ts t all one))
      by false is true marked h = Gone (let e : result ≡ outcome.Lost = cc in e) is (λ t one.
          let all : list_all (λ (u : Target). is_settled core u.pp) (all_but_sure core ts) ≡ true = sym (ap (λ b. if b then list_all (λ (u : Target). not (counts_failed core u) || is_settled core u.pp) ts else list_all (λ (u : Target). is_settled core u.pp) (all_but_sure core ts)) is) ∙ marked in
          all_one (λ (u : Target). is_settled core u.pp) (all_but_sure core ts) t all one)

  dropped : (t : Target) (c : Pp) → t.pp ≡ c → IsOneOf ts t → is_settled core t.pp ≡ true → (is_failed t.state ≡ true) ⊎ (is_kept core o.request ≡ false) → IsDropped v q c
  dropped t c same one settled why = subst (IsDropped v q) same (record {
    stale = settled_seen past old tied t.pp settled;
    uncaught = λ passed. uncaught t one why ((subst (λ n. HasPassed v n (track_group_of (at_of o.request.ask)) t.pp) sees.lv (subst (λ n. HasPassed v q.lv (track_group_of n) t.pp) sees.first passed)));
  })

  ended : (c : Pp) (stage : Stage) → q.targets c ≡ Some stage → (x : IsAt ts c stage) × ((stage ≡ Well) ⊎ ((stage ≡ Badly) × (is_failed x.aim.state ≡ true)))
  ended c stage is =
      let x = stage_in ts c stage (sym (sees.targets c) ∙ is) in
      (x, ⊎_elim (λ w. inl (x.is ∙ w)) (λ b. inr (x.is ∙ b.0, b.1)) (over_stage x.aim.state (all_one (λ (t : Target). is_over t.state) ts x.aim over x.one)))

  pub lands_done : is_kept core o.request ≡ true → ((t : Target) → IsOneOf ts t → is_failed t.state ≡ true → is_settled core t.pp ≡ true) → LandsDone v i q
  lands_done kept settled = record {
    started = started;
    ended = λ c stage is. let x = ended c stage is in ⊎_elim (λ w. inl w) (λ b. inr (b.0, dropped x.0.aim c x.0.its x.0.one (settled x.0.aim x.0.one b.1) (inl b.1))) x.1;
  }

  pub lands_lost : is_kept core o.request ≡ false → ((t : Target) → IsOneOf (all_but_sure core ts) t → is_settled core t.pp ≡ true) → LandsLost v i q
  lands_lost gone settled = let one = but_one core ts in record {
    started = started;
    kept = one.kept;
    ended = λ c stage is. ⊎_elim (λ w. inl w) (λ b. inr b.0) (ended c stage is).1;
    dropped = λ c stage is. let x = (ended c stage is).0 in ⊎_elim (λ same. inl (sym x.its ∙ same)) (λ other. inr (dropped x.aim c x.its x.one (settled x.aim other) (inr gone))) (one.others x.aim x.one);
  }

  pub tied_after : o.got ≡ None → How → IsOrderly new tied.write → IsTied past new
  tied_after empty (Kept done is settled) orderly =
      let got : got_blocks (count_of o.request.ask) o.got ≡ [] = ap (got_blocks (count_of o.request.ask)) empty in
      let step : ModelStep tied.votes (LandDone i q) v (landed v i q (v.facts ++ Landed (v.name i) result (is_begun ts) (got_blocks (count_of o.request.ask) o.got) ∷ [])) = (lands_done is settled, λ k. landed v i q (v.facts ++ Landed (v.name i) (done k) (begun k) (got k) ∷ [])) in
      lands_tied past old new place result lands tied q (LandDone i q) (numbers_of old tied.write tied.orderly) at sees step tt orderly
  tied_after empty (Gone lost is settled) orderly =
      let got : got_blocks (count_of o.request.ask) o.got ≡ [] = ap (got_blocks (count_of o.request.ask)) empty in
      let step : ModelStep tied.votes (LandLost i q) v (landed v i q (v.facts ++ Landed (v.name i) result (is_begun ts) (got_blocks (count_of o.request.ask) o.got) ∷ [])) = (lands_lost is settled, λ k. landed v i q (v.facts ++ Landed (v.name i) (lost k) (begun k) (got k) ∷ [])) in
      lands_tied past old new place result lands tied q (LandLost i q) (numbers_of old tied.write tied.orderly) at sees step tt orderly
