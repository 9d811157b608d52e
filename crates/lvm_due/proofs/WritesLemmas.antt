-- A target whose transfer is started has waited for it.
use Rattle.std.proofs.Common.{◌≡◌, ◌&&◌, ◌||◌, not, ℕ, zero, suc, Bool, true, false, List, [], ◌∷◌, Option, Some, None, slice_get, refl, sym, ◌∙◌, ap}
use Rattle.std.specs.Prelude.{if◌then◌else◌, position}
use Rattle.std.specs.List.{list_any}
use Rattle.std.specs.Option.{option_map}
use Rattle.std.proofs.lemmas.List.Quantifiers.{position-Some}
use Rattle.std.proofs.lemmas.Option.{get_or_from_slice_get, slice_get-map}
use Rattle.lvm_num.specs.declared.descriptor.Policy.{Policy}
use Rattle.lvm_num.specs.declared.descriptor.Policy.TheVariants as policy
use Rattle.lvm_vol.specs.declared.entry.Outcome.TheVariants as outcome
use Rattle.lvm_sched.specs.declared.writes.TargetState.{TargetState}
use Rattle.lvm_sched.specs.declared.writes.TargetState.TheVariants as stage
use Rattle.lvm_sched.specs.Writes.{is_flying, is_waiting, next_target}
use Rattle.lvm_path.specs.declared.facts.Facts.{Facts}
use Rattle.lvm_path.specs.declared.facts.Next.{Next}
use Rattle.lvm_path.specs.declared.facts.Next.TheVariants as next
use Rattle.lvm_path.specs.declared.request.Phase.{Phase}
use Rattle.lvm_path.specs.declared.request.Phase.TheVariants as phase
use Rattle.lvm_path.specs.declared.request.Request.{Request}
use Rattle.lvm_path.specs.declared.target.Target.{Target}
use Rattle.lvm_path.specs.Asks.{is_write}
use Rattle.lvm_path.specs.Next.{next_chosen, next_in, next_read, next_write, start_or_wait}
use Rattle.lvm_path.specs.Targets.{is_begun, is_failed, states_of, with_state}
use Rattle.lvm_session.specs.State.{Core}
use Rattle.lvm_session.specs.Enabled.{target_next}
use Rattle.lvm_session.specs.Judging.{counts_failed, is_wanted_stale}
use Rattle.lvm_due.proofs.NotNextLemmas.{starts_not}

module _ (k : Facts) (r : Request) (target : ℕ) where
  abbrev goes : Next
  goes = next_write r.policy r.targets.items

  abbrev Waits : Type 0
  Waits = position is_waiting (states_of r.targets.items) ≡ Some target

  none_starts : (n : Next) → target_next n ≡ None → target_next n ≡ Some target → Waits
  none_starts n none some = absurd (let e : ◌≡◌ {A = Option ℕ} None (Some target) = sym none ∙ some in cc e)

  by_write : target_next goes ≡ Some target → Waits
  by_write is = by_policy r.policy (by_target (next_target r.policy (states_of r.targets.items)) is)
    where
      by_target : (o : Option ℕ) → target_next (start_or_wait o) ≡ Some target → o ≡ Some target
      by_target None some = absurd (cc some)
      by_target (Some t) some = some

      by_flying : (b : Bool) → (if b then None else position is_waiting (states_of r.targets.items)) ≡ Some target → Waits
      by_flying true some = absurd (cc some)
      by_flying false some = some

      by_policy : (how : Policy) → next_target how (states_of r.targets.items) ≡ Some target → Waits
      by_policy policy.Sequential some = by_flying (list_any is_flying (states_of r.targets.items)) some
      by_policy policy.Parallel some = some
      by_policy policy.ParallelWrite some = some
      by_policy policy.RoundRobin some = some

  by_chosen : (on : Next) → (target_next on ≡ Some target → Waits) → target_next (next_chosen k on) ≡ Some target → Waits
  by_chosen on goes_on is = by k.pending k.usable k.changed is
    where
      by : (p u c : Bool) → target_next (if p then on else if not u then next.Land outcome.NoFresh else if c then next.Admit else on) ≡ Some target → Waits
      by true u c some = goes_on some
      by false true true some = absurd (cc some)
      by false true false some = goes_on some
      by false false c some = absurd (cc some)

  by_either : (b : Bool) → target_next (if b then goes else next.Wait) ≡ Some target → Waits
  by_either true is = by_write is
  by_either false is = absurd (cc is)

  by_wait : (b : Bool) → target_next (if b then next.Wait else goes) ≡ Some target → Waits
  by_wait true is = absurd (cc is)
  by_wait false is = by_write is

  by_data : (write begun : Bool) → write ≡ true → target_next (if write then (if begun then goes else next_chosen k (if k.pending then next.Wait else goes)) else next_read r.targets.items) ≡ Some target → Waits
  by_data true true writes is = by_write is
  by_data true false writes is = by_chosen (if k.pending then next.Wait else goes) (by_wait k.pending) is
  by_data false begun writes is = absurd (cc writes)

  -- of a write it is the first that waits
  first_waits : (p : Phase) → is_write r.ask ≡ true → target_next (next_in p k r) ≡ Some target → Waits
  first_waits phase.Held writes is = none_starts (next_in phase.Held k r) (starts_not k r phase.Held refl) is
  first_waits phase.WantEntry writes is = none_starts (next_in phase.WantEntry k r) (starts_not k r phase.WantEntry refl) is
  first_waits phase.WantRecord writes is = by_chosen (if k.named && k.dirty && not k.pending then goes else next.Wait) (by_either (k.named && k.dirty && not k.pending)) is
  first_waits phase.Data writes is = by_data (is_write r.ask) (is_begun r.targets.items) writes is
  first_waits phase.WantStatus writes is = none_starts (next_in phase.WantStatus k r) (starts_not k r phase.WantStatus refl) is
  first_waits phase.Landed writes is = absurd (cc is)

  pub start_waits : (aim : Target) → slice_get r.targets.items target ≡ Some aim → is_write r.ask ≡ true → target_next (next_in r.phase k r) ≡ Some target → is_waiting aim.state ≡ true
  start_waits aim aim_is writes is =
      let found = position-Some is_waiting (states_of r.targets.items) target aim.state (first_waits r.phase writes is) in
      let here = get_or_from_slice_get (states_of r.targets.items) target aim.state aim.state (slice_get-map (λ (t : Target). t.state) r.targets.items target ∙ ap (option_map (λ (t : Target). t.state)) aim_is) in
      sym (ap is_waiting here) ∙ found.1

-- ---- whether it counts as failed is as it was

fails_not : (s : TargetState) → is_waiting s ≡ true → is_failed stage.Flying ≡ is_failed s
fails_not stage.Waiting is = refl
fails_not stage.Flying is = absurd (cc is)
fails_not stage.Done is = absurd (cc is)
fails_not stage.Failed is = absurd (cc is)

pub start_fails : (core : Core) (ts : List Target) (place : ℕ) (aim : Target) → slice_get ts place ≡ Some aim → is_waiting aim.state ≡ true
    → list_any (counts_failed core) (with_state ts place stage.Flying) ≡ list_any (counts_failed core) ts
start_fails core [] place aim there waits = absurd (cc there)
start_fails core (t ∷ ts) zero aim there waits =
    let its : t ≡ aim = cc there in
    ap (λ (b : Bool). (b || (t.usable && is_wanted_stale core t.pp)) || list_any (counts_failed core) ts) (fails_not t.state (ap (λ (u : Target). is_waiting u.state) its ∙ waits))
start_fails core (t ∷ ts) (suc place) aim there waits = ap (λ (b : Bool). counts_failed core t || b) (start_fails core ts place aim there waits)
