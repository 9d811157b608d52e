-- On which copies writes of the table have failed.
use Rattle.std.proofs.Common.{◌≡◌, ◌++◌, ◌⊎◌, inl, inr, ℕ, Bool, true, false, ◌&&◌, List, [], ◌∷◌, None, Some, if◌then◌else◌, slice_get, slice_set, map, refl, sym, ap, ◌∙◌}
use Rattle.std.specs.List.{list_any}
use Rattle.std.proofs.lemmas.Map.Keys.{any_passes_from_place}
use Rattle.lvm_num.specs.declared.place.Pp.{Pp}
use Rattle.lvm_num.specs.Descriptor.{is_pp}
use Rattle.lvm_num.proofs.Booleans.{not_so}
use Rattle.lvm_vol.specs.declared.entry.Outcome.{Outcome}
use Rattle.lvm_sched.specs.declared.writes.TargetState.{TargetState}
use Rattle.lvm_path.specs.declared.ask.Ask.{Ask}
use Rattle.lvm_path.specs.declared.target.Target.{Target}
use Rattle.lvm_path.specs.Asks.{is_write}
use Rattle.lvm_path.specs.Next.{with_landing}
use Rattle.lvm_path.specs.Targets.{is_failed}
use Rattle.lvm_session.specs.declared.open.Open.{Open}
use Rattle.lvm_session.specs.Judging.{aims, is_waiting, destination_aims}
use Rattle.lvm_session.specs.Causes.{fails_on}
use Rattle.lvm_session.specs.Dark.{ended_as}
use Rattle.lvm_session.specs.Events.{Chooses, ChoosesBy, destination_target, target_at}
use Rattle.lvm_session.specs.State.{State}
use Rattle.lvm_keeps_events.proofs.passed.Keeps.{both}
use Rattle.lvm_keeps_events.proofs.TargetsLemmas.{at_state}
use Rattle.lvm_keeps_events.proofs.Lists.{either, set_either}

-- the transfer to this partition has failed
abbrev pub fails_at : Pp → Target → Bool
fails_at p t = is_failed t.state && is_pp p t.pp

-- ---- the table

-- where a request is changed that had failed where it has now, none has come to fail
pub none_fails : (p : Pp) (os : List Open) (place : ℕ) (o x : Open) → slice_get os place ≡ Some o → (fails_on p x ≡ true → fails_on p o ≡ true) → list_any (fails_on p) (slice_set os place x) ≡ true → list_any (fails_on p) os ≡ true
none_fails p os place o x there on e = by (set_either (fails_on p) os place x e)
  where
    by : (list_any (fails_on p) os ≡ true) ⊎ (fails_on p x ≡ true) → list_any (fails_on p) os ≡ true
    by (inl was) = was
    by (inr is) = any_passes_from_place (fails_on p) os place o there (on is)

-- what has landed has failed on none
pub landed_fails_not : {X : Type 0} (p : Pp) (o : Open) → is_waiting o ≡ false → fails_on p o ≡ true → X
landed_fails_not p o over e = not_so (sym over ∙ (both (is_waiting o) (is_write o.request.ask) (both (is_waiting o && is_write o.request.ask) (list_any (fails_at p) o.request.targets.items) e).0).0)

ended_waits : (how : Outcome) (o : Open) → is_waiting (ended_as how o) ≡ false
ended_waits how o = by (is_waiting o) refl
  where
    by : (b : Bool) → is_waiting o ≡ b → is_waiting (if b then record o { request = with_landing o.request; got = None; landed = Some how } else o) ≡ false
    by true is = refl
    by false is = is

pub ended_fails_not : {X : Type 0} (p : Pp) (how : Outcome) (os : List Open) → list_any (fails_on p) (map (ended_as how) os) ≡ true → X
ended_fails_not p how [] e = not_so e
ended_fails_not {X} p how (o ∷ os) e = by (λ rest. ended_fails_not p how os rest) (either (fails_on p (ended_as how o)) (list_any (fails_on p) (map (ended_as how) os)) e)
  where
    by : (list_any (fails_on p) (map (ended_as how) os) ≡ true → X) → (fails_on p (ended_as how o) ≡ true) ⊎ (list_any (fails_on p) (map (ended_as how) os) ≡ true) → X
    by on (inl is) = landed_fails_not p (ended_as how o) (ended_waits how o) is
    by on (inr rest) = on rest

-- ---- targets

pub chosen_fail_not : (s : State) (ask : Ask) (p : Pp) (ps : List Pp) → list_any (fails_at p) (map (target_at s ask) ps) ≡ false
chosen_fail_not s ask p [] = refl
chosen_fail_not s ask p (q ∷ ps) = chosen_fail_not s ask p ps

pub chooses_none : {X : Type 0} (s : State) (ask : Ask) (p : Pp) (targets : List Target) (order : List ℕ) → Chooses s ask targets order → is_write ask ≡ true → list_any (fails_at p) targets ≡ true → X
chooses_none {X} s ask p targets order chosen write e = by (is_write ask) write chosen
  where
    none_of : (qs : List Pp) → list_any (fails_at p) (map (destination_target s ask) qs) ≡ false
    none_of [] = refl
    none_of (q ∷ qs) = none_of qs

    all_fail_not : (ps : List Pp) → list_any (fails_at p) (map (target_at s ask) ps ++ map (destination_target s ask) (destination_aims s.core ask)) ≡ false
    all_fail_not [] = none_of (destination_aims s.core ask)
    all_fail_not (q ∷ ps) = all_fail_not ps

    by : (b : Bool) → b ≡ true → ChoosesBy b s ask targets order → X
    by true i its = not_so (sym (all_fail_not (aims s.core ask)) ∙ sym (ap (list_any (fails_at p)) its.0) ∙ e)
    by false i its = not_so i

-- a target that comes to be in this state fails where it had, or where it is
pub set_fails : (p : Pp) (ts : List Target) (place : ℕ) (t : Target) (state : TargetState) → list_any (fails_at p) (slice_set ts place (at_state t state)) ≡ true
    → (list_any (fails_at p) ts ≡ true) ⊎ ((is_failed state ≡ true) × (is_pp p t.pp ≡ true))
set_fails p ts place t state e = by (set_either (fails_at p) ts place (at_state t state) e)
  where
    by : (list_any (fails_at p) ts ≡ true) ⊎ (is_failed state && is_pp p t.pp ≡ true) → (list_any (fails_at p) ts ≡ true) ⊎ ((is_failed state ≡ true) × (is_pp p t.pp ≡ true))
    by (inl was) = inl was
    by (inr is) = inr (both (is_failed state) (is_pp p t.pp) is)
