-- Why the pieces of a session's posts have landed, by the session and its shelf.
use Rattle.std.proofs.Common.{◌≡◌, ◌≤◌, ◌||◌, ◌==◌, ℕ, Bool, true, false, List, [], ◌∷◌, Option, Some, refl, ◌∙◌, ap, subst}
use Rattle.std.specs.Prelude.{IfSome, slice_index_or}
use Rattle.std.specs.List.{list_any, AllByRecursion}
use Rattle.std.proofs.lemmas.Bool.{eqb-true}
use Rattle.lvm_num.proofs.Booleans.{not_so}
use Rattle.lvm_disk.specs.Counts.{Rose}
use Rattle.lvm_disk.proofs.CountingLemmas.{rose_after, rose_before}
use Rattle.lvm_vol.specs.declared.entry.Outcome.{Outcome}
use Rattle.lvm_vol.specs.declared.entry.Outcome.TheVariants as outcome
use Rattle.lvm_vol.proofs.LogLemmas.{and_right}
use Rattle.lvm_session.specs.declared.open.Open.{Open}
use Rattle.lvm_session.specs.declared.open.Power.TheVariants as power
use Rattle.lvm_session.specs.Calls.{is_asked}
use Rattle.lvm_session.specs.Causes.{AnyFailedSince, AreCounted, TargetHasFailed, IsAnswered, IsCounted, IsLandedFor}
use Rattle.lvm_session.specs.Sound.{IsAsked, IsSound, outcome_in}
use Rattle.lvm_session.specs.State.{Core, State}
use Rattle.lvm_volume_lines.specs.passed.GroupLines.{ScriptState}
use Rattle.lvm_volume_lines.proofs.passed.Keeps.{loss_is_caused}
use Rattle.lvm_line.specs.Told.{HasFailedSince, OutcomeCause}

-- ---- a request of the table that has landed

record HasLandedOne (s : State) (id : ℕ) (how : Outcome) : Type 0 where
  request : Open
  counted : AreCounted s request
  cause : IsLandedFor s request how

landed_one : (s : State) (id : ℕ) (how : Outcome) → outcome_in s.core.history.facts id ≡ Some how → (os : List Open) → AllByRecursion (AreCounted s) os → AllByRecursion (IsAnswered s) os → AllByRecursion (IsAsked s.core.history.facts) os
    → list_any (is_asked 1 id) os ≡ true → HasLandedOne s id how
landed_one s id how told [] counted answered asked some = not_so some
landed_one s id how told (o ∷ os) counted answered asked some = by (is_asked 1 id o) refl (landed_one s id how told os counted.1 answered.1 asked.1) some
  where
    by : (b : Bool) → is_asked 1 id o ≡ b → (list_any (is_asked 1 id) os ≡ true → HasLandedOne s id how) → b || list_any (is_asked 1 id) os ≡ true → HasLandedOne s id how
    by true is rest e =
        let own : o.request.id ≡ id = eqb-true o.request.id id (and_right (o.request.client == 1) (o.request.id == id) is) in
        let landed : o.landed ≡ Some how = asked.0.outcome ∙ ap (outcome_in s.core.history.facts) own ∙ told in
        record { request = o; counted = counted.0; cause = subst (λ (m : Option Outcome). IfSome m (IsLandedFor s o)) landed answered.0 }
    by false is rest e = rest e

-- one of a list of which some element passes a test
some_of : {X : Type 0} (xs : List X) (test : X → Bool) (P Q : X → Type 0) → list_any test xs ≡ true → AllByRecursion (λ (x : X). test x ≡ true → P x) xs → AllByRecursion Q xs → (x : X) × P x × Q x
some_of [] test P Q some all counted = not_so some
some_of {X} (x ∷ xs) test P Q some all counted = by (test x) refl (λ rest. some_of xs test P Q rest all.1 counted.1) some
  where
    by : (b : Bool) → test x ≡ b → (list_any test xs ≡ true → (y : X) × P y × Q y) → b || list_any test xs ≡ true → (y : X) × P y × Q y
    by true is rest e = (x, all.0 is, counted.0)
    by false is rest e = rest e

-- what holds of each beside another thing
all_second : {X : Type 0} (A P : X → Type 0) (test : X → Bool) (xs : List X) → AllByRecursion (λ (x : X). A x × P x) xs → AllByRecursion (λ (x : X). test x ≡ true → P x) xs
all_second A P test [] all = tt
all_second A P test (x ∷ xs) all = (λ passes. all.0.1, all_second A P test xs all.1)

-- ---- what has happened

-- the session of a line at some moment, from which its shelf's counts go on to the line's end
module _ (old new : ScriptState) (core : Core) (on : old.session ≡ Some core) (s : State) (sound : IsSound s) (origin : s.core.origin.faults ≡ core.origin.faults) (later : (disk : ℕ) → s.device.counts.faults disk ≤ new.moment.device.counts.faults disk)
    (dark : s.core.power ≡ power.Dark → Rose old.moment.device.counts.cuts new.moment.device.counts.cuts) where
  pub since : AnyFailedSince s → HasFailedSince old new
  since failed = record {
    core = core;
    on = on;
    failed = (failed.0, rose_after (subst (λ (faults : List ℕ). Rose (slice_index_or faults failed.0 0) (s.device.counts.faults failed.0)) origin failed.1) (later failed.0));
  }

  landed_for : (o : Open) → AreCounted s o → (how : Outcome) → IsLandedFor s o how → OutcomeCause old new how
  landed_for o counted outcome.Lost cause =
      let one = some_of o.request.targets.items (λ t. t.usable) (λ t. TargetHasFailed s.device t) (IsCounted s) cause.0 cause.1 counted in
      since (one.0.pp.disk, rose_before one.2.began one.1)
  landed_for o counted outcome.ReadFailed cause =
      let one = some_of o.request.targets.items (λ t. t.usable) (λ t. TargetHasFailed s.device t) (IsCounted s) cause.0 (all_second _ (λ t. TargetHasFailed s.device t) (λ t. t.usable) o.request.targets.items cause.1) counted in
      since (one.0.pp.disk, rose_before one.2.began one.1)
  landed_for o counted outcome.Off cause = since (loss_is_caused s sound cause.1)
  landed_for o counted outcome.Dark cause = dark cause
  landed_for o counted outcome.Done cause = tt
  landed_for o counted outcome.Got cause = tt
  landed_for o counted outcome.NoFresh cause = tt

  -- of a request that is in its table
  pub landing_cause : (id : ℕ) (how : Outcome) → list_any (is_asked 1 id) s.core.requests ≡ true → outcome_in s.core.history.facts id ≡ Some how → OutcomeCause old new how
  landing_cause id how held told =
      let one = landed_one s id how told s.core.requests sound.counted sound.answered sound.told.requests held in
      landed_for one.request one.counted how one.cause
