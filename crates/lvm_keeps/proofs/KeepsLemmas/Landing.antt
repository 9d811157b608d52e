-- Why a request lands so.
use Rattle.std.proofs.Common.{◌≡◌, ◌⊎◌, inl, inr, ℕ, Bool, true, false, ◌&&◌, ◌||◌, not, List, [], ◌∷◌, Option, Some, None, refl, sym, ◌∙◌, ap, subst, position, if◌then◌else◌}
use Rattle.std.specs.Prelude.{slice_get, unwrap_or}
use Rattle.std.specs.List.{list_any, AllByRecursion}
use Rattle.std.specs.Option.{option_map_or}
use Rattle.lvm_num.specs.declared.place.Pp.{Pp}
use Rattle.lvm_num.specs.Status.{calls_stale, calls_missing}
use Rattle.lvm_num.proofs.Booleans.{not_so}
use Rattle.lvm_num.proofs.Lists.{all_at}
use Rattle.lvm_vol.specs.declared.entry.Outcome.{Outcome}
use Rattle.lvm_vol.specs.declared.entry.Outcome.TheVariants as outcome
use Rattle.lvm_mwc.proofs.FirstsLemmas.{none_at}
use Rattle.lvm_path.specs.passed.Sched.{is_flying, is_waiting as is_unstarted, next_target, TargetState}
use Rattle.lvm_path.specs.passed.SchedWritesTargetState as stage
use Rattle.lvm_path.specs.declared.facts.Facts.{Facts}
use Rattle.lvm_path.specs.declared.facts.Next.{Next}
use Rattle.lvm_path.specs.declared.facts.Next.TheVariants as next
use Rattle.lvm_path.specs.declared.request.Phase.{Phase}
use Rattle.lvm_path.specs.declared.request.Phase.TheVariants as phase
use Rattle.lvm_path.specs.declared.target.Target.{Target}
use Rattle.lvm_path.specs.Asks.{is_write}
use Rattle.lvm_path.specs.Targets.{are_over, is_begun, is_done, is_failed, is_over as is_ended, states_of}
use Rattle.lvm_path.specs.Next.{next_chosen, next_data, next_in, next_read, next_write, start_or_wait}
use Rattle.lvm_session.specs.declared.open.Open.{Open}
use Rattle.lvm_session.specs.declared.open.Power.TheVariants as power
use Rattle.lvm_session.specs.State.{Core, State}
use Rattle.lvm_session.specs.Judging.{copies_for, facts_of, is_kept, is_missing, is_stale, is_sure, is_sure_at, is_usable, is_waiting, is_wanted_stale, next_for}
use Rattle.lvm_session.specs.Requests.{IsAimed, IsOpenOne, IsPhase, IsTarget, is_past_held}
use Rattle.lvm_session.specs.Causes.{AnyFailedSince, AreCaused, FailedSince, TargetHasFailed, IsCaused, IsLandedFor, fails_on, is_blamed, was_fresh, was_usable}
use Rattle.lvm_session.specs.Sound.{IsSound}
use Rattle.lvm_keeps.specs.Keeps.{LandingIsCaused}
use Rattle.lvm_keeps.proofs.Small.{both, is_false}
pub use Rattle.std.proofs.lemmas.Bool.{or_parts}

-- ---- what holds where a request lands so next

abbrev pub Gives : (Outcome → Type 0) → Next → Type 0
Gives P n = (how : Outcome) → n ≡ next.Land how → P how

module _ (P : Outcome → Type 0) where
  pub by_wait : Gives P next.Wait
  by_wait how e = absurd cc

  pub by_admit : Gives P next.Admit
  by_admit how e = absurd cc

  pub by_pin : Gives P next.Pin
  by_pin how e = absurd cc

  pub by_start : (place : Option ℕ) → Gives P (start_or_wait place)
  by_start None how e = absurd cc
  by_start (Some place) how e = absurd cc

  pub by_landing : (was : Outcome) → P was → Gives P (next.Land was)
  by_landing was its how e = let same : was ≡ how = cc e in subst P same its

  pub by_test : (b : Bool) (x y : Next) → (b ≡ true → Gives P x) → (b ≡ false → Gives P y) → Gives P (if b then x else y)
  by_test true x y left right = left refl
  by_test false x y left right = right refl

  pub by_choice : (k : Facts) (on : Next) → (k.usable ≡ false → P outcome.NoFresh) → Gives P on → Gives P (next_chosen k on)
  by_choice k on fresh goes = by_test k.pending on _ (λ e. goes) (λ e. by_test (not k.usable) (next.Land outcome.NoFresh) (if k.changed then next.Admit else on) (λ n. by_landing outcome.NoFresh (fresh (is_false k.usable n))) (λ n. by_test k.changed next.Admit on (λ c. by_admit) (λ c. goes)))

-- ---- tests of lists

-- one that passes the first test, where none passes the second
pub witness : {A : Type 0} (t u : A → Bool) (xs : List A) → list_any t xs ≡ true → list_any u xs ≡ false → (x : A) × (t x ≡ true) × (u x ≡ false)
witness t u [] some none = absurd cc
witness {A} t u (x ∷ xs) some none = let parts = or_parts (u x) (list_any u xs) none in by (t x) refl parts.0 (λ e. witness t u xs e parts.1)
  where
    by : (b : Bool) → t x ≡ b → u x ≡ false → (list_any t xs ≡ true → (y : A) × (t y ≡ true) × (u y ≡ false)) → (y : A) × (t y ≡ true) × (u y ≡ false)
    by true is not_u rest = (x, is, not_u)
    by false is not_u rest = rest (sym (ap (λ b. b || list_any t xs) is) ∙ some)

module _ (s : State) (sound : IsSound s) (on : s.core.power ≡ power.On) (place : ℕ) (o : Open) (there : slice_get s.core.requests place ≡ Some o) where
  abbrev core : Core
  core = s.core

  abbrev targets : List Target
  targets = o.request.targets.items

  its : IsOpenOne core o
  its = all_at (IsOpenOne core) core.requests place o (sound.on on).going.requests there

  -- ---- no copy can be used

  away : (p : Pp) → calls_missing core.origin.table p.disk ≡ false → is_missing core p.disk ≡ true → AnyFailedSince s
  away p was is = from (sound.origin.missing p.disk is)
    where
      from : (calls_missing core.origin.table p.disk ≡ true) ⊎ FailedSince s p.disk → AnyFailedSince s
      from (inl e) = absurd (not_so (sym was ∙ e))
      from (inr rose) = (p.disk, rose)

  unusable : (p : Pp) → was_usable core p ≡ true → is_usable core p ≡ false → AnyFailedSince s
  unusable p was is = by (is_stale core p) (is_missing core p.disk) refl refl is
    where
      parts : (was_fresh core p ≡ true) × (not (calls_missing core.origin.table p.disk) ≡ true)
      parts = both (was_fresh core p) (not (calls_missing core.origin.table p.disk)) was

      by : (a b : Bool) → is_stale core p ≡ a → is_missing core p.disk ≡ b → not a && not b ≡ false → AnyFailedSince s
      by a true p1 p2 e = away p (is_false (calls_missing core.origin.table p.disk) parts.1) p2
      by true false p1 p2 e = stale (sound.origin.stale p (ap (λ t. t || calls_stale (unwrap_or core.status.in_flight core.status.committed) p || is_wanted_stale core p) p1))
        where
          stale : (calls_stale core.origin.table p ≡ true) ⊎ (is_missing core p.disk ≡ true) ⊎ FailedSince s p.disk → AnyFailedSince s
          stale (inl t) = absurd (not_so (sym (is_false (calls_stale core.origin.table p) parts.0) ∙ t))
          stale (inr (inl t)) = absurd (not_so (sym p2 ∙ t))
          stale (inr (inr rose)) = (p.disk, rose)
      by false false p1 p2 e = absurd (not_so (sym e))

  no_fresh : list_any (is_usable core) (copies_for core o.request.ask) ≡ false → IsLandedFor s o outcome.NoFresh
  no_fresh none = by (list_any (was_usable core) (copies_for core o.request.ask)) refl
    where
      by : (b : Bool) → list_any (was_usable core) (copies_for core o.request.ask) ≡ b → IsLandedFor s o outcome.NoFresh
      by false is = inr is
      by true is = let one = witness (was_usable core) (is_usable core) (copies_for core o.request.ask) is none in inl (unusable one.0 one.1 one.2)

  -- ---- each copy failed

  module _ (waits : is_waiting o ≡ true) where
    caused : AllByRecursion (IsCaused s.device core) targets
    caused = all_at (λ (x : Open). AreCaused s.device core x) core.requests place o (sound.on on).caused there waits

    usable : is_past_held o.request.phase ≡ true → list_any (λ (t : Target). t.usable) targets ≡ true
    usable past = (its.waits waits).shape.usable past

    is_failed_one : (state : TargetState) → is_done state ≡ false → is_flying state ≡ false → is_unstarted state ≡ false → is_failed state ≡ true
    is_failed_one stage.Waiting a b c = absurd (not_so (sym c))
    is_failed_one stage.Flying a b c = absurd (not_so (sym b))
    is_failed_one stage.Done a b c = absurd (not_so (sym a))
    is_failed_one stage.Failed a b c = refl

    each_failed : (ts : List Target) → list_any (λ (t : Target). is_done t.state) ts ≡ false → list_any (λ (t : Target). is_flying t.state) ts ≡ false → list_any (λ (t : Target). is_unstarted t.state) ts ≡ false
        → AllByRecursion (IsCaused s.device core) ts → AllByRecursion (λ (t : Target). (is_failed t.state ≡ true) × TargetHasFailed s.device t) ts
    each_failed [] a b c all = tt
    each_failed (t ∷ ts) a b c all =
        let pa = or_parts (is_done t.state) (list_any (λ (u : Target). is_done u.state) ts) a in
        let pb = or_parts (is_flying t.state) (list_any (λ (u : Target). is_flying u.state) ts) b in
        let pc = or_parts (is_unstarted t.state) (list_any (λ (u : Target). is_unstarted u.state) ts) c in
        let fails = is_failed_one t.state pa.0 pb.0 pc.0 in
        ((fails, all.0 (ap (λ f. f || (t.usable && is_blamed core t.pp)) fails)), each_failed ts pa.1 pb.1 pc.1 all.1)

    held_against : (d f u st w m fl x : Bool) → d || f ≡ true → d && (not st && not w) ≡ false → u ≡ true → f || (u && (m || w || (st || fl) || x)) ≡ true
    held_against d true u st w m fl x over kept is = refl
    held_against true false true st true true fl x over kept is = refl
    held_against true false true st true false fl x over kept is = refl
    held_against true false true true false true fl x over kept is = refl
    held_against true false true true false false fl x over kept is = refl
    held_against true false true false false m fl x over kept is = absurd (not_so (sym kept))
    held_against true false false st w m fl x over kept is = absurd (not_so is)
    held_against false false u st w m fl x over kept is = absurd (not_so over)

    -- a place to which a copy moves isn't usable
    no_place : (t : Target) → IsTarget core o.request.ask t → t.usable ≡ true → t.moves ≡ false
    no_place t aims is = by t.moves refl aims.copy
      where
        by : (b : Bool) → t.moves ≡ b → IsAimed b core o.request.ask t → t.moves ≡ false
        by false stays aimed = stays
        by true yes_so place = absurd (not_so (sym place.2 ∙ is))

    each_lost : (ts : List Target) → are_over ts ≡ true → list_any (λ (t : Target). is_done t.state && is_sure_at core t) ts ≡ false → AllByRecursion (IsTarget core o.request.ask) ts
        → AllByRecursion (IsCaused s.device core) ts → AllByRecursion (λ (t : Target). t.usable ≡ true → TargetHasFailed s.device t) ts
    each_lost [] over kept aims all = tt
    each_lost (t ∷ ts) over kept aims all =
        let a = both (is_ended t.state) (are_over ts) over in
        let b = or_parts (is_done t.state && is_sure_at core t) (list_any (λ (u : Target). is_done u.state && is_sure_at core u) ts) kept in
        (λ is. all.0 (held_against (is_done t.state) (is_failed t.state) t.usable (is_stale core t.pp) (is_wanted_stale core t.pp) (is_missing core t.pp.disk) (calls_stale (unwrap_or core.status.in_flight core.status.committed) t.pp) (list_any (fails_on t.pp) core.requests) a.0 (sym (ap (λ (m : Bool). is_done t.state && (not m && is_sure core t.pp)) (no_place t aims.0 is)) ∙ b.0) is), each_lost ts a.1 b.1 aims.1 all.1)

    -- ---- by its phase

    abbrev For : Outcome → Type 0
    For = IsLandedFor s o

    abbrev k : Facts
    k = facts_of core o.request

    read_gives : o.request.phase ≡ phase.Data → Gives For (next_read targets)
    read_gives is = by_test For (list_any (λ (t : Target). is_done t.state) targets) (next.Land outcome.Got) _ (λ e. by_landing For outcome.Got tt)
        (λ done. by_test For (list_any (λ (t : Target). is_flying t.state) targets) next.Wait _ (λ e. by_wait For) (λ flying. by_place done flying (position (λ (t : Target). is_unstarted t.state) targets) refl))
      where
        by_place : list_any (λ (t : Target). is_done t.state) targets ≡ false → list_any (λ (t : Target). is_flying t.state) targets ≡ false → (m : Option ℕ) → position (λ (t : Target). is_unstarted t.state) targets ≡ m
            → Gives For (option_map_or next.Start m (next.Land outcome.ReadFailed))
        by_place done flying None none = by_landing For outcome.ReadFailed (usable (ap is_past_held is), each_failed targets done flying ((none_at (λ (t : Target). is_unstarted t.state) targets none).any) caused)
        by_place done flying (Some at) some = by_start For (Some at)

    gives : (p : Phase) → o.request.phase ≡ p → Gives For (next_in p k o.request)
    gives phase.Held is = by_test For (k.blocked || k.pending) next.Wait _ (λ e. by_wait For) (λ e. by_test For k.usable next.Admit (next.Land outcome.NoFresh) (λ u. by_admit For) (λ u. by_landing For outcome.NoFresh (no_fresh u)))
    gives phase.WantEntry is = by_choice For k (if k.pinned then next.Wait else next.Pin) no_fresh (by_test For k.pinned next.Wait next.Pin (λ e. by_wait For) (λ e. by_pin For))
    gives phase.WantRecord is = by_choice For k (if k.named && k.dirty && not k.pending then next_write o.request.policy targets else next.Wait) no_fresh
        (by_test For (k.named && k.dirty && not k.pending) (next_write o.request.policy targets) next.Wait (λ e. by_start For (next_target o.request.policy (states_of targets))) (λ e. by_wait For))
    gives phase.Data is = by_test For (is_write o.request.ask) (next_data k o.request) (next_read targets)
        (λ w. by_test For (is_begun targets) (next_write o.request.policy targets) _ (λ e. by_start For (next_target o.request.policy (states_of targets)))
        (λ e. by_choice For k (if k.pending then next.Wait else next_write o.request.policy targets) no_fresh (by_test For k.pending next.Wait (next_write o.request.policy targets) (λ p. by_wait For) (λ p. by_start For (next_target o.request.policy (states_of targets))))))
        (λ r. read_gives is)
    gives phase.WantStatus is = by_test For k.marked (next.Land (if k.kept then outcome.Done else outcome.Lost)) next.Wait (λ e. landed (is_kept core o.request) refl) (λ e. by_wait For)
      where
        over : are_over targets ≡ true
        over = (subst (λ p. IsPhase p o) is (its.waits waits).shape.phase_is).1

        landed : (b : Bool) → is_kept core o.request ≡ b → Gives For (next.Land (if b then outcome.Done else outcome.Lost))
        landed true e = by_landing For outcome.Done tt
        landed false e = by_landing For outcome.Lost (usable (ap is_past_held is), each_lost targets over e (its.waits waits).shape.targets caused)
    gives phase.Landed is = by_wait For

  -- one that has landed does nothing
  pub cause : (how : Outcome) → next_for core o ≡ next.Land how → IsLandedFor s o how
  cause how lands = by (is_waiting o) refl
    where
      by : (b : Bool) → is_waiting o ≡ b → IsLandedFor s o how
      by true waits = gives waits o.request.phase refl how lands
      by false none = by_wait (IsLandedFor s o) how (sym (ap (λ (p : Phase). next_in p (facts_of core o.request) o.request) (its.over none).phase_is) ∙ lands)

pub landing_is_caused : LandingIsCaused
landing_is_caused place how old new sound on event = cause old sound on place event.request event.there how event.lands
