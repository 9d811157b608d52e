-- Of the destination of a move staleness is wanted where a write has missed it.
use Rattle.std.proofs.Common.{◌&&◌, arith, Bool, false, if◌then◌else◌, inl, inr, nat_le, not, refl, slice_get, Some, sym, true, ◌||◌, ℕ, ◌∙◌, ◌≡◌, ◌⊎◌}
use Rattle.std.specs.List.{AllByRecursion, list_any}
use Rattle.std.specs.Prelude.{count_by}
use Rattle.std.proofs.lemmas.Map.Keys.{any_passes_from_place}
use Rattle.std.proofs.lemmas.Bool.Decides.{nat_tests}
use Rattle.lvm_num.specs.declared.place.Pp.{Pp}
use Rattle.lvm_num.proofs.Booleans.{not_so, first_fails}
use Rattle.lvm_num.proofs.Lists.{all_at}
use Rattle.lvm_path.specs.declared.request.Phase.{Phase}
use Rattle.lvm_path.specs.declared.request.Phase.TheVariants as phase
use Rattle.lvm_path.specs.declared.request.Request.{Request}
use Rattle.lvm_path.specs.declared.target.Target.{Target}
use Rattle.lvm_path.specs.Targets.{are_over, is_done, is_failed, is_over}
use Rattle.lvm_session.specs.declared.open.Open.{Open}
use Rattle.lvm_session.specs.Judging.{group_in, is_caught, is_kept, is_sure, is_sure_at}
use Rattle.lvm_session.specs.State.{Core}
use Rattle.lvm_session.specs.Requests.{IsJudged, IsMarkedDestination, is_failed_and_sure, may_lack, wants_status, will_be_kept}
use Rattle.lvm_keeps.proofs.Small.{both}
use Rattle.lvm_keeps_events.proofs.Lists.{all_and, all_true_at, and_false, any_on, by_places, none_of_zero}

-- ---- tests

pub first_of : (a b : Bool) → a || b ≡ true → b ≡ false → a ≡ true
first_of true b e other = refl
first_of false b e other = not_so (sym other ∙ e)

none_allowed : (n : ℕ) (a b : Bool) → b ≡ true → nat_le n (if a || b then 0 else 1) ≡ true → n ≡ 0
none_allowed n true b is few = grind (arith, nat_tests, few)
none_allowed n false true is few = grind (arith, nat_tests, few)
none_allowed n false false is few = not_so is

pub ends_phase : (p : Phase) → wants_status p ≡ true → p ≡ phase.WantStatus
ends_phase phase.Held e = not_so e
ends_phase phase.WantEntry e = not_so e
ends_phase phase.WantRecord e = not_so e
ends_phase phase.Data e = not_so e
ends_phase phase.WantStatus e = refl
ends_phase phase.Landed e = not_so e

-- no more of it is missed, and where it is sure now it was so, or nothing was missed of it
unmissed : (a f l m s z : Bool) → (m ≡ true → l ≡ true) → (z ≡ true → (s ≡ true) ⊎ ((f ≡ false) × (l ≡ false))) → (a && (f || l)) && s ≡ false → (a && (f || m)) && z ≡ false
unmissed a f l m s false on why e = and_false (a && (f || m))
unmissed false f l m s true on why e = refl
unmissed true f l m s true on why e = of (why refl)
  where
    still : (f m l s : Bool) → s ≡ true → (m ≡ true → l ≡ true) → (f || l) && s ≡ false → (f || m) && true ≡ false
    still f m l false is on e = not_so is
    still true m l true is on e = not_so (sym e)
    still false true true true is on e = not_so (sym e)
    still false true false true is on e = not_so (on refl)
    still false false l true is on e = refl

    none : (f m l : Bool) → f ≡ false → l ≡ false → (m ≡ true → l ≡ true) → (f || m) && true ≡ false
    none true m l i j on = not_so (sym i)
    none false true true i j on = not_so (sym j)
    none false true false i j on = not_so (on refl)
    none false false l i j on = refl

    of : (s ≡ true) ⊎ ((f ≡ false) × (l ≡ false)) → (f || m) && true ≡ false
    of (inl sure) = still f m l s sure on e
    of (inr nothing) = none f m l nothing.0 nothing.1 on

-- ---- what stays

module _ (core after : Core) (r : Request) where
  pub missed_on : (list_any (is_failed_and_sure after) r.targets.items ≡ true → list_any (is_failed_and_sure core) r.targets.items ≡ true)
      → ((k : ℕ) (t : Target) → slice_get r.targets.items k ≡ Some t → is_sure after t.pp ≡ true → (is_sure core t.pp ≡ true) ⊎ ((is_failed t.state ≡ false) × (list_any (is_failed_and_sure core) r.targets.items ≡ false)))
      → AllByRecursion (IsMarkedDestination core r) r.targets.items → AllByRecursion (IsMarkedDestination after r) r.targets.items
  missed_on fewer why all = by_places (IsMarkedDestination after r) r.targets.items (λ k t there. unmissed t.moves (is_failed t.state) (list_any (is_failed_and_sure core) r.targets.items) (list_any (is_failed_and_sure after) r.targets.items)
      (is_sure core t.pp) (is_sure after t.pp) fewer (why k t there) (all_at (IsMarkedDestination core r) r.targets.items k t all there))

  -- nothing is sure that wasn't
  pub missed_less : ((p : Pp) → is_sure after p ≡ true → is_sure core p ≡ true) → AllByRecursion (IsMarkedDestination core r) r.targets.items → AllByRecursion (IsMarkedDestination after r) r.targets.items
  missed_less less = missed_on (any_on (is_failed_and_sure after) (is_failed_and_sure core) failed_less r.targets.items) (λ k t there sure. inl (less t.pp sure))
    where
      failed_less : (t : Target) → is_failed_and_sure after t ≡ true → is_failed_and_sure core t ≡ true
      failed_less t e =
          let parts = both (is_failed t.state) (is_sure_at after t) e in
          let more = both (not t.moves) (is_sure after t.pp) parts.1 in
          all_and (is_failed t.state) (is_sure_at core t) parts.0 (all_and (not t.moves) (is_sure core t.pp) more.0 (less t.pp more.1))

-- ---- a write whose transfers have ended, with a target that was passed

module _ (core : Core) (o : Open) (judged : IsJudged core o) (ended : wants_status o.request.phase ≡ true) (all_over : are_over o.request.targets.items ≡ true) (number : ℕ) (t : Target)
    (there : slice_get o.request.targets.items number ≡ Some t) (caught : is_caught core (group_in core o.request.ask) t.pp ≡ true) where
  abbrev group : ℕ
  group = group_in core o.request.ask

  -- it can't have failed
  sound_target : may_lack o t ≡ false
  sound_target = by (may_lack o t) refl
    where
      by : (b : Bool) → may_lack o t ≡ b → b ≡ false
      by false is = refl
      by true is = not_so (sym (all_at (λ (u : Target). may_lack o u && is_caught core group u.pp ≡ false) o.request.targets.items number t judged.uncaught there) ∙ all_and (may_lack o t) (is_caught core group t.pp) is caught)

  pub not_failed : is_failed t.state ≡ false
  not_failed = first_fails (is_failed t.state) o.older sound_target

  pub well_done : is_done t.state ≡ true
  well_done = first_of (is_done t.state) (is_failed t.state) (all_true_at (λ (x : Target). is_over x.state) o.request.targets.items number t all_over there) not_failed

  -- so none has that is sure
  pub none_failed : list_any (is_failed_and_sure core) o.request.targets.items ≡ false
  none_failed =
      none_of_zero (is_failed_and_sure core) o.request.targets.items
      (none_allowed (count_by (is_failed_and_sure core) o.request.targets.items) (is_kept core o.request) (will_be_kept core o.request)
      (any_passes_from_place (λ (u : Target). is_done u.state && is_caught core group u.pp) o.request.targets.items number t there (all_and (is_done t.state) (is_caught core group t.pp) well_done caught)) (judged.due ended))
