-- How a request lands, by its transfers.
use Rattle.std.proofs.Common.{◌≡◌, ◌≤◌, ◌+◌, ℕ, Bool, true, false, ◌&&◌, ◌||◌, not, List, [], ◌∷◌, Option, Some, None, refl, sym, ◌∙◌, ap, arith, position, if◌then◌else◌}
use Rattle.std.specs.Prelude.{count_by}
use Rattle.std.specs.List.{list_any}
use Rattle.std.specs.Option.{option_map_or}
use Rattle.lvm_num.proofs.Booleans.{not_so}
use Rattle.lvm_vol.specs.declared.entry.Outcome.{Outcome}
use Rattle.lvm_vol.specs.declared.entry.Outcome.TheVariants as outcome
use Rattle.lvm_vol.specs.Log.{is_got}
use Rattle.lvm_sched.specs.declared.writes.TargetState.{TargetState}
use Rattle.lvm_sched.specs.declared.writes.TargetState.TheVariants as stage
use Rattle.lvm_sched.specs.Writes.{is_flying, is_waiting as is_unstarted, next_target}
use Rattle.lvm_path.specs.declared.facts.Facts.{Facts}
use Rattle.lvm_path.specs.declared.facts.Next.TheVariants as next
use Rattle.lvm_path.specs.declared.request.Phase.{Phase}
use Rattle.lvm_path.specs.declared.request.Phase.TheVariants as phase
use Rattle.lvm_path.specs.declared.target.Target.{Target}
use Rattle.lvm_path.specs.Asks.{is_write}
use Rattle.lvm_path.specs.Targets.{are_over, is_begun, is_done, is_over as is_ended, states_of}
use Rattle.lvm_path.specs.Next.{next_data, next_in, next_read, next_write}
use Rattle.lvm_session.specs.declared.open.Open.{Open}
use Rattle.lvm_session.specs.Requests.{IsPhase}
use Rattle.lvm_session.specs.Sound.{count_if}
use Rattle.lvm_keeps.proofs.KeepsLemmas.Landing.{Gives, by_admit, by_choice, by_landing, by_pin, by_start, by_test, by_wait}
use Rattle.lvm_keeps.proofs.Lists.{count_cons}

-- A read has got its blocks exactly where a transfer of it has succeeded; a write lands in another way. None is out any more.
pub record IsEnded (o : Open) (how : Outcome) : Type 0 where
  pub got : is_got how ≡ (not (is_write o.request.ask) && list_any (λ (t : Target). is_done t.state) o.request.targets.items)
  pub out : list_any (λ (t : Target). is_flying t.state) o.request.targets.items ≡ false

unbegun_out : (ts : List Target) → is_begun ts ≡ false → list_any (λ (t : Target). is_flying t.state) ts ≡ false
unbegun_out [] e = refl
unbegun_out (t ∷ ts) e = by t.state (λ f. unbegun_out ts f) e
  where
    by : (s : TargetState) → (is_begun ts ≡ false → list_any (λ (u : Target). is_flying u.state) ts ≡ false) → not (is_unstarted s) || is_begun ts ≡ false → is_flying s || list_any (λ (u : Target). is_flying u.state) ts ≡ false
    by stage.Waiting rest f = rest f
    by stage.Flying rest f = not_so (sym f)
    by stage.Done rest f = not_so (sym f)
    by stage.Failed rest f = not_so (sym f)

over_out : (ts : List Target) → are_over ts ≡ true → list_any (λ (t : Target). is_flying t.state) ts ≡ false
over_out [] e = refl
over_out (t ∷ ts) e = by t.state (λ f. over_out ts f) e
  where
    by : (s : TargetState) → (are_over ts ≡ true → list_any (λ (u : Target). is_flying u.state) ts ≡ false) → is_ended s && are_over ts ≡ true → is_flying s || list_any (λ (u : Target). is_flying u.state) ts ≡ false
    by stage.Waiting rest f = not_so f
    by stage.Flying rest f = not_so f
    by stage.Done rest f = rest f
    by stage.Failed rest f = rest f

-- where one has succeeded, and at most one is out or has
alone_out : (ts : List Target) → count_by (λ (t : Target). is_flying t.state || is_done t.state) ts ≤ 1 → list_any (λ (t : Target). is_done t.state) ts ≡ true → list_any (λ (t : Target). is_flying t.state) ts ≡ false
alone_out [] most done = refl
alone_out (t ∷ ts) most done = by t.state (count_cons (λ (u : Target). is_flying u.state || is_done u.state) t ts) (λ m d. alone_out ts m d) done
  where
    busy : ℕ
    busy = count_by (λ (u : Target). is_flying u.state || is_done u.state) ts

    none_busy : (us : List Target) → count_by (λ (u : Target). is_flying u.state || is_done u.state) us ≡ 0 → list_any (λ (u : Target). is_flying u.state) us ≡ false
    none_busy [] e = refl
    none_busy (u ∷ us) e = at u.state (count_cons (λ (v : Target). is_flying v.state || is_done v.state) u us) (λ f. none_busy us f)
      where
        at : (s : TargetState) → count_by (λ (v : Target). is_flying v.state || is_done v.state) (u ∷ us) ≡ count_if (is_flying s || is_done s) + count_by (λ (v : Target). is_flying v.state || is_done v.state) us
            → (count_by (λ (v : Target). is_flying v.state || is_done v.state) us ≡ 0 → list_any (λ (v : Target). is_flying v.state) us ≡ false) → is_flying s || list_any (λ (v : Target). is_flying v.state) us ≡ false
        at stage.Waiting all rest = rest (omega (arith, all, e))
        at stage.Flying all rest = absurd (omega (arith, all, e))
        at stage.Done all rest = absurd (omega (arith, all, e))
        at stage.Failed all rest = rest (omega (arith, all, e))

    some_busy : (us : List Target) → list_any (λ (u : Target). is_done u.state) us ≡ true → 1 ≤ count_by (λ (u : Target). is_flying u.state || is_done u.state) us
    some_busy [] d = not_so d
    some_busy (u ∷ us) d = at u.state (count_cons (λ (v : Target). is_flying v.state || is_done v.state) u us) (λ f. some_busy us f) d
      where
        at : (s : TargetState) → count_by (λ (v : Target). is_flying v.state || is_done v.state) (u ∷ us) ≡ count_if (is_flying s || is_done s) + count_by (λ (v : Target). is_flying v.state || is_done v.state) us
            → (list_any (λ (v : Target). is_done v.state) us ≡ true → 1 ≤ count_by (λ (v : Target). is_flying v.state || is_done v.state) us) → is_done s || list_any (λ (v : Target). is_done v.state) us ≡ true
            → 1 ≤ count_by (λ (v : Target). is_flying v.state || is_done v.state) (u ∷ us)
        at stage.Waiting all rest f = let more = rest f in omega (arith, all, more)
        at stage.Flying all rest f = omega (arith, all)
        at stage.Done all rest f = omega (arith, all)
        at stage.Failed all rest f = let more = rest f in omega (arith, all, more)

    by : (s : TargetState) → count_by (λ (u : Target). is_flying u.state || is_done u.state) (t ∷ ts) ≡ count_if (is_flying s || is_done s) + busy
        → (busy ≤ 1 → list_any (λ (u : Target). is_done u.state) ts ≡ true → list_any (λ (u : Target). is_flying u.state) ts ≡ false)
        → is_done s || list_any (λ (u : Target). is_done u.state) ts ≡ true → is_flying s || list_any (λ (u : Target). is_flying u.state) ts ≡ false
    by stage.Waiting all rest d = rest (omega (arith, all, most)) d
    by stage.Flying all rest d = let some = some_busy ts d in absurd (omega (arith, all, most, some))
    by stage.Done all rest d = none_busy ts (omega (arith, all, most))
    by stage.Failed all rest d = rest (omega (arith, all, most)) d

module _ (o : Open) (k : Facts) (one : is_write o.request.ask ≡ false → count_by (λ (t : Target). is_flying t.state || is_done t.state) o.request.targets.items ≤ 1) where
  abbrev targets : List Target
  targets = o.request.targets.items

  abbrev Ended : Outcome → Type 0
  Ended = IsEnded o

  of_write : (how : Outcome) → is_write o.request.ask ≡ true → is_got how ≡ false → list_any (λ (t : Target). is_flying t.state) targets ≡ false → IsEnded o how
  of_write how write other out = record { got = other ∙ sym (ap (λ b. not b && list_any (λ (t : Target). is_done t.state) targets) write); out = out }

  read_gives : is_write o.request.ask ≡ false → Gives Ended (next_read targets)
  read_gives read = by_test Ended (list_any (λ (t : Target). is_done t.state) targets) (next.Land outcome.Got) _
      (λ done. by_landing Ended outcome.Got (record { got = sym (ap (λ b. not b && list_any (λ (t : Target). is_done t.state) targets) read ∙ done); out = alone_out targets (one read) done }))
      (λ none. by_test Ended (list_any (λ (t : Target). is_flying t.state) targets) next.Wait _ (λ e. by_wait Ended) (λ out. by_place none out (position (λ (t : Target). is_unstarted t.state) targets)))
    where
      by_place : list_any (λ (t : Target). is_done t.state) targets ≡ false → list_any (λ (t : Target). is_flying t.state) targets ≡ false → (m : Option ℕ) → Gives Ended (option_map_or next.Start m (next.Land outcome.ReadFailed))
      by_place none out None = by_landing Ended outcome.ReadFailed (record { got = sym (ap (λ b. not b && list_any (λ (t : Target). is_done t.state) targets) read ∙ none); out = out })
      by_place none out (Some at) = by_start Ended (Some at)

  pub gives : (p : Phase) → IsPhase p o → Gives Ended (next_in p k o.request)
  gives phase.Held is = by_test Ended (k.blocked || k.pending) next.Wait _ (λ e. by_wait Ended) (λ e. by_test Ended k.usable next.Admit (next.Land outcome.NoFresh) (λ u. by_admit Ended) (λ u. by_landing Ended outcome.NoFresh (record {
    got = sym (ap (λ (ts : List Target). not (is_write o.request.ask) && list_any (λ (t : Target). is_done t.state) ts) is.0 ∙ and_false (not (is_write o.request.ask)));
    out = ap (λ (ts : List Target). list_any (λ (t : Target). is_flying t.state) ts) is.0;
  })))
    where
      and_false : (a : Bool) → a && false ≡ false
      and_false true = refl
      and_false false = refl
  gives phase.WantEntry is = by_choice Ended k (if k.pinned then next.Wait else next.Pin) (λ u. of_write outcome.NoFresh is.2 refl (unbegun_out targets is.0)) (by_test Ended k.pinned next.Wait next.Pin (λ e. by_wait Ended) (λ e. by_pin Ended))
  gives phase.WantRecord is = by_choice Ended k (if k.named && k.dirty && not k.pending then next_write o.request.policy targets else next.Wait) (λ u. of_write outcome.NoFresh is.1 refl (unbegun_out targets is.0))
      (by_test Ended (k.named && k.dirty && not k.pending) (next_write o.request.policy targets) next.Wait (λ e. by_start Ended (next_target o.request.policy (states_of targets))) (λ e. by_wait Ended))
  gives phase.Data is = by_test Ended (is_write o.request.ask) (next_data k o.request) (next_read targets)
      (λ w. by_test Ended (is_begun targets) (next_write o.request.policy targets) _ (λ e. by_start Ended (next_target o.request.policy (states_of targets)))
      (λ e. by_choice Ended k (if k.pending then next.Wait else next_write o.request.policy targets) (λ u. of_write outcome.NoFresh w refl (unbegun_out targets e)) (by_test Ended k.pending next.Wait (next_write o.request.policy targets) (λ p. by_wait Ended) (λ p. by_start Ended (next_target o.request.policy (states_of targets))))))
      read_gives
  gives phase.WantStatus is = by_test Ended k.marked (next.Land (if k.kept then outcome.Done else outcome.Lost)) next.Wait (λ e. landed k.kept) (λ e. by_wait Ended)
    where
      landed : (b : Bool) → Gives Ended (next.Land (if b then outcome.Done else outcome.Lost))
      landed true = by_landing Ended outcome.Done (of_write outcome.Done is.0 refl (over_out targets is.1))
      landed false = by_landing Ended outcome.Lost (of_write outcome.Lost is.0 refl (over_out targets is.1))
  gives phase.Landed is = absurd is
