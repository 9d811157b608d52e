-- Only a write lands as Done.
use Rattle.std.proofs.Common.{◌≡◌, ℕ, Bool, true, false, ◌&&◌, ◌||◌, not, List, Option, Some, None, refl, sym, ◌∙◌, ap, position, if◌then◌else◌}
use Rattle.std.specs.List.{list_any}
use Rattle.std.specs.Option.{option_map_or}
use Rattle.lvm_vol.specs.declared.entry.Outcome.{Outcome}
use Rattle.lvm_vol.specs.declared.entry.Outcome.TheVariants as outcome
use Rattle.lvm_sched.specs.Writes.{is_flying, is_waiting as is_unstarted, next_target}
use Rattle.lvm_path.specs.declared.facts.Facts.{Facts}
use Rattle.lvm_path.specs.declared.facts.Next.TheVariants as next
use Rattle.lvm_path.specs.declared.request.Phase.{Phase}
use Rattle.lvm_path.specs.declared.request.Phase.TheVariants as phase
use Rattle.lvm_path.specs.declared.target.Target.{Target}
use Rattle.lvm_path.specs.Asks.{is_write}
use Rattle.lvm_path.specs.Targets.{is_begun, is_done, states_of}
use Rattle.lvm_path.specs.Next.{next_data, next_in, next_read, next_write}
use Rattle.lvm_session.specs.declared.open.Open.{Open}
use Rattle.lvm_session.specs.Judging.{facts_of, is_waiting, next_for}
use Rattle.lvm_session.specs.Requests.{IsOpenOne, IsPhase}
use Rattle.lvm_session.specs.State.{Core}
use Rattle.lvm_keeps.proofs.KeepsLemmas.Landing.{Gives, by_admit, by_choice, by_landing, by_pin, by_start, by_test, by_wait}

module _ (o : Open) (k : Facts) where
  abbrev targets : List Target
  targets = o.request.targets.items

  abbrev Writes : Outcome → Type 0
  Writes how = how ≡ outcome.Done → is_write o.request.ask ≡ true

  no_fresh : Writes outcome.NoFresh
  no_fresh e = absurd (cc e)

  read_gives : Gives Writes (next_read targets)
  read_gives = by_test Writes (list_any (λ (t : Target). is_done t.state) targets) (next.Land outcome.Got) _ (λ done. by_landing Writes outcome.Got (λ e. absurd (cc e)))
      (λ none. by_test Writes (list_any (λ (t : Target). is_flying t.state) targets) next.Wait _ (λ e. by_wait Writes) (λ out. by_place (position (λ (t : Target). is_unstarted t.state) targets)))
    where
      by_place : (m : Option ℕ) → Gives Writes (option_map_or next.Start m (next.Land outcome.ReadFailed))
      by_place None = by_landing Writes outcome.ReadFailed (λ e. absurd (cc e))
      by_place (Some at) = by_start Writes (Some at)

  gives : (p : Phase) → IsPhase p o → Gives Writes (next_in p k o.request)
  gives phase.Held is = by_test Writes (k.blocked || k.pending) next.Wait _ (λ e. by_wait Writes) (λ e. by_test Writes k.usable next.Admit (next.Land outcome.NoFresh) (λ u. by_admit Writes) (λ u. by_landing Writes outcome.NoFresh no_fresh))
  gives phase.WantEntry is = by_choice Writes k (if k.pinned then next.Wait else next.Pin) (λ u. no_fresh) (by_test Writes k.pinned next.Wait next.Pin (λ e. by_wait Writes) (λ e. by_pin Writes))
  gives phase.WantRecord is = by_choice Writes k (if k.named && k.dirty && not k.pending then next_write o.request.policy targets else next.Wait) (λ u. no_fresh)
      (by_test Writes (k.named && k.dirty && not k.pending) (next_write o.request.policy targets) next.Wait (λ e. by_start Writes (next_target o.request.policy (states_of targets))) (λ e. by_wait Writes))
  gives phase.Data is = by_test Writes (is_write o.request.ask) (next_data k o.request) (next_read targets)
      (λ w. by_test Writes (is_begun targets) (next_write o.request.policy targets) _ (λ e. by_start Writes (next_target o.request.policy (states_of targets)))
      (λ e. by_choice Writes k (if k.pending then next.Wait else next_write o.request.policy targets) (λ u. no_fresh) (by_test Writes k.pending next.Wait (next_write o.request.policy targets) (λ p. by_wait Writes) (λ p. by_start Writes (next_target o.request.policy (states_of targets))))))
      (λ r. read_gives)
  gives phase.WantStatus is = by_test Writes k.marked (next.Land (if k.kept then outcome.Done else outcome.Lost)) next.Wait (λ e. by_landing Writes (if k.kept then outcome.Done else outcome.Lost) (λ d. is.0)) (λ e. by_wait Writes)
  gives phase.Landed is = absurd is

pub done_writes : (core : Core) (o : Open) → IsOpenOne core o → next_for core o ≡ next.Land outcome.Done → is_write o.request.ask ≡ true
done_writes core o one lands = by (is_waiting o) refl
  where
    by : (b : Bool) → is_waiting o ≡ b → is_write o.request.ask ≡ true
    by true waits = gives o (facts_of core o.request) o.request.phase (one.waits waits).shape.phase_is outcome.Done lands refl
    by false over =
        let ended : next_in phase.Landed (facts_of core o.request) o.request ≡ next.Land outcome.Done = ap (λ (p : Phase). next_in p (facts_of core o.request) o.request) (sym (one.over over).phase_is) ∙ lands in
        absurd (cc ended)
