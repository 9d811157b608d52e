-- What records a write has that starts its data.
use Rattle.std.proofs.Common.{◌≡◌, ◌≤◌, ℕ, Bool, true, false, ◌&&◌, ◌||◌, not, Some, None, length, slice_get, refl, sym, ◌∙◌, ap, if◌then◌else◌}
use Rattle.lvm_num.specs.declared.descriptor.Mode.{Mode}
use Rattle.lvm_num.specs.declared.descriptor.Mode.TheVariants as mode
use Rattle.lvm_num.proofs.Booleans.{not_so}
use Rattle.lvm_num.proofs.Lists.{all_at}
use Rattle.lvm_vol.specs.declared.entry.Outcome.TheVariants as outcome
use Rattle.lvm_path.specs.declared.facts.Facts.{Facts}
use Rattle.lvm_path.specs.declared.facts.Next.{Next}
use Rattle.lvm_path.specs.declared.facts.Next.TheVariants as next
use Rattle.lvm_path.specs.declared.request.Phase.{Phase}
use Rattle.lvm_path.specs.declared.request.Phase.TheVariants as phase
use Rattle.lvm_path.specs.Asks.{is_write}
use Rattle.lvm_path.specs.Targets.{is_begun}
use Rattle.lvm_path.specs.Next.{next_chosen, next_in, next_write}
use Rattle.lvm_session.specs.declared.open.Open.{Open}
use Rattle.lvm_session.specs.declared.open.Power.TheVariants as power
use Rattle.lvm_session.specs.State.{Core, State}
use Rattle.lvm_session.specs.Judging.{facts_of, has_dirty_mark, has_names, is_waiting, mode_of}
use Rattle.lvm_session.specs.Enabled.{target_due, target_next}
use Rattle.lvm_session.specs.Requests.{IsOpenOne, MayBeServed, has_record, mode_for}
use Rattle.lvm_session.specs.Sound.{IsSound}
use Rattle.lvm_keeps.specs.Keeps.{FirstStartIsNoted}
use Rattle.lvm_keeps.proofs.Small.{both}
use Rattle.lvm_keeps.proofs.KeepsLemmas.Starting.{IsClear, not_starting, starts_clear}

-- it goes on as it would if nothing else mattered
starts_on : (k : Facts) (on : Next) (target : ℕ) → IsClear k → target_next (next_chosen k on) ≡ Some target → target_next on ≡ Some target
starts_on k on target clear starts = by k.pending k.usable k.changed clear.pending clear.usable clear.changed starts
  where
    by : (a b c : Bool) → a ≡ false → b ≡ true → c ≡ false → target_next (if a then on else if not b then next.Land outcome.NoFresh else if c then next.Admit else on) ≡ Some target → target_next on ≡ Some target
    by true b c p q r e = not_so (sym p)
    by false false c p q r e = not_so q
    by false true true p q r e = not_so (sym r)
    by false true false p q r e = e

module _ (s : State) (place target : ℕ) (o : Open) (sound : IsSound s) (on : s.core.power ≡ power.On) (there : slice_get s.core.requests place ≡ Some o) (due : target_due s.core o ≡ Some target)
    (write : is_write o.request.ask ≡ true) (begun : is_begun o.request.targets.items ≡ false) (two : 2 ≤ length o.request.targets.items) where
  abbrev core : Core
  core = s.core

  abbrev k : Facts
  k = facts_of core o.request

  abbrev Noted : Type 0
  Noted = (has_names core (mode_of core o.request.ask) o.request ≡ true) × (has_dirty_mark core (mode_of core o.request.ask) o.request ≡ true)

  its : IsOpenOne core o
  its = all_at (IsOpenOne core) core.requests place o (sound.on on).going.requests there

  clear : IsClear k
  clear = starts_clear o.request.phase k o.request target write begun due

  -- one that has landed starts nothing
  waits : is_waiting o ≡ true
  waits = by (is_waiting o) refl
    where
      by : (b : Bool) → is_waiting o ≡ b → b ≡ true
      by true is = refl
      by false is = not_starting (sym (ap (λ (p : Phase). target_next (next_in p k o.request)) (its.over is).phase_is) ∙ due)

  ready : MayBeServed core o.request
  ready = (its.waits waits).ready

  mode_is : mode_for core o.request.ask ≡ mode_of core o.request.ask
  mode_is = ap (λ b. if b then mode_of core o.request.ask else mode.Off) write

  from_ready : has_record o.request.phase ≡ true → Noted
  from_ready has = (
    sym (ap (λ (m : Mode). has_names core m o.request) mode_is) ∙ ready.named has two,
    sym (ap (λ (m : Mode). has_dirty_mark core m o.request) mode_is) ∙ ready.dirty has two,
  )

  from_facts : target_next (if k.named && k.dirty && not k.pending then next_write o.request.policy o.request.targets.items else next.Wait) ≡ Some target → Noted
  from_facts starts = by (k.named && k.dirty && not k.pending) refl starts
    where
      by : (b : Bool) → (k.named && k.dirty && not k.pending) ≡ b → target_next (if b then next_write o.request.policy o.request.targets.items else next.Wait) ≡ Some target → Noted
      by true is e = both k.named k.dirty (both (k.named && k.dirty) (not k.pending) is).0
      by false is e = not_starting e

  by_phase : (p : Phase) → o.request.phase ≡ p → target_next (next_in p k o.request) ≡ Some target → Noted
  by_phase phase.Held is starts = not_starting (sym (by (k.blocked || k.pending) k.usable) ∙ starts)
    where
      by : (a b : Bool) → target_next (if a then next.Wait else if b then next.Admit else next.Land outcome.NoFresh) ≡ None
      by true b = refl
      by false true = refl
      by false false = refl
  by_phase phase.WantEntry is starts = not_starting (sym (by k.pinned) ∙ starts_on k (if k.pinned then next.Wait else next.Pin) target clear starts)
    where
      by : (a : Bool) → target_next (if a then next.Wait else next.Pin) ≡ None
      by true = refl
      by false = refl
  by_phase phase.WantRecord is starts = from_facts (starts_on k (if k.named && k.dirty && not k.pending then next_write o.request.policy o.request.targets.items else next.Wait) target clear starts)
  by_phase phase.Data is starts = from_ready (ap has_record is)
  by_phase phase.WantStatus is starts = from_ready (ap has_record is)
  by_phase phase.Landed is starts = not_starting starts

  pub noted : Noted
  noted = by_phase o.request.phase refl due

pub first_start_is_noted : FirstStartIsNoted
first_start_is_noted s place target o sound on there due write begun two = noted s place target o sound on there due write begun two
