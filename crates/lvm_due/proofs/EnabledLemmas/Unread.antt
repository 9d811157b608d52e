-- Facts that a request doesn't read.
use Rattle.std.proofs.Common.{◌≡◌, ◌&&◌, not, ℕ, Bool, true, false, Option, Some, None, refl, sym, ◌∙◌, ap}
use Rattle.std.specs.Prelude.{if◌then◌else◌}
use Rattle.lvm_sched.specs.Writes.{next_target}
use Rattle.lvm_vol.specs.declared.entry.Outcome.TheVariants as outcome
use Rattle.lvm_path.specs.declared.facts.Facts.{Facts}
use Rattle.lvm_path.specs.declared.facts.Next.{Next}
use Rattle.lvm_path.specs.declared.facts.Next.TheVariants as next
use Rattle.lvm_path.specs.declared.request.Phase.{Phase}
use Rattle.lvm_path.specs.declared.request.Phase.TheVariants as phase
use Rattle.lvm_path.specs.declared.request.Request.{Request}
use Rattle.lvm_path.specs.Next.{next_chosen, next_in, next_write, start_or_wait}
use Rattle.lvm_path.specs.Targets.{states_of}
use Rattle.lvm_session.specs.Enabled.{is_admit, is_pin, outcome_next, target_next}
use Rattle.lvm_due.proofs.NotNextLemmas.{starts_not}
use Rattle.lvm_session.specs.Left.{is_held}

module _ (r : Request) (k : Facts) where
  -- only one that isn't admitted reads who is in its way
  pub blocked_unread : (b : Bool) (p : Phase) → (is_held p ≡ true → b ≡ k.blocked) → next_in p (record k { blocked = b }) r ≡ next_in p k r
  blocked_unread b phase.Held same = ap (λ (c : Bool). next_in phase.Held (record k { blocked = c }) r) (same refl)
  blocked_unread b phase.WantEntry same = refl
  blocked_unread b phase.WantRecord same = refl
  blocked_unread b phase.Data same = refl
  blocked_unread b phase.WantStatus same = refl
  blocked_unread b phase.Landed same = refl

  -- and nothing is started of it, whoever is
  pub starts_unread : (b : Bool) (p : Phase) → target_next (next_in p (record k { blocked = b }) r) ≡ target_next (next_in p k r)
  starts_unread b phase.Held = starts_not (record k { blocked = b }) r phase.Held refl ∙ sym (starts_not k r phase.Held refl)
  starts_unread b phase.WantEntry = refl
  starts_unread b phase.WantRecord = refl
  starts_unread b phase.Data = refl
  starts_unread b phase.WantStatus = refl
  starts_unread b phase.Landed = refl

  -- ---- what is named

  abbrev goes : Next
  goes = next_write r.policy r.targets.items

  module _ {A : Type 0} (f : Next → A) (start : (place : ℕ) → f (next.Start place) ≡ f next.Wait) where
    writes_wait : f goes ≡ f next.Wait
    writes_wait = by (next_target r.policy (states_of r.targets.items))
      where
        by : (o : Option ℕ) → f (start_or_wait o) ≡ f next.Wait
        by None = refl
        by (Some place) = start place

    either_waits : (b : Bool) → f (if b then goes else next.Wait) ≡ f next.Wait
    either_waits true = writes_wait
    either_waits false = refl

    chosen_same : (l : Facts) (x y : Next) → f x ≡ f y → f (next_chosen l x) ≡ f (next_chosen l y)
    chosen_same l x y same = by l.pending l.usable l.changed
      where
        by : (p u c : Bool) → f (if p then x else if not u then next.Land outcome.NoFresh else if c then next.Admit else x) ≡ f (if p then y else if not u then next.Land outcome.NoFresh else if c then next.Admit else y)
        by true u c = same
        by false true true = refl
        by false true false = same
        by false false c = refl

    -- it is read only where a write may start by it
    named_by : (b : Bool) (p : Phase) → f (next_in p (record k { named = b }) r) ≡ f (next_in p k r)
    named_by b phase.Held = refl
    named_by b phase.WantEntry = refl
    named_by b phase.WantRecord = chosen_same k (if b && k.dirty && not k.pending then goes else next.Wait) (if k.named && k.dirty && not k.pending then goes else next.Wait) (either_waits (b && k.dirty && not k.pending) ∙ sym (either_waits (k.named && k.dirty && not k.pending)))
    named_by b phase.Data = refl
    named_by b phase.WantStatus = refl
    named_by b phase.Landed = refl

  pub named_unread : (b : Bool) (p : Phase) → outcome_next (next_in p (record k { named = b }) r) ≡ outcome_next (next_in p k r)
  named_unread = named_by outcome_next (λ place. refl)

  pub named_unread_admit : (b : Bool) (p : Phase) → is_admit (next_in p (record k { named = b }) r) ≡ is_admit (next_in p k r)
  named_unread_admit = named_by is_admit (λ place. refl)

  pub named_unread_pin : (b : Bool) (p : Phase) → is_pin (next_in p (record k { named = b }) r) ≡ is_pin (next_in p k r)
  named_unread_pin = named_by is_pin (λ place. refl)

  -- nothing is started with less named that wasn't with more
  pub named_falls : (b : Bool) (p : Phase) → (b ≡ true → k.named ≡ true) → target_next (next_in p k r) ≡ None → target_next (next_in p (record k { named = b }) r) ≡ None
  named_falls b phase.Held fewer none = none
  named_falls b phase.WantEntry fewer none = none
  named_falls true phase.WantRecord fewer none = ap (λ (c : Bool). target_next (next_in phase.WantRecord (record k { named = c }) r)) (sym (fewer refl)) ∙ none
  named_falls false phase.WantRecord fewer none = starts_not (record k { named = false }) r phase.WantRecord refl
  named_falls b phase.Data fewer none = none
  named_falls b phase.WantStatus fewer none = none
  named_falls b phase.Landed fewer none = none
