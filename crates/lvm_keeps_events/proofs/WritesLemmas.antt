-- Which target a request starts.
use Rattle.std.proofs.Common.{◌≡◌, ◌⊎◌, inl, inr, ℕ, Bool, true, false, ◌&&◌, ◌||◌, not, List, Option, Some, None, slice_get, refl, sym, ◌∙◌, ap, if◌then◌else◌}
use Rattle.std.specs.Prelude.{position}
use Rattle.std.specs.List.{list_any}
use Rattle.std.specs.Option.{option_map_or}
use Rattle.lvm_num.specs.declared.descriptor.Policy.{Policy}
use Rattle.lvm_num.specs.declared.descriptor.Policy.TheVariants as policy
use Rattle.lvm_num.proofs.Lists.{index_is}
use Rattle.lvm_vol.specs.declared.entry.Outcome.TheVariants as outcome
use Rattle.lvm_mwc.proofs.FirstsLemmas.{first_at}
use Rattle.lvm_sched.specs.declared.writes.TargetState.{TargetState}
use Rattle.lvm_sched.specs.Writes.{is_flying, is_waiting as is_unstarted, next_target}
use Rattle.lvm_path.specs.declared.facts.Facts.{Facts}
use Rattle.lvm_path.specs.declared.facts.Next.{Next}
use Rattle.lvm_path.specs.declared.facts.Next.TheVariants as next
use Rattle.lvm_path.specs.declared.request.Phase.{Phase}
use Rattle.lvm_path.specs.declared.request.Phase.TheVariants as phase
use Rattle.lvm_path.specs.declared.request.Request.{Request}
use Rattle.lvm_path.specs.declared.target.Target.{Target}
use Rattle.lvm_path.specs.Asks.{is_write}
use Rattle.lvm_path.specs.Targets.{is_begun, is_done, states_of}
use Rattle.lvm_path.specs.Next.{next_chosen, next_data, next_in, next_read, next_write, start_or_wait}
use Rattle.lvm_session.specs.Enabled.{target_next}
use Rattle.lvm_keeps.proofs.Small.{both}
use Rattle.lvm_keeps.proofs.KeepsLemmas.Starting.{not_starting}
use Rattle.lvm_keeps_events.proofs.TargetsLemmas.{states_at}

-- A request that starts a target has its record, or gets it now; its target waits, and a read tries no other.
pub record StartsAt (p : Phase) (k : Facts) (r : Request) (target : ℕ) : Type 0 where
  pub may : (p ≡ phase.WantRecord) ⊎ (p ≡ phase.Data)
  pub recorded : p ≡ phase.WantRecord → (k.named ≡ true) × (k.dirty ≡ true)
  pub waits : (t : Target) → slice_get r.targets.items target ≡ Some t → is_unstarted t.state ≡ true
  pub alone : p ≡ phase.Data → is_write r.ask ≡ false → (list_any (λ (t : Target). is_flying t.state) r.targets.items ≡ false) × (list_any (λ (t : Target). is_done t.state) r.targets.items ≡ false)

found_passes : {A : Type 0} (t : A → Bool) (xs : List A) (k : ℕ) (x : A) → position t xs ≡ Some k → slice_get xs k ≡ Some x → t x ≡ true
found_passes t xs k x is there = ap t (sym (index_is xs k x x there)) ∙ (first_at t xs x k is).passes

policy_waits : (how : Policy) (states : List TargetState) (k : ℕ) (state : TargetState) → next_target how states ≡ Some k → slice_get states k ≡ Some state → is_unstarted state ≡ true
policy_waits policy.Sequential states k state is there = by (list_any is_flying states) is
  where
    by : (b : Bool) → (if b then None else position is_unstarted states) ≡ Some k → is_unstarted state ≡ true
    by true e = absurd (cc e)
    by false e = found_passes is_unstarted states k state e there
policy_waits policy.Parallel states k state is there = found_passes is_unstarted states k state is there
policy_waits policy.ParallelWrite states k state is there = found_passes is_unstarted states k state is there
policy_waits policy.RoundRobin states k state is there = found_passes is_unstarted states k state is there

write_waits : (r : Request) (target : ℕ) → target_next (next_write r.policy r.targets.items) ≡ Some target → (t : Target) → slice_get r.targets.items target ≡ Some t → is_unstarted t.state ≡ true
write_waits r target is t there = by (next_target r.policy (states_of r.targets.items)) refl is
  where
    by : (m : Option ℕ) → next_target r.policy (states_of r.targets.items) ≡ m → target_next (start_or_wait m) ≡ Some target → is_unstarted t.state ≡ true
    by None at e = absurd (cc e)
    by (Some k) at e = policy_waits r.policy (states_of r.targets.items) target t.state (at ∙ e) (states_at r.targets.items target t there)

-- it goes on as it would if nothing else mattered
chosen_on : (k : Facts) (on : Next) (target : ℕ) → target_next (next_chosen k on) ≡ Some target → target_next on ≡ Some target
chosen_on k on target starts = by k.pending k.usable k.changed starts
  where
    by : (a b c : Bool) → target_next (if a then on else if not b then next.Land outcome.NoFresh else if c then next.Admit else on) ≡ Some target → target_next on ≡ Some target
    by true b c e = e
    by false false c e = not_starting e
    by false true true e = not_starting e
    by false true false e = e

-- a read that starts a target
pub record IsFirstTry (r : Request) (target : ℕ) : Type 0 where
  pub flying : list_any (λ (t : Target). is_flying t.state) r.targets.items ≡ false
  pub done : list_any (λ (t : Target). is_done t.state) r.targets.items ≡ false
  pub waits : (t : Target) → slice_get r.targets.items target ≡ Some t → is_unstarted t.state ≡ true

read_tries : (r : Request) (target : ℕ) → target_next (next_read r.targets.items) ≡ Some target → IsFirstTry r target
read_tries r target starts = by (list_any (λ (t : Target). is_done t.state) r.targets.items) (list_any (λ (t : Target). is_flying t.state) r.targets.items) (position (λ (t : Target). is_unstarted t.state) r.targets.items) refl refl refl starts
  where
    by : (a b : Bool) (m : Option ℕ) → list_any (λ (t : Target). is_done t.state) r.targets.items ≡ a → list_any (λ (t : Target). is_flying t.state) r.targets.items ≡ b → position (λ (t : Target). is_unstarted t.state) r.targets.items ≡ m
        → target_next (if a then next.Land outcome.Got else if b then next.Wait else option_map_or next.Start m (next.Land outcome.ReadFailed)) ≡ Some target → IsFirstTry r target
    by true b m p q at e = not_starting e
    by false true m p q at e = not_starting e
    by false false None p q at e = not_starting e
    by false false (Some k) p q at e = record { flying = q; done = p; waits = λ t there. found_passes (λ (x : Target). is_unstarted x.state) r.targets.items target t (at ∙ e) there }

pub starts_at : (p : Phase) (k : Facts) (r : Request) (target : ℕ) → target_next (next_in p k r) ≡ Some target → StartsAt p k r target
starts_at phase.Held k r target starts = not_starting (sym (by (k.blocked || k.pending) k.usable) ∙ starts)
  where
    by : (a b : Bool) → target_next (if a then next.Wait else if b then next.Admit else next.Land outcome.NoFresh) ≡ None
    by true b = refl
    by false true = refl
    by false false = refl
starts_at phase.WantEntry k r target starts = not_starting (sym (by k.pinned) ∙ chosen_on k (if k.pinned then next.Wait else next.Pin) target starts)
  where
    by : (a : Bool) → target_next (if a then next.Wait else next.Pin) ≡ None
    by true = refl
    by false = refl
starts_at phase.WantRecord k r target starts = by (k.named && k.dirty && not k.pending) refl (chosen_on k (if k.named && k.dirty && not k.pending then next_write r.policy r.targets.items else next.Wait) target starts)
  where
    by : (b : Bool) → (k.named && k.dirty && not k.pending) ≡ b → target_next (if b then next_write r.policy r.targets.items else next.Wait) ≡ Some target → StartsAt phase.WantRecord k r target
    by true is e = record { may = inl refl; recorded = λ same. both k.named k.dirty (both (k.named && k.dirty) (not k.pending) is).0; waits = write_waits r target e; alone = λ other. absurd cc }
    by false is e = not_starting e
starts_at phase.Data k r target starts = by (is_write r.ask) refl starts
  where
    of_write : is_write r.ask ≡ true → target_next (next_write r.policy r.targets.items) ≡ Some target → StartsAt phase.Data k r target
    of_write write e = record { may = inr refl; recorded = λ other. absurd cc; waits = write_waits r target e; alone = λ same read. absurd (let no : true ≡ false = sym write ∙ read in cc) }

    waiting : (b : Bool) → target_next (if b then next.Wait else next_write r.policy r.targets.items) ≡ Some target → target_next (next_write r.policy r.targets.items) ≡ Some target
    waiting true e = not_starting e
    waiting false e = e

    goes : (b : Bool) → target_next (if b then next_write r.policy r.targets.items else next_chosen k (if k.pending then next.Wait else next_write r.policy r.targets.items)) ≡ Some target → target_next (next_write r.policy r.targets.items) ≡ Some target
    goes true e = e
    goes false e = waiting k.pending (chosen_on k (if k.pending then next.Wait else next_write r.policy r.targets.items) target e)

    by : (b : Bool) → is_write r.ask ≡ b → target_next (if b then next_data k r else next_read r.targets.items) ≡ Some target → StartsAt phase.Data k r target
    by true write e = of_write write (goes (is_begun r.targets.items) e)
    by false read e = let it = read_tries r target e in record { may = inr refl; recorded = λ other. absurd cc; waits = it.waits; alone = λ same none. (it.flying, it.done) }
starts_at phase.WantStatus k r target starts = not_starting (sym (by k.marked) ∙ starts)
  where
    by : (a : Bool) → target_next (if a then next.Land (if k.kept then outcome.Done else outcome.Lost) else next.Wait) ≡ None
    by true = refl
    by false = refl
starts_at phase.Landed k r target starts = not_starting starts
