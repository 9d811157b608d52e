-- All targets but the first that is sure.
use Rattle.std.proofs.Common.{◌≡◌, ◌<◌, ◌+◌, ◌⊎◌, ⊎_elim, ℕ, zero, suc, Bool, true, false, List, [], ◌∷◌, Option, Some, None, if◌then◌else◌, ◌&&◌, filter, refl, sym, ◌∙◌, ap, subst, arith}
use Rattle.std.specs.List.{remove}
use Rattle.lvm_path.specs.declared.target.Target.{Target}
use Rattle.lvm_path.specs.declared.request.Request.{Request}
use Rattle.lvm_path.specs.Asks.{is_write}
use Rattle.lvm_path.specs.Targets.{is_failed, are_over}
use Rattle.lvm_calls.specs.declared.due.Due.{Due}
use Rattle.lvm_calls.specs.declared.due.Due.TheVariants as due
use Rattle.lvm_calls.specs.Due.{IsDue, IsFirstSure, IsWithinDue, due_among, sure_at, without_place}
use Rattle.lvm_session.specs.State.{Core}
use Rattle.lvm_session.specs.Judging.{is_sure_at, all_but_sure, pps_of}
use Rattle.lvm_session.specs.Marks.{due_of, due_targets}

front : (core : Core) (t : Target) (ts : List Target) (b : Bool) → is_sure_at core t ≡ b → all_but_sure core (t ∷ ts) ≡ (if b then ts else t ∷ all_but_sure core ts)
front core t ts b is = ap (λ x. if x then ts else t ∷ all_but_sure core ts) is

none_sure : (core : Core) (ts : List Target) → IsFirstSure core ts None → all_but_sure core ts ≡ ts
none_sure core [] none = refl
none_sure core (t ∷ ts) none = front core t ts false (none zero (omega arith)) ∙ ap (λ xs. t ∷ xs) (none_sure core ts (λ k less. none (suc k) (omega (arith, less))))

some_sure : (core : Core) (ts : List Target) (k : ℕ) → IsFirstSure core ts (Some k) → all_but_sure core ts ≡ remove ts k
some_sure core [] k first = let less = first.0 in absurd (omega (arith, less))
some_sure core (t ∷ ts) zero first = front core t ts true first.1
some_sure core (t ∷ ts) (suc k) first =
    let less = first.0 in
    front core t ts false (first.2 zero (omega arith)) ∙ ap (λ xs. t ∷ xs) (some_sure core ts k (omega (arith, less), first.1, λ j below. first.2 (suc j) (omega (arith, below))))

pub sures_are : (core : Core) (ts : List Target) (sure : Option ℕ) → IsFirstSure core ts sure → all_but_sure core ts ≡ without_place sure ts
sures_are core ts None first = none_sure core ts first
sures_are core ts (Some k) first = some_sure core ts k first

-- a search so far
pub one_more_unsure : (core : Core) (ts : List Target) (k : ℕ) → ((j : ℕ) → j < k → sure_at core ts j ≡ false) → sure_at core ts k ≡ false → (j : ℕ) → j < k + 1 → sure_at core ts j ≡ false
one_more_unsure core ts k before fails j less = ⊎_elim (λ below. before j below) (λ last. subst (λ n. sure_at core ts n ≡ false) (sym last) fails) (below_or_last j k less)
  where
    below_or_last : (i k : ℕ) → i < k + 1 → (i < k) ⊎ (i ≡ k)
    below_or_last i k less = grind (arith)

-- ---- what is due

due_nothing : (core : Core) (r : Request) → (is_write r.ask && are_over r.targets.items) ≡ false → due_of core r ≡ []
due_nothing core r is = ap (λ (b : Bool). if b then pps_of (due_targets core r) else []) is

due_some : (core : Core) (r : Request) → (is_write r.ask && are_over r.targets.items) ≡ true → due_of core r ≡ pps_of (due_targets core r)
due_some core r is = ap (λ (b : Bool). if b then pps_of (due_targets core r) else []) is

pub due_is : (core : Core) (r : Request) (d : Due) → IsDue core r d → pps_of (due_among d r.targets.items) ≡ due_of core r
due_is core r due.Nothing is = sym (due_nothing core r is)
due_is core r due.Failed is = ap (λ (b : Bool). pps_of (if b then filter (λ (t : Target). is_failed t.state) r.targets.items else all_but_sure core r.targets.items)) (sym is.1) ∙ sym (due_some core r is.0)
due_is core r (due.Others sure) is =
    ap pps_of (sym (sures_are core r.targets.items sure is.2))
    ∙ ap (λ (b : Bool). pps_of (if b then filter (λ (t : Target). is_failed t.state) r.targets.items else all_but_sure core r.targets.items)) (sym is.1) ∙ sym (due_some core r is.0)

pub due_within : (core : Core) (r : Request) (d : Due) → IsDue core r d → IsWithinDue d r.targets.items
due_within core r due.Nothing is = tt
due_within core r due.Failed is = tt
due_within core r (due.Others None) is = tt
due_within core r (due.Others (Some k)) is = is.2.0
