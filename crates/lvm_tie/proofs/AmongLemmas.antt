-- Lists and tests.
use Rattle.std.proofs.Common.{◌≡◌, ◌⊎◌, inl, inr, ⊎_elim, ℕ, zero, suc, Bool, true, false, ◌&&◌, ◌||◌, not, List, [], ◌∷◌, length, Some, refl, sym, ap, ◌∙◌, arith}
use Rattle.std.specs.Prelude.{filter, if◌then◌else◌, slice_get, nat_le}
use Rattle.std.specs.List.{list_any, list_all}
use Rattle.std.proofs.lemmas.Bool.{and_parts, not-false}
use Rattle.std.proofs.lemmas.Bool.Decides.{nat_tests}
use Rattle.std.proofs.lemmas.Option.{same_Some}
use Rattle.lvm_num.specs.declared.place.Pp.{Pp}
use Rattle.lvm_kept.specs.Group.{IsOneOf}
use Rattle.lvm_num.specs.Descriptor.{is_pp}
use Rattle.lvm_sched.specs.declared.writes.TargetState.{TargetState}
use Rattle.lvm_sched.specs.declared.writes.TargetState.TheVariants as target
use Rattle.lvm_sched.specs.Writes.{is_waiting}
use Rattle.lvm_path.specs.declared.target.Target.{Target}
use Rattle.lvm_path.specs.Targets.{is_begun}
use Rattle.lvm_session.specs.Judging.{same_pps, pps_of}
use Rattle.lvm_invariant.specs.State.{Stage, Todo}
use Rattle.lvm_crash.proofs.WritingLemmas.{pp_same, same_pp}
use Rattle.lvm_tie.specs.Seen.{stage_seen, stage_at}
pub use Rattle.std.proofs.lemmas.Bool.{or_parts as or_left, or_cases as or_either, not-true as not_true}
pub use Rattle.lvm_num.proofs.Booleans.{and_false}
use Rattle.lvm_num.proofs.Booleans.{clash_gives}

pub or_true : (a b : Bool) → (a ≡ true) ⊎ (b ≡ true) → (a || b) ≡ true
or_true true b h = refl
or_true false b (inl h) = absurd cc
or_true false b (inr h) = h

pub and_not : (a b : Bool) → (a && not b) ≡ false → a ≡ true → b ≡ true
and_not true b h is = not-false b h
and_not false b h is = absurd cc

pub any_one : {X : Type 0} (test : X → Bool) (xs : List X) → list_any test xs ≡ true → (x : X) × IsOneOf xs x × (test x ≡ true)
any_one test [] h = absurd cc
any_one test (x ∷ xs) h = ⊎_elim (λ here. (x, inl refl, here)) (λ there. let r = any_one test xs there in (r.0, inr r.1, r.2)) (or_either (test x) (list_any test xs) h)

pub any_none : {X : Type 0} (test : X → Bool) (xs : List X) (x : X) → list_any test xs ≡ false → IsOneOf xs x → test x ≡ false
any_none test [] x h one = absurd one
any_none test (y ∷ ys) x h (inl is) = ap test is ∙ (or_left (test y) (list_any test ys) h).0
any_none test (y ∷ ys) x h (inr one) = any_none test ys x (or_left (test y) (list_any test ys) h).1 one

pub all_one : {X : Type 0} (test : X → Bool) (xs : List X) (x : X) → list_all test xs ≡ true → IsOneOf xs x → test x ≡ true
all_one test [] x h one = absurd one
all_one test (y ∷ ys) x h (inl is) = ap test is ∙ (and_parts (test y) (list_all test ys) h).0
all_one test (y ∷ ys) x h (inr one) = all_one test ys x (and_parts (test y) (list_all test ys) h).1 one

pub one_filter : {X : Type 0} (test : X → Bool) (xs : List X) (x : X) → IsOneOf xs x → test x ≡ true → IsOneOf (filter test xs) x
one_filter test [] x one passes = absurd one
one_filter test (y ∷ ys) x (inl here) passes = by (test y) (ap test (sym here) ∙ passes)
  where
    by : (b : Bool) → b ≡ true → IsOneOf (if b then y ∷ filter test ys else filter test ys) x
    by true is = inl here
    by false is = absurd cc
one_filter test (y ∷ ys) x (inr there) passes = by (test y) (one_filter test ys x there passes)
  where
    by : (b : Bool) → IsOneOf (filter test ys) x → IsOneOf (if b then y ∷ filter test ys else filter test ys) x
    by true rest = inr rest
    by false rest = rest

-- lists of partitions that say the same are one
pub same_lists : (ps qs : List Pp) → same_pps ps qs ≡ true → ps ≡ qs
same_lists [] [] h = refl
same_lists [] (q ∷ qs) h = absurd cc
same_lists (p ∷ ps) [] h = absurd cc
same_lists (p ∷ ps) (q ∷ qs) h =
    let both = and_parts (is_pp p q) (same_pps ps qs) h in
    let head : p ≡ q = pp_same p q both.0 in
    let tail : ps ≡ qs = same_lists ps qs both.1 in
    λ t. head t ∷ tail t

-- ---- targets

waits_todo : (state : TargetState) → not (is_waiting state) ≡ false → stage_seen state ≡ Todo
waits_todo target.Waiting h = refl
waits_todo target.Flying h = absurd cc
waits_todo target.Done h = absurd cc
waits_todo target.Failed h = absurd cc

-- the target at a partition is one of those listed, and where nothing has started it is to be done
pub stage_of_one : (ts : List Target) (e : Pp) (stage : Stage) → is_begun ts ≡ false → stage_at ts e ≡ Some stage → IsOneOf (pps_of ts) e × (stage ≡ Todo)
stage_of_one [] e stage none h = absurd cc
stage_of_one (t ∷ ts) e stage none h = by (is_pp e t.pp) refl h (stage_of_one ts e stage (or_left (not (is_waiting t.state)) (is_begun ts) none).1)
  where
    by : (b : Bool) → is_pp e t.pp ≡ b → (if b then Some (stage_seen t.state) else stage_at ts e) ≡ Some stage → (stage_at ts e ≡ Some stage → IsOneOf (pps_of ts) e × (stage ≡ Todo)) → IsOneOf (pps_of (t ∷ ts)) e × (stage ≡ Todo)
    by true is here rest = (inl (pp_same e t.pp is), sym (same_Some (stage_seen t.state) stage here) ∙ waits_todo t.state (or_left (not (is_waiting t.state)) (is_begun ts) none).0)
    by false is there rest = let r = rest there in (inr r.0, r.1)

pub one_todo : (ts : List Target) (e : Pp) → is_begun ts ≡ false → IsOneOf (pps_of ts) e → stage_at ts e ≡ Some Todo
one_todo [] e none one = absurd one
one_todo (t ∷ ts) e none one = by (is_pp e t.pp) refl one (one_todo ts e (or_left (not (is_waiting t.state)) (is_begun ts) none).1)
  where
    by : (b : Bool) → is_pp e t.pp ≡ b → IsOneOf (pps_of (t ∷ ts)) e → (IsOneOf (pps_of ts) e → stage_at ts e ≡ Some Todo) → (if b then Some (stage_seen t.state) else stage_at ts e) ≡ Some Todo
    by true is here rest = ap (λ (x : Stage). Some x) (waits_todo t.state (or_left (not (is_waiting t.state)) (is_begun ts) none).0)
    by false is (inl here) rest = clash_gives (is_pp e t.pp) (same_pp e t.pp here) is
    by false is (inr there) rest = rest there

-- the partition of a target is one of those
pub its_pp : (ts : List Target) (number : ℕ) (t : Target) → slice_get ts number ≡ Some t → IsOneOf (pps_of ts) t.pp × IsOneOf ts t
its_pp [] number t there = absurd cc
its_pp (u ∷ us) zero t there = let same : u ≡ t = cc in (inl (ap (λ (x : Target). x.pp) (sym same)), inl (sym same))
its_pp (u ∷ us) (suc number) t there = let r = its_pp us number t there in (inr r.0, inr r.1)

-- each partition is that of a target
pub target_of : (ts : List Target) (e : Pp) → IsOneOf (pps_of ts) e → (t : Target) × IsOneOf ts t × (t.pp ≡ e)
target_of [] e one = absurd one
target_of (t ∷ ts) e (inl here) = (t, inl refl, sym here)
target_of (t ∷ ts) e (inr there) = let r = target_of ts e there in (r.0, inr r.1, r.2)

-- of at most one there are no two
pub few_same : (ts : List Target) (e f : Pp) → nat_le 2 (length ts) ≡ false → IsOneOf (pps_of ts) e → IsOneOf (pps_of ts) f → e ≡ f
few_same [] e f few one other = absurd one
few_same (t ∷ []) e f few (inl here) (inl there) = here ∙ sym there
few_same (t ∷ []) e f few (inl here) (inr there) = absurd there
few_same (t ∷ []) e f few (inr here) other = absurd here
few_same (t ∷ u ∷ us) e f few one other = absurd (let long : nat_le 2 (length (t ∷ u ∷ us)) ≡ true = grind (arith, nat_tests) in let e2 : ◌≡◌ {A = Bool} true false = sym long ∙ few in cc)

pub one_there : (ts : List Target) (u : Target) → IsOneOf ts u → (k : ℕ) × (slice_get ts k ≡ Some u)
one_there [] u one = absurd one
one_there (t ∷ ts) u (inl here) = (0, ap (λ (x : Target). Some x) (sym here))
one_there (t ∷ ts) u (inr there) = let r = one_there ts u there in (suc r.0, r.1)
