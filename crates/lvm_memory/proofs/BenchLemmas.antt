-- Shelves in memory that delay nothing.
use Rattle.std.proofs.Common.{◌≡◌, ◌<◌, ◌==◌, [], ◌∷◌, ℕ, zero, suc, List, Bool, true, false, cond, map, length, Option, Some, None, MatchOption, nat_lt, refl, sym, ◌∙◌, ap, subst, arith}
use Rattle.std.proofs.lemmas.Bool.Decides.{nat_tests}
use Rattle.std.specs.List.{filter, position, remove, AllByRecursion}
use Rattle.lvm_disk.specs.Device.{Range}
use Rattle.lvm_memory.specs.Injection.{Injection, due, after_act, after_acts, next_call, cut_planned}
use Rattle.lvm_memory.specs.Bench.{Bench, CallBegins, DarkensBy, StartsAsPlanned, ReapsAsPlanned, IsPromptAct, IsPrompt, IsNoWait}
use Rattle.lvm_memory.specs.Flights.{NoDelays, flights_of, delays_of}
use Rattle.lvm_memory.specs.declared.flying.Flying.{Flying}
use Rattle.lvm_memory.proofs.TicketsLemmas.{none_passed, none_removed, none_more}
use Rattle.lvm_memory.specs.declared.injector.Act.{Act}
use Rattle.lvm_memory.specs.declared.injector.Act.TheVariants.{Fail, Delay}
use Rattle.lvm_memory.specs.declared.injector.Planned.{Planned}
use Rattle.lvm_disk.specs.declared.shelf.Started.{Started}
use Rattle.lvm_disk.specs.declared.shelf.Started.TheVariants as started
use Rattle.lvm_disk.specs.declared.shelf.Reaped.{Reaped}
use Rattle.lvm_disk.specs.declared.shelf.Reaped.TheVariants as reaped

-- ---- acts

abbrev PromptActs : List Act → Type 0
PromptActs acts = AllByRecursion IsPromptAct acts

kept : (b : Bool) (p : Planned) (rest : List Planned) → IsPromptAct p.act → PromptActs (map (λ p. p.act) rest) → PromptActs (map (λ p. p.act) (cond b (p ∷ rest) rest))
kept true p rest one all = (one, all)
kept false p rest one all = all

prompt_due : (call : ℕ) (plan : List Planned) → AllByRecursion (λ p. IsPromptAct p.act) plan → PromptActs (due call plan)
prompt_due call [] all = tt
prompt_due call (p ∷ plan) all = kept (p.call == call) p (filter (λ p. p.call == call) plan) all.0 (prompt_due call plan all.1)

prompt_act : (act : Act) (i : Injection) → IsPromptAct act → i.delay ≡ 0 → (after_act act i).delay ≡ 0
prompt_act (Delay reaps) i prompt none = prompt
prompt_act _ i prompt none = none

prompt_acts : (acts : List Act) (i : Injection) → PromptActs acts → i.delay ≡ 0 → (after_acts acts i).delay ≡ 0
prompt_acts [] i all none = none
prompt_acts (act ∷ acts) i all none = prompt_acts acts (after_act act i) all.1 (prompt_act act i all.0 none)

same_plan : (act : Act) (i : Injection) → (after_act act i).plan ≡ i.plan
same_plan (Fail disk) i = refl
same_plan _ i = refl

same_plans : (acts : List Act) (i : Injection) → (after_acts acts i).plan ≡ i.plan
same_plans [] i = refl
same_plans (act ∷ acts) i = same_plans acts (after_act act i) ∙ same_plan act i

-- ---- delays

none_by_cut : (o : Option ℕ) (old new : List ℕ) → MatchOption o (new ≡ old) (λ _. new ≡ []) → NoDelays old → NoDelays new
none_by_cut None old new same none = subst NoDelays (sym same) none
none_by_cut (Some word) old new cut none = subst NoDelays (sym cut) tt

-- ---- calls

prompt_begun : (old new : Bench) → CallBegins old new → IsPrompt old → IsPrompt new
prompt_begun old new begins prompt =
    let first : Injection = record old.injection { calls = next_call old.injection } in
    let acts = due (next_call old.injection) old.injection.plan in
    record {
      plan = subst (λ (plan : List Planned). AllByRecursion (λ p. IsPromptAct p.act) plan) (sym (ap (λ (i : Injection). i.plan) begins.injection ∙ same_plans acts first)) prompt.plan;
      next = ap (λ (i : Injection). i.delay) begins.injection ∙ prompt_acts acts first (prompt_due (next_call old.injection) old.injection.plan prompt.plan) prompt.next;
      out = none_by_cut (cut_planned old.injection) old.delays new.delays begins.delays prompt.out;
    }

pub prompt_started : (old new : Bench) (range : Range) (write : Bool) (answer : Started) → StartsAsPlanned old new range write answer → IsPrompt old → IsPrompt new
prompt_started old new range write (started.Ticket ticket) planned prompt =
    let mid = prompt_begun old planned.0 planned.1 prompt in
    record {
      plan = subst (λ (i : Injection). AllByRecursion (λ p. IsPromptAct p.act) i.plan) (sym planned.2.injection) mid.plan;
      next = ap (λ (i : Injection). i.delay) planned.2.injection;
      out = subst NoDelays (sym planned.2.delays) (none_more planned.0.delays planned.0.injection.delay mid.out mid.next);
    }
prompt_started old new range write (started.Dark back) planned prompt = subst IsPrompt (sym planned.2.1) (prompt_begun old planned.0 planned.1 prompt)

same_injection : (old new : Bench) → new.injection ≡ old.injection → IsPrompt old → NoDelays new.delays → IsPrompt new
same_injection old new same prompt none = record {
  plan = subst (λ (i : Injection). AllByRecursion (λ p. IsPromptAct p.act) i.plan) (sym same) prompt.plan;
  next = ap (λ (i : Injection). i.delay) same ∙ prompt.next;
  out = none;
}

pub prompt_reaped : (old new : Bench) (answer : Reaped) → ReapsAsPlanned old new answer → IsPrompt old → IsPrompt new
prompt_reaped old new reaped.Empty planned prompt =
    let mid = prompt_begun old planned.0 planned.1 prompt in
    same_injection planned.0 new planned.2.injection mid (subst NoDelays (sym planned.2.delays) (none_passed planned.0.delays mid.out))
prompt_reaped old new (reaped.Done ticket buf) planned prompt =
    let mid = prompt_begun old planned.0 planned.1 prompt in
    same_injection planned.0 new planned.2.injection mid (subst NoDelays (sym planned.2.delays) (none_passed (remove planned.0.delays planned.2.place) (none_removed planned.0.delays planned.2.place mid.out)))
prompt_reaped old new (reaped.Failed ticket buf) planned prompt =
    let mid = prompt_begun old planned.0 planned.1 prompt in
    same_injection planned.0 new planned.2.injection mid (subst NoDelays (sym planned.2.delays) (none_passed (remove planned.0.delays planned.2.place) (none_removed planned.0.delays planned.2.place mid.out)))
prompt_reaped old new (reaped.Dark freed) planned prompt = subst IsPrompt (sym planned.2.1) (prompt_begun old planned.0 planned.1 prompt)

-- with the power on after a call has begun, all flights are still out
still_out : (o : Option ℕ) (old new : Bench) → MatchOption o (new.device ≡ old.device) (λ word. (new.device.power ≡ false) × DarkensBy word old.device new.device)
    → MatchOption o (new.delays ≡ old.delays) (λ _. new.delays ≡ []) → new.device.power ≡ true → new.delays ≡ old.delays
still_out None old new device delays on = delays
still_out (Some word) old new device delays on = let off = device.0 in absurd (cc)

is_first : (n : ℕ) → nat_lt 0 (suc n) ≡ true
is_first n = grind (arith, nat_tests)

some_is_none : (n : ℕ) → Some n ≡ None → ⊥
some_is_none n e = absurd (cc)

due_first : (delays : List ℕ) → NoDelays delays → 0 < length delays → position (λ n. n == 0) delays ≡ None → ⊥
due_first [] none some is = absurd (omega arith)
due_first (zero ∷ delays) none some is = some_is_none 0 (sym (ap (λ (b : Bool). cond b (Some 0) None) (is_first (length delays))) ∙ is)
due_first (suc n ∷ delays) none some is = let e = none.0 in absurd (omega arith)

pub no_wait : (old new : Bench) (answer : Reaped) → (answer ≡ reaped.Empty → 0 < length old.delays) → ReapsAsPlanned old new answer → IsPrompt old → IsNoWait answer
no_wait old new reaped.Empty some planned prompt =
    let mid = prompt_begun old planned.0 planned.1 prompt in
    let same = still_out (cut_planned old.injection) old planned.0 planned.1.device planned.1.delays planned.2.power in
    due_first planned.0.delays mid.out (subst (λ (l : List ℕ). 0 < length l) (sym same) (some refl)) planned.2.none
no_wait old new (reaped.Done ticket buf) some planned prompt = tt
no_wait old new (reaped.Failed ticket buf) some planned prompt = tt
no_wait old new (reaped.Dark freed) some planned prompt = tt

pub as_many_delays : (l : List Flying) → length (flights_of l) ≡ length (delays_of l)
as_many_delays [] = refl
as_many_delays (f ∷ l) = ap suc (as_many_delays l)
