-- Acts that are done one after another.
use Rattle.std.proofs.Common.{◌≡◌, ℕ, List, [], ◌∷◌, true, false, length, drop, Option, Some, None, refl, ◌∙◌, length-set}
use Rattle.lvm_memory.specs.Injection.{Injection, due, after_act, after_acts, first_cut}
use Rattle.lvm_memory.specs.declared.injector.Act.{Act}
use Rattle.lvm_memory.specs.declared.injector.Act.TheVariants.{Fail, Heal, Cut, Pick, Delay}
use Rattle.lvm_memory.specs.declared.injector.Planned.{Planned}

-- the first of two words that is there
abbrev pub or_else : Option ℕ → Option ℕ → Option ℕ
or_else None other = other
or_else (Some word) other = Some word

-- what was done so far, and what is still to be done, makes the whole
pub record DoneSoFar (plan : List Planned) (call : ℕ) (first now : Injection) (cut : Option ℕ) (i : ℕ) : Type 0 where
  pub acts : after_acts (due call (drop i plan)) now ≡ after_acts (due call plan) first
  pub cuts : or_else cut (first_cut (due call (drop i plan))) ≡ first_cut (due call plan)
  pub plan_is : now.plan ≡ plan
  pub call_is : now.calls ≡ call

length-after_act : (act : Act) (i : Injection) → length (after_act act i).failing ≡ length i.failing
length-after_act (Fail disk) i = length-set i.failing disk true
length-after_act (Heal disk) i = length-set i.failing disk false
length-after_act (Cut word) i = refl
length-after_act (Pick word) i = refl
length-after_act (Delay reaps) i = refl

pub length-after_acts : (acts : List Act) (i : Injection) → length (after_acts acts i).failing ≡ length i.failing
length-after_acts [] i = refl
length-after_acts (act ∷ acts) i = length-after_acts acts (after_act act i) ∙ length-after_act act i
