-- Faults that are planned for calls, and what they have made of a shelf in memory.
use Rattle.std.specs.Prelude.{ℕ, ◌+◌, ◌-◌, ◌^◌, ◌<◌, ◌==◌, Bool, true, false, List, [], ◌∷◌, map, Option, Some, None, min, slice_set, slice_index_or}
use Rattle.std.specs.List.{filter, AllByRecursion}
use Rattle.lvm_memory.specs.declared.injector.Act.{Act}
use Rattle.lvm_memory.specs.declared.injector.Act.TheVariants.{Fail, Heal, Cut, Pick, Delay}
use Rattle.lvm_memory.specs.declared.injector.Planned.{Planned}

-- the plan, the calls so far, which disks fail, the word that picks among the sectors of failed writes, and how many reaps pass over the next flight that starts
pub record Injection : Type 0 where
  pub plan : List Planned
  pub calls : ℕ
  pub failing : List Bool
  pub pick : ℕ
  pub delay : ℕ

-- a disk's transfers fail
abbrev pub fails : Injection → ℕ → Bool
fails i disk = slice_index_or i.failing disk false

-- the act's disk, where it has one, is one of so many
abbrev pub NamesDisk : ℕ → Act → Type 0
NamesDisk disks (Fail disk) = disk < disks
NamesDisk disks (Heal disk) = disk < disks
NamesDisk disks (Cut word) = Unit {0}
NamesDisk disks (Pick word) = Unit {0}
NamesDisk disks (Delay reaps) = Unit {0}

-- each act of the plan is on a disk that is there
abbrev pub NamesDisks : ℕ → List Planned → Type 0
NamesDisks disks plan = AllByRecursion (λ p. NamesDisk disks p.act) plan

-- the acts that are planned for a call, in the plan's order
abbrev pub due : ℕ → List Planned → List Act
due call plan = map (λ p. p.act) (filter (λ p. p.call == call) plan)

-- what an act changes here; a cut changes nothing of it
abbrev pub after_act : Act → Injection → Injection
after_act (Fail disk) i = record i { failing = slice_set i.failing disk true }
after_act (Heal disk) i = record i { failing = slice_set i.failing disk false }
after_act (Cut word) i = i
after_act (Pick word) i = record i { pick = word }
after_act (Delay reaps) i = record i { delay = reaps }

-- what some acts change, one after the other
abbrev pub after_acts : List Act → Injection → Injection
after_acts [] i = i
after_acts (act ∷ acts) i = after_acts acts (after_act act i)

-- the number of the next call; the count stands still at its last value
abbrev pub next_call : Injection → ℕ
next_call i = min (i.calls + 1) (2 ^ 64 - 1)

-- the next call has begun, and the acts that are planned for it are done
abbrev pub begun : Injection → Injection
begun i = after_acts (due (next_call i) i.plan) (record i { calls = next_call i })

-- the word of an act that cuts the power, or else another
abbrev pub cut_or : Act → Option ℕ → Option ℕ
cut_or (Cut word) other = Some word
cut_or _ other = other

-- the word of the first act that cuts the power
abbrev pub first_cut : List Act → Option ℕ
first_cut [] = None
first_cut (act ∷ acts) = cut_or act (first_cut acts)

-- the word by which the power is cut before the next call
abbrev pub cut_planned : Injection → Option ℕ
cut_planned i = first_cut (due (next_call i) i.plan)
