-- What a request doesn't do next that it might not.
use Rattle.std.proofs.Common.{◌≡◌, ℕ, Bool, true, false, cond, nat_lt, ◌&&◌, ◌||◌, not, if◌then◌else◌, List, [], ◌∷◌, length, Option, Some, None, refl, sym, ◌∙◌, ap, arith}
use Rattle.std.specs.Prelude.{position}
use Rattle.std.specs.List.{list_any, position_or_len}
use Rattle.std.specs.Option.{option_map_or}
use Rattle.std.proofs.lemmas.Bool.{le-ltb, or_parts, not-false}
use Rattle.lvm_path.specs.passed.VolEntryOutcome as outcome
use Rattle.lvm_num.specs.declared.descriptor.Policy.{Policy}
use Rattle.lvm_num.specs.declared.descriptor.Policy.TheVariants as policy
use Rattle.lvm_sched.specs.Writes.{is_flying, is_waiting, next_target}
use Rattle.lvm_path.specs.declared.facts.Facts.{Facts}
use Rattle.lvm_path.specs.declared.facts.Next.{Next}
use Rattle.lvm_path.specs.declared.facts.Next.TheVariants as next
use Rattle.lvm_path.specs.declared.request.Phase.{Phase}
use Rattle.lvm_path.specs.declared.request.Phase.TheVariants as phase
use Rattle.lvm_path.specs.declared.request.Request.{Request}
use Rattle.lvm_path.specs.declared.target.Target.{Target}
use Rattle.lvm_path.specs.Asks.{is_write}
use Rattle.lvm_path.specs.Next.{next_chosen, next_in, next_read, next_write, start_or_wait}
use Rattle.lvm_path.specs.Targets.{is_begun, is_done, states_of}
use Rattle.lvm_due.specs.passed.Session.{is_admit, is_past_held, is_pin, outcome_next, target_next, wants_entry}
use Rattle.lvm_due.specs.Might.{any_waits, are_at_rest, might_admit_in, might_land_in, might_start_in, none_goes}

-- ---- what something is of each thing that it may do next is so of what it does

module _ {A : Type 0} (f : Next → A) (v : A) where
  by_start : f next.Wait ≡ v → ((place : ℕ) → f (next.Start place) ≡ v) → (o : Option ℕ) → f (start_or_wait o) ≡ v
  by_start wait start None = wait
  by_start wait start (Some place) = start place

  by_chosen : (k : Facts) (on : Next) → (k.usable ≡ false → f (next.Land outcome.NoFresh) ≡ v) → f next.Admit ≡ v → f on ≡ v → f (next_chosen k on) ≡ v
  by_chosen k on land admit goes = by k.pending k.usable k.changed land
    where
      by : (p u c : Bool) → (u ≡ false → f (next.Land outcome.NoFresh) ≡ v) → f (if p then on else if not u then next.Land outcome.NoFresh else if c then next.Admit else on) ≡ v
      by true u c lands = goes
      by false true true lands = admit
      by false true false lands = goes
      by false false c lands = lands refl

  by_held : (waits usable : Bool) → f next.Wait ≡ v → f next.Admit ≡ v → (usable ≡ false → f (next.Land outcome.NoFresh) ≡ v) → f (if waits then next.Wait else if usable then next.Admit else next.Land outcome.NoFresh) ≡ v
  by_held true usable wait admit land = wait
  by_held false true wait admit land = admit
  by_held false false wait admit land = land refl

  by_either : (b : Bool) (x y : Next) → f x ≡ v → f y ≡ v → f (if b then x else y) ≡ v
  by_either true x y first second = first
  by_either false x y first second = second

  by_place : (o : Option ℕ) (other : Next) → ((place : ℕ) → f (next.Start place) ≡ v) → f other ≡ v → f (option_map_or next.Start o other) ≡ v
  by_place None other start last = last
  by_place (Some place) other start last = start place

  by_read : (targets : List Target) → f (next.Land outcome.Got) ≡ v → f next.Wait ≡ v → ((place : ℕ) → f (next.Start place) ≡ v) → f (next.Land outcome.ReadFailed) ≡ v → f (next_read targets) ≡ v
  by_read targets got wait start failed =
      by_either (list_any (λ (t : Target). is_done t.state) targets) (next.Land outcome.Got) _ got
      (by_either (list_any (λ (t : Target). is_flying t.state) targets) next.Wait _ wait (by_place (position (λ (t : Target). is_waiting t.state) targets) (next.Land outcome.ReadFailed) start failed))

  -- a write whose data may go to its targets
  by_data : (k : Facts) (r : Request) (write begun : Bool) → (write ≡ false → f (next_read r.targets.items) ≡ v) → (write ≡ true → begun ≡ true → f (next_write r.policy r.targets.items) ≡ v)
      → (write ≡ true → begun ≡ false → f (next_chosen k (if k.pending then next.Wait else next_write r.policy r.targets.items)) ≡ v)
      → f (if write then (if begun then next_write r.policy r.targets.items else next_chosen k (if k.pending then next.Wait else next_write r.policy r.targets.items)) else next_read r.targets.items) ≡ v
  by_data k r false begun read goes chosen = read refl
  by_data k r true true read goes chosen = goes refl refl
  by_data k r true false read goes chosen = chosen refl refl

off : {A : Type 0} {a : Bool} → a ≡ false → a ≡ true → A
off is isnt = absurd (let e : false ≡ true = sym is ∙ isnt in cc e)

-- ---- targets of which no transfer is left to be started

module _ {X : Type 0} (p : X → Bool) where
  all_fail : (xs : List X) → list_any p xs ≡ false → position_or_len p xs ≡ length xs
  all_fail [] is = refl
  all_fail (x ∷ xs) is = let both = or_parts (p x) (list_any p xs) is in let rest = all_fail xs both.1 in rw both.0 (omega (arith, rest))

  none_found : (xs : List X) → list_any p xs ≡ false → position p xs ≡ None
  none_found xs is = ap (λ (n : ℕ). cond (nat_lt n (length xs)) (Some n) None) (all_fail xs is) ∙ ap (λ (b : Bool). cond b (Some (length xs)) None) (le-ltb (length xs) (length xs) (omega arith))

states_wait : (ts : List Target) → list_any is_waiting (states_of ts) ≡ any_waits ts
states_wait [] = refl
states_wait (t ∷ ts) = ap (λ b. is_waiting t.state || b) (states_wait ts)

no_target : (how : Policy) (ts : List Target) → any_waits ts ≡ false → next_target how (states_of ts) ≡ None
no_target how ts is = by how
  where
    none : position is_waiting (states_of ts) ≡ None
    none = none_found is_waiting (states_of ts) (states_wait ts ∙ is)

    by_flying : (b : Bool) → (if b then None else position is_waiting (states_of ts)) ≡ None
    by_flying true = refl
    by_flying false = none

    by : (q : Policy) → next_target q (states_of ts) ≡ None
    by policy.Sequential = by_flying (list_any is_flying (states_of ts))
    by policy.Parallel = none
    by policy.ParallelWrite = none
    by policy.RoundRobin = none

-- ---- landings

module _ (k : Facts) (r : Request) where
  abbrev goes : Next
  goes = next_write r.policy r.targets.items

  lands_not_by_write : outcome_next goes ≡ None
  lands_not_by_write = by_start outcome_next None refl (λ place. refl) (next_target r.policy (states_of r.targets.items))

  lands_not_chosen : (on : Next) → k.usable ≡ true → outcome_next on ≡ None → outcome_next (next_chosen k on) ≡ None
  lands_not_chosen on usable none = by_chosen outcome_next None k on (λ unusable. off unusable usable) refl none

  pub lands_not : (shown : Bool) → (shown ≡ true → k.usable ≡ true) → (p : Phase) → might_land_in p r shown ≡ false → outcome_next (next_in p k r) ≡ None
  lands_not shown sees phase.Held is = by_held outcome_next None (k.blocked || k.pending) k.usable refl refl (λ unusable. off unusable (sees (not-false shown is)))
  lands_not shown sees phase.WantEntry is = lands_not_chosen (if k.pinned then next.Wait else next.Pin) (sees (not-false shown is)) (by_either outcome_next None k.pinned next.Wait next.Pin refl refl)
  lands_not shown sees phase.WantRecord is =
      lands_not_chosen (if k.named && k.dirty && not k.pending then goes else next.Wait) (sees (not-false shown is)) (by_either outcome_next None (k.named && k.dirty && not k.pending) goes next.Wait lands_not_by_write refl)
  lands_not shown sees phase.Data is =
      by_data outcome_next None k r (is_write r.ask) (is_begun r.targets.items) (λ read. rests (list_any (λ (t : Target). is_done t.state) r.targets.items) (list_any (λ (t : Target). is_flying t.state) r.targets.items) (sym (ap (λ b. if b then (b && not (is_begun r.targets.items)) && not shown else are_at_rest r.targets.items) read) ∙ is))
      (λ write begun. lands_not_by_write)
      (λ write begun. lands_not_chosen (if k.pending then next.Wait else goes) (sees (usable_by (is_write r.ask) (is_begun r.targets.items) shown write begun is)) (by_either outcome_next None k.pending next.Wait goes refl lands_not_by_write))
    where
      rests : (done flying : Bool) → (done || not flying) ≡ false → outcome_next (if done then next.Land outcome.Got else if flying then next.Wait else option_map_or next.Start (position (λ (t : Target). is_waiting t.state) r.targets.items) (next.Land outcome.ReadFailed)) ≡ None
      rests true flying is = absurd (cc is)
      rests false true is = refl
      rests false false is = absurd (cc is)

      usable_by : (w b u : Bool) → w ≡ true → b ≡ false → (if w then (w && not b) && not u else are_at_rest r.targets.items) ≡ false → u ≡ true
      usable_by true true u write begun is = absurd (cc begun)
      usable_by true false true write begun is = refl
      usable_by true false false write begun is = absurd (cc is)
      usable_by false b u write begun is = absurd (cc write)
  lands_not shown sees phase.WantStatus is = absurd (cc is)
  lands_not shown sees phase.Landed is = refl

  -- ---- admissions

  admits_not_by_write : is_admit goes ≡ false
  admits_not_by_write = by_start is_admit false refl (λ place. refl) (next_target r.policy (states_of r.targets.items))

  admits_not_chosen : (on : Next) → k.changed ≡ false → is_admit on ≡ false → is_admit (next_chosen k on) ≡ false
  admits_not_chosen on same none = by k.pending k.usable k.changed same
    where
      by : (p u c : Bool) → c ≡ false → is_admit (if p then on else if not u then next.Land outcome.NoFresh else if c then next.Admit else on) ≡ false
      by true u c is = none
      by false true true is = absurd (cc is)
      by false true false is = none
      by false false c is = refl

  pub admits_not : (p : Phase) → might_admit_in p r k.changed ≡ false → is_admit (next_in p k r) ≡ false
  admits_not phase.Held is = absurd (cc is)
  admits_not phase.WantEntry is = admits_not_chosen (if k.pinned then next.Wait else next.Pin) is (by_either is_admit false k.pinned next.Wait next.Pin refl refl)
  admits_not phase.WantRecord is =
      admits_not_chosen (if k.named && k.dirty && not k.pending then goes else next.Wait) is (by_either is_admit false (k.named && k.dirty && not k.pending) goes next.Wait admits_not_by_write refl)
  admits_not phase.Data is =
      by_data is_admit false k r (is_write r.ask) (is_begun r.targets.items) (λ read. by_read is_admit false r.targets.items refl refl (λ place. refl) refl) (λ write begun. admits_not_by_write)
      (λ write begun. admits_not_chosen (if k.pending then next.Wait else goes) (same_by (is_write r.ask) (is_begun r.targets.items) k.changed write begun is) (by_either is_admit false k.pending next.Wait goes refl admits_not_by_write))
    where
      same_by : (w b c : Bool) → w ≡ true → b ≡ false → ((w && not b) && c) ≡ false → c ≡ false
      same_by true true c write begun is = absurd (cc begun)
      same_by true false c write begun is = is
      same_by false b c write begun is = absurd (cc write)
  admits_not phase.WantStatus is = by_either is_admit false k.marked (next.Land (if k.kept then outcome.Done else outcome.Lost)) next.Wait refl refl
  admits_not phase.Landed is = refl

  -- ---- pins

  pins_not_by_write : is_pin goes ≡ false
  pins_not_by_write = by_start is_pin false refl (λ place. refl) (next_target r.policy (states_of r.targets.items))

  pins_not_chosen : (on : Next) → is_pin on ≡ false → is_pin (next_chosen k on) ≡ false
  pins_not_chosen on none = by_chosen is_pin false k on (λ unusable. refl) refl none

  pub pins_not : (p : Phase) → (wants_entry p && not k.pinned) ≡ false → is_pin (next_in p k r) ≡ false
  pins_not phase.Held is = by_held is_pin false (k.blocked || k.pending) k.usable refl refl (λ unusable. refl)
  pins_not phase.WantEntry is = pins_not_chosen (if k.pinned then next.Wait else next.Pin) (by k.pinned is)
    where
      by : (b : Bool) → not b ≡ false → is_pin (if b then next.Wait else next.Pin) ≡ false
      by true is = refl
      by false is = absurd (cc is)
  pins_not phase.WantRecord is = pins_not_chosen (if k.named && k.dirty && not k.pending then goes else next.Wait) (by_either is_pin false (k.named && k.dirty && not k.pending) goes next.Wait pins_not_by_write refl)
  pins_not phase.Data is =
      by_data is_pin false k r (is_write r.ask) (is_begun r.targets.items) (λ read. by_read is_pin false r.targets.items refl refl (λ place. refl) refl) (λ write begun. pins_not_by_write)
      (λ write begun. pins_not_chosen (if k.pending then next.Wait else goes) (by_either is_pin false k.pending next.Wait goes refl pins_not_by_write))
  pins_not phase.WantStatus is = by_either is_pin false k.marked (next.Land (if k.kept then outcome.Done else outcome.Lost)) next.Wait refl refl
  pins_not phase.Landed is = refl

  -- ---- starts

  pub starts_not : (p : Phase) → might_start_in p r k.named ≡ false → target_next (next_in p k r) ≡ None
  starts_not phase.Held is = by_held target_next None (k.blocked || k.pending) k.usable refl refl (λ unusable. refl)
  starts_not phase.WantEntry is = by_chosen target_next None k (if k.pinned then next.Wait else next.Pin) (λ unusable. refl) refl (by_either target_next None k.pinned next.Wait next.Pin refl refl)
  starts_not phase.WantRecord is =
      by_chosen target_next None k (if k.named && k.dirty && not k.pending then goes else next.Wait) (λ unusable. refl) refl (by k.named k.dirty k.pending is)
    where
      by : (named dirty pending : Bool) → named ≡ false → target_next (if named && dirty && not pending then goes else next.Wait) ≡ None
      by true dirty pending is = absurd (cc is)
      by false dirty pending is = refl
  starts_not phase.Data is =
      by_data target_next None k r (is_write r.ask) (is_begun r.targets.items)
      (λ read. reads (list_any (λ (t : Target). is_done t.state) r.targets.items) (list_any (λ (t : Target). is_flying t.state) r.targets.items)
      (sym (ap (λ (b : Bool). any_waits r.targets.items && (b || none_goes r.targets.items)) read) ∙ is))
      (λ write begun. writes write)
      (λ write begun. by_chosen target_next None k (if k.pending then next.Wait else goes) (λ unusable. refl) refl (by_either target_next None k.pending next.Wait goes refl (writes write)))
    where
      none_left : (waits : Bool) → (waits && true) ≡ false → waits ≡ false
      none_left true is = is
      none_left false is = refl

      writes : is_write r.ask ≡ true → target_next goes ≡ None
      writes write =
          let none : any_waits r.targets.items ≡ false = none_left (any_waits r.targets.items) (sym (ap (λ (b : Bool). any_waits r.targets.items && (b || none_goes r.targets.items)) write) ∙ is) in
          ap (λ (o : Option ℕ). target_next (start_or_wait o)) (no_target r.policy r.targets.items none)

      reads : (done flying : Bool) → (any_waits r.targets.items && (false || (not done && not flying))) ≡ false
          → target_next (if done then next.Land outcome.Got else if flying then next.Wait else option_map_or next.Start (position (λ (t : Target). is_waiting t.state) r.targets.items) (next.Land outcome.ReadFailed)) ≡ None
      reads true flying is = refl
      reads false true is = refl
      reads false false is =
          ap (λ (o : Option ℕ). target_next (option_map_or next.Start o (next.Land outcome.ReadFailed))) (none_found (λ (t : Target). is_waiting t.state) r.targets.items (none_left (any_waits r.targets.items) is))
  starts_not phase.WantStatus is = by_either target_next None k.marked (next.Land (if k.kept then outcome.Done else outcome.Lost)) next.Wait refl refl
  starts_not phase.Landed is = refl

-- ---- what pins, or starts a transfer, is admitted and hasn't landed

pub pins_past : (k : Facts) (r : Request) (p : Phase) → is_pin (next_in p k r) ≡ true → is_past_held p ≡ true
pins_past k r phase.Held is = off (pins_not k r phase.Held refl) is
pins_past k r phase.WantEntry is = refl
pins_past k r phase.WantRecord is = refl
pins_past k r phase.Data is = refl
pins_past k r phase.WantStatus is = refl
pins_past k r phase.Landed is = off (pins_not k r phase.Landed refl) is

pub starts_past : (k : Facts) (r : Request) (p : Phase) (target : ℕ) → target_next (next_in p k r) ≡ Some target → is_past_held p ≡ true
starts_past k r phase.Held target is = absurd (let e : None ≡ Some target = sym (starts_not k r phase.Held refl) ∙ is in cc e)
starts_past k r phase.WantEntry target is = refl
starts_past k r phase.WantRecord target is = refl
starts_past k r phase.Data target is = refl
starts_past k r phase.WantStatus target is = refl
starts_past k r phase.Landed target is = absurd (let e : None ≡ Some target = sym (starts_not k r phase.Landed refl) ∙ is in cc e)
