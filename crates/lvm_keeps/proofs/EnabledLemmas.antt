-- In which phase a request may do what.
use Rattle.std.proofs.Common.{◌≡◌, ℕ, Bool, true, false, ◌&&◌, ◌||◌, not, List, Option, Some, None, refl, sym, ◌∙◌, if◌then◌else◌}
use Rattle.std.specs.Prelude.{position}
use Rattle.std.specs.List.{list_any}
use Rattle.std.specs.Option.{option_map_or}
use Rattle.lvm_num.proofs.Booleans.{not_so}
use Rattle.lvm_vol.specs.declared.entry.Outcome.TheVariants as outcome
use Rattle.lvm_path.specs.declared.facts.Facts.{Facts}
use Rattle.lvm_path.specs.declared.facts.Next.{Next}
use Rattle.lvm_path.specs.declared.facts.Next.TheVariants as next
use Rattle.lvm_path.specs.declared.request.Phase.{Phase}
use Rattle.lvm_path.specs.declared.request.Phase.TheVariants as phase
use Rattle.lvm_path.specs.declared.request.Request.{Request}
use Rattle.lvm_path.specs.declared.target.Target.{Target}
use Rattle.lvm_path.specs.Asks.{is_write}
use Rattle.lvm_path.specs.Targets.{is_done, is_begun, states_of}
use Rattle.lvm_path.specs.Next.{next_in, next_chosen, next_data, next_read, next_write, start_or_wait}
use Rattle.lvm_path.specs.passed.Sched.{is_flying, is_waiting as is_unstarted, next_target}
use Rattle.lvm_session.specs.Enabled.{is_pin}

-- ---- a pin

start_is_no_pin : (place : Option ℕ) → is_pin (start_or_wait place) ≡ false
start_is_no_pin None = refl
start_is_no_pin (Some place) = refl

chosen_is_no_pin : (k : Facts) (on : Next) → is_pin on ≡ false → is_pin (next_chosen k on) ≡ false
chosen_is_no_pin k on none = by k.pending k.usable k.changed
  where
    by : (a b c : Bool) → is_pin (if a then on else if not b then next.Land outcome.NoFresh else if c then next.Admit else on) ≡ false
    by true b c = none
    by false false c = refl
    by false true true = refl
    by false true false = none

one_of : (a : Bool) (x y : Next) → is_pin x ≡ false → is_pin y ≡ false → is_pin (if a then x else y) ≡ false
one_of true x y left right = left
one_of false x y left right = right

write_is_no_pin : (r : Request) → is_pin (next_write r.policy r.targets.items) ≡ false
write_is_no_pin r = start_is_no_pin (next_target r.policy (states_of r.targets.items))

read_is_no_pin : (ts : List Target) → is_pin (next_read ts) ≡ false
read_is_no_pin ts = by (list_any (λ (t : Target). is_done t.state) ts) (list_any (λ (t : Target). is_flying t.state) ts) (position (λ (t : Target). is_unstarted t.state) ts)
  where
    by : (a b : Bool) (place : Option ℕ) → is_pin (if a then next.Land outcome.Got else if b then next.Wait else option_map_or next.Start place (next.Land outcome.ReadFailed)) ≡ false
    by true b place = refl
    by false true place = refl
    by false false None = refl
    by false false (Some place) = refl

data_is_no_pin : (k : Facts) (r : Request) → is_pin (next_data k r) ≡ false
data_is_no_pin k r =
    let on = if k.pending then next.Wait else next_write r.policy r.targets.items in
    one_of (is_begun r.targets.items) (next_write r.policy r.targets.items) (next_chosen k on) (write_is_no_pin r)
    (chosen_is_no_pin k on (one_of k.pending next.Wait (next_write r.policy r.targets.items) refl (write_is_no_pin r)))

record_is_no_pin : (k : Facts) (r : Request) → is_pin (next_in phase.WantRecord k r) ≡ false
record_is_no_pin k r =
    let may = k.named && k.dirty && not k.pending in
    chosen_is_no_pin k (if may then next_write r.policy r.targets.items else next.Wait) (one_of may (next_write r.policy r.targets.items) next.Wait (write_is_no_pin r) refl)

-- only a write that waits for its entry pins
pub pins_entry : (p : Phase) (k : Facts) (r : Request) → is_pin (next_in p k r) ≡ true → p ≡ phase.WantEntry
pins_entry phase.Held k r is = not_so (sym (one_of (k.blocked || k.pending) next.Wait (if k.usable then next.Admit else next.Land outcome.NoFresh) refl (one_of k.usable next.Admit (next.Land outcome.NoFresh) refl refl)) ∙ is)
pins_entry phase.WantEntry k r is = refl
pins_entry phase.WantRecord k r is = not_so (sym (record_is_no_pin k r) ∙ is)
pins_entry phase.Data k r is = not_so (sym (one_of (is_write r.ask) (next_data k r) (next_read r.targets.items) (data_is_no_pin k r) (read_is_no_pin r.targets.items)) ∙ is)
pins_entry phase.WantStatus k r is = not_so (sym (one_of k.marked (next.Land (if k.kept then outcome.Done else outcome.Lost)) next.Wait refl refl) ∙ is)
pins_entry phase.Landed k r is = not_so is
