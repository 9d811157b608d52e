-- What a request does next, and what each step makes of it.
use Rattle.std.specs.Prelude.{ℕ, Bool, true, false, ◌&&◌, ◌||◌, not, List, length, Option, Some, None, position, nat_le, if◌then◌else◌}
use Rattle.std.specs.List.{list_any}
use Rattle.std.specs.Option.{option_map_or}
use Rattle.lvm_sched.specs.passed.Num.{Mode, Policy}
use Rattle.lvm_sched.specs.passed.NumDescriptorMode as mode
use Rattle.lvm_vol.specs.declared.entry.Outcome.TheVariants as outcome
use Rattle.lvm_sched.specs.declared.writes.TargetState.TheVariants as stage
use Rattle.lvm_sched.specs.Writes.{is_waiting, is_flying, next_target}
use Rattle.lvm_path.specs.declared.facts.Facts.{Facts}
use Rattle.lvm_path.specs.declared.facts.Next.{Next}
use Rattle.lvm_path.specs.declared.facts.Next.TheVariants as next
use Rattle.lvm_path.specs.declared.request.Phase.{Phase}
use Rattle.lvm_path.specs.declared.request.Phase.TheVariants as phase
use Rattle.lvm_path.specs.declared.request.Request.{Request}
use Rattle.lvm_path.specs.declared.target.Target.{Target}
use Rattle.lvm_path.specs.Asks.{is_write}
use Rattle.lvm_path.specs.Targets.{is_done, states_of, is_begun, are_over, with_state, end_state}

-- ---- what it does next

-- One that isn't admitted waits while another is in its way or something is pending; then it is admitted, or no copy can be used.
abbrev pub next_held : Facts → Next
next_held k = if k.blocked || k.pending then next.Wait else if k.usable then next.Admit else next.Land outcome.NoFresh

-- A write that hasn't started its data goes on while something is pending. Else it finds no copy, chooses its targets again, or goes on.
abbrev pub next_chosen : Facts → Next → Next
next_chosen k on = if k.pending then on else if not k.usable then next.Land outcome.NoFresh else if k.changed then next.Admit else on

-- the start of a target, where there is one
abbrev pub start_or_wait : Option ℕ → Next
start_or_wait None = next.Wait
start_or_wait (Some place) = next.Start place

-- a write starts the target whose turn it is by the policy
abbrev pub next_write : Policy → List Target → Next
next_write policy targets = start_or_wait (next_target policy (states_of targets))

-- A read tries its copies one after the other, and lands with the first that succeeds.
abbrev pub next_read : List Target → Next
next_read targets =
    if list_any (λ (t : Target). is_done t.state) targets then next.Land outcome.Got
    else if list_any (λ (t : Target). is_flying t.state) targets then next.Wait
    else option_map_or next.Start (position (λ (t : Target). is_waiting t.state) targets) (next.Land outcome.ReadFailed)

-- A write whose transfers have all ended lands once the staleness that they call for is settled.
abbrev pub next_marked : Facts → Next
next_marked k = if k.marked then next.Land (if k.kept then outcome.Done else outcome.Lost) else next.Wait

-- a write whose data may go to its targets, or has gone to some
abbrev pub next_data : Facts → Request → Next
next_data k r =
    if is_begun r.targets.items then next_write r.policy r.targets.items
    else next_chosen k (if k.pending then next.Wait else next_write r.policy r.targets.items)

-- what it does in each phase
abbrev pub next_in : Phase → Facts → Request → Next
next_in phase.Held k r = next_held k
next_in phase.WantEntry k r = next_chosen k (if k.pinned then next.Wait else next.Pin)
next_in phase.WantRecord k r = next_chosen k (if k.named && k.dirty && not k.pending then next_write r.policy r.targets.items else next.Wait)
next_in phase.Data k r = if is_write r.ask then next_data k r else next_read r.targets.items
next_in phase.WantStatus k r = next_marked k
next_in phase.Landed k r = next.Wait

-- what a request does next, where these are the facts
abbrev pub next_of : Request → Facts → Next
next_of r k = next_in r.phase k r

-- ---- what each step makes of it

-- A request that has its targets begins here: a write whose copies may come to differ by the record that its volume keeps.
abbrev pub first_phase : Mode → Bool → Bool → Phase
first_phase m false several = phase.Data
first_phase mode.Active true several = if several then phase.WantEntry else phase.Data
first_phase mode.Passive true several = if several then phase.WantRecord else phase.Data
first_phase mode.Off true several = phase.Data

-- it has its targets, and no pin
abbrev pub admitted : Request → Policy → Mode → List Target → Request
admitted r policy m targets = record r { phase = first_phase m (is_write r.ask) (nat_le 2 (length targets)); policy = policy; pinned = false; targets = record { items = targets } }

-- its track group is pinned
abbrev pub with_pin : Request → Request
with_pin r = record r { phase = phase.WantRecord; pinned = true }

-- the transfer of a target has started
abbrev pub with_start : Request → ℕ → Request
with_start r place = record r { phase = phase.Data; targets = record { items = with_state r.targets.items place stage.Flying } }

-- with the end of its last transfer a write waits for the status
abbrev pub phase_after : Request → List Target → Phase
phase_after r targets = if is_write r.ask && are_over targets then phase.WantStatus else r.phase

-- the transfer of a target has ended, well or badly
abbrev pub with_end : Request → ℕ → Bool → Request
with_end r place ok = let targets = with_state r.targets.items place (end_state ok) in record r { phase = phase_after r targets; targets = record { items = targets } }

-- it has landed
abbrev pub with_landing : Request → Request
with_landing r = record r { phase = phase.Landed; pinned = false }
