-- The copies to which a request goes, and how far the transfer of each is.
use Rattle.std.specs.Prelude.{ℕ, Bool, true, false, ◌||◌, not, List, [], ◌∷◌, map, if◌then◌else◌, zero, suc}
use Rattle.std.specs.List.{list_any, list_all}
use Rattle.lvm_sched.specs.declared.writes.TargetState.{TargetState}
use Rattle.lvm_sched.specs.declared.writes.TargetState.TheVariants as stage
use Rattle.lvm_sched.specs.Writes.{is_waiting}
use Rattle.lvm_path.specs.declared.target.Target.{Target}

-- it has ended well
abbrev pub is_done : TargetState → Bool
is_done stage.Waiting = false
is_done stage.Flying = false
is_done stage.Done = true
is_done stage.Failed = false

-- it has ended by a fault
abbrev pub is_failed : TargetState → Bool
is_failed stage.Waiting = false
is_failed stage.Flying = false
is_failed stage.Done = false
is_failed stage.Failed = true

-- it has ended
abbrev pub is_over : TargetState → Bool
is_over state = is_done state || is_failed state

-- how far each of them is
abbrev pub states_of : List Target → List TargetState
states_of targets = map (λ (t : Target). t.state) targets

-- a transfer of one of them was started
abbrev pub is_begun : List Target → Bool
is_begun targets = list_any (λ (t : Target). not (is_waiting t.state)) targets

-- the transfer of each of them has ended
abbrev pub are_over : List Target → Bool
are_over targets = list_all (λ (t : Target). is_over t.state) targets

-- the transfer of the one at a place is so far now
abbrev pub with_state : List Target → ℕ → TargetState → List Target
with_state [] place state = []
with_state (t ∷ ts) zero state = record t { state = state } ∷ ts
with_state (t ∷ ts) (suc place) state = t ∷ with_state ts place state

-- how far a transfer is that has ended well, or badly
abbrev pub end_state : Bool → TargetState
end_state ok = if ok then stage.Done else stage.Failed
