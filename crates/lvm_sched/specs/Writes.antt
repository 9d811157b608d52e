-- Which target of a write is started next.
use Rattle.std.specs.Prelude.{ℕ, List, Option, None, Bool, true, false, position, if◌then◌else◌}
use Rattle.std.specs.List.{list_any}
use Rattle.lvm_num.specs.declared.descriptor.Policy.{Policy}
use Rattle.lvm_num.specs.declared.descriptor.Policy.TheVariants as policy
use Rattle.lvm_sched.specs.declared.writes.TargetState.{TargetState}
use Rattle.lvm_sched.specs.declared.writes.TargetState.TheVariants as target

abbrev pub is_waiting : TargetState → Bool
is_waiting target.Waiting = true
is_waiting target.Flying = false
is_waiting target.Done = false
is_waiting target.Failed = false

abbrev pub is_flying : TargetState → Bool
is_flying target.Waiting = false
is_flying target.Flying = true
is_flying target.Done = false
is_flying target.Failed = false

-- the first target that waits; under the sequential policy none while one flies
abbrev pub next_target : Policy → List TargetState → Option ℕ
next_target policy.Sequential states = if list_any is_flying states then None else position is_waiting states
next_target policy.Parallel states = position is_waiting states
next_target policy.ParallelWrite states = position is_waiting states
next_target policy.RoundRobin states = position is_waiting states
