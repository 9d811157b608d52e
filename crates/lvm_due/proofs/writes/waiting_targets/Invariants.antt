use Rattle.std.proofs.Common.{◌≡◌, ◌≤◌, take}
use Rattle.std.specs.Prelude.{count_by}
use Rattle.lvm_path.specs.declared.target.Target.{Target}
use Rattle.lvm_sched.specs.Writes.{is_waiting}
use Rattle.lvm_due.proofs.writes.waiting_targets.Given as goal

abbrev pub invariant-loop-target : goal.invariant-loop-target
invariant-loop-target l = (l.waiting ≡ count_by (λ (t : Target). is_waiting t.state) (take l.target-index l.request.targets.items)) × (l.waiting ≤ l.target-index)
