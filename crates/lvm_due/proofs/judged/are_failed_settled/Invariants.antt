use Rattle.std.proofs.Common.{◌≡◌, ◌||◌, not, drop}
use Rattle.std.specs.List.{list_all}
use Rattle.lvm_path.specs.declared.target.Target.{Target}
use Rattle.lvm_due.specs.passed.Session.{core_of, counts_failed, is_settled}
use Rattle.lvm_due.proofs.judged.are_failed_settled.Given as goal

abbrev pub invariant-loop-target : goal.invariant-loop-target
invariant-loop-target l = list_all (λ (t : Target). not (counts_failed (core_of l.session) t) || is_settled (core_of l.session) t.pp) (drop l.target-index l.targets) ≡ list_all (λ (t : Target). not (counts_failed (core_of l.session) t) || is_settled (core_of l.session) t.pp) l.targets
