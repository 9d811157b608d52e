use Rattle.std.proofs.Common.{◌≡◌, drop, if◌then◌else◌}
use Rattle.std.specs.List.{list_all}
use Rattle.lvm_path.specs.declared.target.Target.{Target}
use Rattle.lvm_due.specs.passed.Session.{core_of, is_settled, all_but_sure}
use Rattle.lvm_due.proofs.judged.are_settled_but_one.Given as goal

abbrev pub invariant-loop-target : goal.invariant-loop-target
invariant-loop-target l =
    list_all (λ (t : Target). is_settled (core_of l.session) t.pp) (if l.sure then drop l.target-index l.targets else all_but_sure (core_of l.session) (drop l.target-index l.targets))
    ≡ list_all (λ (t : Target). is_settled (core_of l.session) t.pp) (all_but_sure (core_of l.session) l.targets)
