use Rattle.std.proofs.Common.{◌≡◌, drop}
use Rattle.std.specs.List.{list_all}
use Rattle.lvm_path.specs.declared.target.Target.{Target}
use Rattle.lvm_due.specs.passed.Session.{is_named}
use Rattle.lvm_due.proofs.facts.are_named.Given as goal

abbrev pub invariant-loop-target : goal.invariant-loop-target
invariant-loop-target l = list_all (λ (t : Target). is_named l.session.cache t.pp.disk l.lv l.group) (drop l.target-index l.targets) ≡ list_all (λ (t : Target). is_named l.session.cache t.pp.disk l.lv l.group) l.targets
