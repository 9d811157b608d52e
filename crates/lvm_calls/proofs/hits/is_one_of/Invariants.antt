use Rattle.std.proofs.Common.{◌≡◌, drop, if◌then◌else◌}
use Rattle.std.specs.List.{list_any}
use Rattle.lvm_num.specs.Descriptor.{is_pp}
use Rattle.lvm_path.specs.declared.target.Target.{Target}
use Rattle.lvm_session.specs.Fields.{core_of}
use Rattle.lvm_session.specs.Judging.{all_but_sure}
use Rattle.lvm_calls.proofs.hits.is_one_of.Given as goal

abbrev pub invariant-loop-target : goal.invariant-loop-target
invariant-loop-target l =
    list_any (λ (t : Target). is_pp l.pp t.pp) (if l.sure then drop l.target-index l.targets else all_but_sure (core_of l.session) (drop l.target-index l.targets))
    ≡ list_any (λ (t : Target). is_pp l.pp t.pp) (all_but_sure (core_of l.session) l.targets)
