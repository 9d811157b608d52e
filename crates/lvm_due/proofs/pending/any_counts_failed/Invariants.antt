use Rattle.std.proofs.Common.{◌≡◌, drop}
use Rattle.std.specs.List.{list_any}
use Rattle.lvm_due.specs.passed.Session.{core_of, counts_failed}
use Rattle.lvm_due.proofs.pending.any_counts_failed.Given as goal

abbrev pub invariant-loop-target : goal.invariant-loop-target
invariant-loop-target l = list_any (counts_failed (core_of l.session)) (drop l.target-index l.targets) ≡ list_any (counts_failed (core_of l.session)) l.targets
