use Rattle.std.proofs.Common.{◌≡◌, drop}
use Rattle.std.specs.List.{list_any}
use Rattle.lvm_due.specs.passed.Session.{core_of, is_usable}
use Rattle.lvm_due.proofs.facts.any_is_usable.Given as goal

abbrev pub invariant-loop-pp : goal.invariant-loop-pp
invariant-loop-pp l = list_any (is_usable (core_of l.session)) (drop l.pp-index l.pps) ≡ list_any (is_usable (core_of l.session)) l.pps
