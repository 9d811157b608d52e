use Rattle.std.proofs.Common.{◌≡◌, ◌++◌, drop, map, take}
use Rattle.lvm_session.specs.Calls.{aged}
use Rattle.lvm_calls.proofs.open.age_all.Given as goal

abbrev pub invariant-loop-open : goal.invariant-loop-open
invariant-loop-open l = l.requests ≡ map aged (take l.open-index l.initial.requests) ++ drop l.open-index l.initial.requests
