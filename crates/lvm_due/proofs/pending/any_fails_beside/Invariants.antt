use Rattle.std.proofs.Common.{◌≡◌, ◌&&◌, ◌==◌, not, false, take}
use Rattle.std.specs.List.{list_any}
use Rattle.lvm_due.specs.passed.Session.{Open, core_of, is_beside, is_failing}
use Rattle.lvm_due.proofs.pending.any_fails_beside.Given as goal

abbrev pub invariant-loop-other : goal.invariant-loop-other
invariant-loop-other l = list_any (λ (e : Open). not (e.request.id == l.request.id) && is_beside (core_of l.session) e.request.ask l.request.ask && is_failing (core_of l.session) e) (take l.other-index l.session.requests.items) ≡ false
