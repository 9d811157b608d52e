use Rattle.std.proofs.Common.{◌≡◌, ◌&&◌, false, take}
use Rattle.std.specs.List.{list_any}
use Rattle.lvm_due.specs.passed.Session.{Open, core_of, is_past_held, is_beside_copy, is_waiting}
use Rattle.lvm_due.proofs.moved.is_under_way.Given as goal

abbrev pub invariant-loop-open : goal.invariant-loop-open
invariant-loop-open l = list_any (λ (o : Open). is_waiting o && is_past_held o.request.phase && is_beside_copy (core_of l.session) o.request.ask l.copy) (take l.open-index l.session.requests.items) ≡ false
