use Rattle.std.proofs.Common.{◌≡◌, ◌≤◌, ◌+◌, length, take}
use Rattle.std.specs.Prelude.{count_by}
use Rattle.lvm_session.specs.Judging.{is_waiting}
use Rattle.lvm_due.proofs.work.lost_left.Given as goal

abbrev pub invariant-loop-open : goal.invariant-loop-open
invariant-loop-open l = (l.left ≡ length l.session.flying.items + count_by is_waiting (take l.open-index l.session.requests.items)) × (l.left ≤ length l.session.flying.items + l.open-index)
