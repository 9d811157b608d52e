use Rattle.std.proofs.Common.{◌≡◌, ◌≤◌, ◌*◌, take}
use Rattle.std.specs.Prelude.{sum_by}
use Rattle.lvm_session.specs.Fields.{core_of}
use Rattle.lvm_session.specs.Left.{request_left}
use Rattle.lvm_due.proofs.requests.requests_left.Given as goal

abbrev pub invariant-loop-place : goal.invariant-loop-place
invariant-loop-place l = (l.left ≡ sum_by (request_left (core_of l.session)) (take l.place l.session.requests.items)) × (l.left ≤ 1024 * l.place)
