use Rattle.std.proofs.Common.{◌+◌, ap, ◌∙◌, arith}
use Rattle.lvm_session.specs.Fields.{core_of}
use Rattle.lvm_session.specs.Left.{request_left}
use Rattle.lvm_due.proofs.Sums.{sum_at}
use Rattle.lvm_due.proofs.requests.requests_left.Goals as goal

pub loop-place-preserved : goal.loop-place-preserved
loop-place-preserved c =
    let core = core_of c.args.session.now in
    let k = c.loop-place.place in
    let test = c.loop-place-test.true in
    let end = c.len-place-end.ensures in
    let so_far = c.loop-place.invariant in
    let few = c.request_left_at-left.ensures.few in
    let more = sum_at (request_left core) core.requests k c.request_left_at-left.result (omega (arith, test, end)) c.request_left_at-left.ensures.is in
    (ap (λ n. n + c.request_left_at-left.result) so_far.0 ∙ more, omega (arith, so_far.1, few))
