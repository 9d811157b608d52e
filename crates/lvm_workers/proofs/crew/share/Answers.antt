use Rattle.std.proofs.Common.{◌/◌, arith}
use Rattle.std.proofs.lemmas.Nat.{div-add-mod', mul-le}
use Rattle.lvm_workers.proofs.crew.share.Goals as goal

pub overflow_add-result : goal.overflow_add-result
overflow_add-result c =
    let n = c.args.crew.now.requests in
    let t = c.args.crew.now.threads in
    let some = c.requires.0 in
    let first = c.requires.1 in
    let low = c.if-client-crew.true in
    let room = c.fits-crew in
    let long = mul-le (n / t) 1 (n / t) t (omega arith) some in
    omega (arith, div-add-mod' n t, long, low, first)
