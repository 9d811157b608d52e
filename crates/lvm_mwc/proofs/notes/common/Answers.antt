use Rattle.std.proofs.Common.{◌<◌, ◌≤◌, length, arith}
use Rattle.lvm_mwc.proofs.CacheLemmas.{common_few}
use Rattle.lvm_mwc.proofs.notes.common.Goals as goal

pub push-requires : goal.push-requires
push-requires c =
    let most : length c.args.written.now.items ≤ 62 = rw (← c.as_slice-entry-items.ensures.value) c.as_slice-entry-items.ensures.fits in
    let within : c.loop-entry.entry-index < length c.args.written.now.items = rw (← c.as_slice-entry-items.ensures.value) c.loop-entry-test.true in
    (omega arith, rw c.loop-entry.invariant (common_few c.args.written.now.items c.args.flight.now c.loop-entry.entry-index within most))
