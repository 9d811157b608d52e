use Rattle.std.proofs.Common.{◌≡◌, length, arith}
use Rattle.std.proofs.lemmas.Result.{err_from_is_err_and}
use Rattle.lvm_session.specs.State.{state_of}
use Rattle.lvm_ranges.specs.Syncing.{copies_at}
use Rattle.lvm_ranges.proofs.SyncingLemmas.Passing.{all_of, more_of, none_yet, stops, stops_of}
use Rattle.lvm_ranges.proofs.passes.pass_group.Goals as goal

pub loop-place-init : goal.loop-place-init
loop-place-init g c = none_yet (copies_at c.args.driver.now.1.descriptor) (state_of g.S.Shelf.device c.args.driver.now) c.args.tally.now c.args.patience.now.left c.requires.none c.requires.unstuck

pub loop-place-preserved : goal.loop-place-preserved
loop-place-preserved g c =
    let device = g.S.Shelf.device in
    more_of copies_at (state_of device c.args.driver.now) (state_of device c.loop-place.driver) (state_of device c.pass_volume_at.new.driver) c.args.tally.now c.loop-place.tally c.pass_volume_at.new.tally c.loop-place.place
    c.args.patience.now.left c.loop-place.patience.left c.pass_volume_at.new.patience.left c.loop-place.invariant c.in_ok-pass_volume_at.ensures.ends c.pass_volume_at.ensures.beside

pub returns-in_err-pass_volume_at : goal.returns-in_err-pass_volume_at
returns-in_err-pass_volume_at g c =
    let device = g.S.Shelf.device in
    let less = c.loop-place-test.true in
    let count = c.volume_count-place-end.ensures in
    let f = err_from_is_err_and c.from_residual.result c.from_residual.ensures.1 in
    rw (f.1, f.2) (record {
      ends = stops_of copies_at (state_of device c.args.driver.now) (state_of device c.loop-place.driver) (state_of device c.pass_volume_at.new.driver) c.args.tally.now c.loop-place.tally c.loop-place.place c.args.patience.now.left
          c.loop-place.patience.left c.pass_volume_at.new.patience.left c.loop-place.invariant c.in_err-pass_volume_at.field-0.0 (length c.args.driver.now.1.descriptor.lvs) (omega (arith, less, count)) c.in_err-pass_volume_at.ensures.ends;
      beside = stops (copies_at c.args.driver.now.1.descriptor) (state_of device c.args.driver.now) (state_of device c.loop-place.driver) (state_of device c.pass_volume_at.new.driver) c.args.tally.now c.loop-place.tally
          c.pass_volume_at.new.tally c.loop-place.place c.args.patience.now.left c.loop-place.patience.left c.pass_volume_at.new.patience.left c.loop-place.invariant c.pass_volume_at.ensures.beside;
    })

pub returns : goal.returns
returns g c =
    let device = g.S.Shelf.device in
    let count = c.volume_count-place-end.ensures in
    let last : c.loop-place.place ≡ length c.args.driver.now.1.descriptor.lvs = omega (arith, count) in
    record {
      ends = all_of (copies_at c.args.driver.now.1.descriptor) (state_of device c.args.driver.now) (state_of device c.loop-place.driver) c.args.tally.now c.loop-place.tally c.loop-place.place (length c.args.driver.now.1.descriptor.lvs) c.args.patience.now.left
          c.loop-place.patience.left c.loop-place.invariant last;
      beside = c.loop-place.invariant.beside;
    }
