use Rattle.lvm_ranges.proofs.passed.Going.{path_shape}
use Rattle.std.proofs.Common.{◌≡◌, ap, sym, ◌∙◌, arith}
use Rattle.std.proofs.lemmas.Result.{err_from_is_err_and}
use Rattle.lvm_num.specs.declared.descriptor.Descriptor.{Descriptor}
use Rattle.lvm_num.specs.Descriptor.{volume_of}
use Rattle.lvm_session.specs.State.{state_of}
use Rattle.lvm_ranges.specs.Syncing.{copy_in}
use Rattle.lvm_ranges.proofs.SyncingLemmas.Passing.{all_of, more_of, none_yet, stops, stops_of}
use Rattle.lvm_ranges.proofs.passes.pass_partition.Goals as goal

pub loop-place-init : goal.loop-place-init
loop-place-init g c = none_yet (copy_in c.args.driver.now.1.descriptor c.args.lv c.args.lp) (state_of g.S.Shelf.device c.args.driver.now) c.args.tally.now c.args.patience.now.left c.requires.none c.requires.unstuck

pub pass_place-requires-clause-within : goal.pass_place-requires-clause-within
pass_place-requires-clause-within g c = λ row at. c.requires.within row (sym (ap (λ (d : Descriptor). volume_of d c.args.lv) (path_shape c.loop-place.invariant.beside.leaves).descriptor) ∙ at)

pub loop-place-preserved : goal.loop-place-preserved
loop-place-preserved g c =
    let device = g.S.Shelf.device in
    more_of (λ d. copy_in d c.args.lv c.args.lp) (state_of device c.args.driver.now) (state_of device c.loop-place.driver) (state_of device c.pass_place.new.driver) c.args.tally.now c.loop-place.tally c.pass_place.new.tally c.loop-place.place
    c.args.patience.now.left c.loop-place.patience.left c.pass_place.new.patience.left c.loop-place.invariant c.in_ok-pass_place.ensures.ends c.pass_place.ensures.beside

pub returns-in_err-pass_place : goal.returns-in_err-pass_place
returns-in_err-pass_place g c =
    let device = g.S.Shelf.device in
    let less = c.loop-place-test.true in
    let f = err_from_is_err_and c.from_residual.result c.from_residual.ensures.1 in
    rw (f.1, f.2) (record {
      ends = stops_of (λ d. copy_in d c.args.lv c.args.lp) (state_of device c.args.driver.now) (state_of device c.loop-place.driver) (state_of device c.pass_place.new.driver) c.args.tally.now c.loop-place.tally c.loop-place.place c.args.patience.now.left
          c.loop-place.patience.left c.pass_place.new.patience.left c.loop-place.invariant c.in_err-pass_place.field-0.0 3 (omega (arith, less)) c.in_err-pass_place.ensures.ends;
      beside = stops (copy_in c.args.driver.now.1.descriptor c.args.lv c.args.lp) (state_of device c.args.driver.now) (state_of device c.loop-place.driver) (state_of device c.pass_place.new.driver) c.args.tally.now c.loop-place.tally
          c.pass_place.new.tally c.loop-place.place c.args.patience.now.left c.loop-place.patience.left c.pass_place.new.patience.left c.loop-place.invariant c.pass_place.ensures.beside;
    })

pub returns : goal.returns
returns g c =
    let device = g.S.Shelf.device in
    let last : c.loop-place.place ≡ 3 = omega arith in
    record {
      ends = all_of (copy_in c.args.driver.now.1.descriptor c.args.lv c.args.lp) (state_of device c.args.driver.now) (state_of device c.loop-place.driver) c.args.tally.now c.loop-place.tally c.loop-place.place 3 c.args.patience.now.left
          c.loop-place.patience.left c.loop-place.invariant last;
      beside = c.loop-place.invariant.beside;
    }
