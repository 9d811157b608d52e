use Rattle.lvm_ranges.proofs.passed.Going.{path_shape}
use Rattle.std.proofs.Common.{◌≡◌, Option, ap, sym, ◌∙◌, arith}
use Rattle.std.specs.Option.{option_map_or}
use Rattle.std.proofs.lemmas.Result.{err_from_is_err_and}
use Rattle.lvm_num.specs.declared.descriptor.Descriptor.{Descriptor}
use Rattle.lvm_num.specs.declared.descriptor.LvRow.{LvRow}
use Rattle.lvm_num.specs.Descriptor.{volume_of}
use Rattle.lvm_session.specs.State.{state_of}
use Rattle.lvm_ranges.specs.Syncing.{partition_copies}
use Rattle.lvm_ranges.proofs.SyncingLemmas.Passing.{all_of, more_of, none_yet, stops, stops_of}
use Rattle.lvm_ranges.proofs.passes.pass_volume.Goals as goal

pub loop-lp-init : goal.loop-lp-init
loop-lp-init g c = none_yet (partition_copies c.args.driver.now.1.descriptor c.args.lv) (state_of g.S.Shelf.device c.args.driver.now) c.args.tally.now c.args.patience.now.left c.requires.none c.requires.unstuck

-- a logical partition below the count of the volume's is one of it
pub pass_partition-requires-clause-within : goal.pass_partition-requires-clause-within
pass_partition-requires-clause-within g c = λ row at.
    let less = c.loop-lp-test.true in
    let count = c.partition_count-lp-end.ensures ∙ ap (λ (m : Option LvRow). option_map_or (λ (r : LvRow). r.lps) m 0) (sym (ap (λ (d : Descriptor). volume_of d c.args.lv) (path_shape c.loop-lp.invariant.beside.leaves).descriptor) ∙ at) in
    omega (arith, less, count)

pub loop-lp-preserved : goal.loop-lp-preserved
loop-lp-preserved g c =
    let device = g.S.Shelf.device in
    more_of (λ d. partition_copies d c.args.lv) (state_of device c.args.driver.now) (state_of device c.loop-lp.driver) (state_of device c.pass_partition.new.driver) c.args.tally.now c.loop-lp.tally c.pass_partition.new.tally c.loop-lp.lp
    c.args.patience.now.left c.loop-lp.patience.left c.pass_partition.new.patience.left c.loop-lp.invariant c.in_ok-pass_partition.ensures.ends c.pass_partition.ensures.beside

pub returns-in_err-pass_partition : goal.returns-in_err-pass_partition
returns-in_err-pass_partition g c =
    let device = g.S.Shelf.device in
    let less = c.loop-lp-test.true in
    let count = c.partition_count-lp-end.ensures in
    let f = err_from_is_err_and c.from_residual.result c.from_residual.ensures.1 in
    rw (f.1, f.2) (record {
      ends = stops_of (λ d. partition_copies d c.args.lv) (state_of device c.args.driver.now) (state_of device c.loop-lp.driver) (state_of device c.pass_partition.new.driver) c.args.tally.now c.loop-lp.tally c.loop-lp.lp c.args.patience.now.left
          c.loop-lp.patience.left c.pass_partition.new.patience.left c.loop-lp.invariant c.in_err-pass_partition.field-0.0 (option_map_or (λ (r : LvRow). r.lps) (volume_of c.args.driver.now.1.descriptor c.args.lv) 0) (omega (arith, less, count)) c.in_err-pass_partition.ensures.ends;
      beside = stops (partition_copies c.args.driver.now.1.descriptor c.args.lv) (state_of device c.args.driver.now) (state_of device c.loop-lp.driver) (state_of device c.pass_partition.new.driver) c.args.tally.now c.loop-lp.tally
          c.pass_partition.new.tally c.loop-lp.lp c.args.patience.now.left c.loop-lp.patience.left c.pass_partition.new.patience.left c.loop-lp.invariant c.pass_partition.ensures.beside;
    })

pub returns : goal.returns
returns g c =
    let device = g.S.Shelf.device in
    let count = c.partition_count-lp-end.ensures in
    let last : c.loop-lp.lp ≡ option_map_or (λ (r : LvRow). r.lps) (volume_of c.args.driver.now.1.descriptor c.args.lv) 0 = omega (arith, count) in
    record {
      ends = all_of (partition_copies c.args.driver.now.1.descriptor c.args.lv) (state_of device c.args.driver.now) (state_of device c.loop-lp.driver) c.args.tally.now c.loop-lp.tally c.loop-lp.lp (option_map_or (λ (r : LvRow). r.lps) (volume_of c.args.driver.now.1.descriptor c.args.lv) 0) c.args.patience.now.left
          c.loop-lp.patience.left c.loop-lp.invariant last;
      beside = c.loop-lp.invariant.beside;
    }
