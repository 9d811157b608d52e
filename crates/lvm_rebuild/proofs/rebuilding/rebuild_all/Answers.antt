use Rattle.std.proofs.Common.{ℕ, length, refl, ◌≤◌, arith}
use Rattle.std.proofs.lemmas.Result.{err_from_is_err_and}
use Rattle.lvm_session.specs.State.{State, state_of}
use Rattle.lvm_move_plan.specs.declared.standing.VolumeCopy.{VolumeCopy}
use Rattle.lvm_migrate.proofs.BesideLemmas.{beside_both}
use Rattle.lvm_rebuild.proofs.RebuildingLemmas.{are_rebuilt, none_so_far, one_more, rebuild_cause_since, shut_as, stand_here, stand_so_far, stands_next, stops_here, way_next, way_so_far}
use Rattle.lvm_rebuild.proofs.rebuilding.rebuild_all.Goals as goal

abbrev none : VolumeCopy
none = record { lv = 0; lp = 0; number = 0 }

pub loop-copy-init : goal.loop-copy-init
loop-copy-init g c = none_so_far c.args.lost.now (state_of g.S.Shelf.device c.args.driver.now) c.args.patience.now.left c.args.copies.now c.requires.copies c.requires.none c.requires.on c.requires.epoch

pub rebuild_one-requires : goal.rebuild_one-requires
rebuild_one-requires g c =
    let device = g.S.Shelf.device in
    record {
      on = c.loop-copy.invariant.on;
      epoch = c.loop-copy.invariant.epoch;
      none = c.loop-copy.invariant.shut;
      stands = stands_next c.args.lost.now (state_of device c.args.driver.now) (state_of device c.loop-copy.driver) c.args.patience.now.left c.loop-copy.patience.left c.args.copies.now c.loop-copy.copy-index none c.loop-copy-test.true c.loop-copy.invariant
          c.is_sound.ensures.fitting.valid;
    }

pub loop-copy-preserved : goal.loop-copy-preserved
loop-copy-preserved g c =
    let device = g.S.Shelf.device in
    let moved = c.in_ok-rebuild_one.ensures.rebuilds in
    one_more c.args.lost.now (state_of device c.args.driver.now) (state_of device c.loop-copy.driver) c.args.patience.now.left c.loop-copy.patience.left c.args.copies.now c.loop-copy.copy-index none c.loop-copy-test.true c.loop-copy.invariant
    c.rebuild_one.new.patience.left (state_of device c.rebuild_one.new.driver) c.is_sound.ensures moved.0 moved.1 moved.2 c.rebuild_one.ensures.beside c.rebuild_one.ensures.way

pub returns-in_err-rebuild_one : goal.returns-in_err-rebuild_one
returns-in_err-rebuild_one g c =
    let device = g.S.Shelf.device in
    let first : State = state_of device c.args.driver.now in
    let old : State = state_of device c.loop-copy.driver in
    let new : State = state_of device c.rebuild_one.new.driver in
    let p = c.args.patience.now.left in
    let q = c.loop-copy.patience.left in
    let r = c.rebuild_one.new.patience.left in
    let why = c.in_err-rebuild_one.field-0.0 in
    let inv = c.loop-copy.invariant in
    let k = c.loop-copy.copy-index in
    let f = err_from_is_err_and c.from_residual.result c.from_residual.ensures.1 in
    rw (f.1, f.2) (record {
      rebuilds = stops_here c.args.lost.now first old p q c.args.copies.now k none c.loop-copy-test.true inv r new why c.in_err-rebuild_one.ensures.rebuilds c.in_err-rebuild_one.ensures.stays c.rebuild_one.ensures.beside.counts c.rebuild_one.ensures.way;
      stand = stand_here c.args.lost.now first old p q c.args.copies.now k inv new.core.descriptor c.in_err-rebuild_one.ensures.stays;
      closed = shut_as (Unit {0}) ℕ new.core why c.in_err-rebuild_one.ensures.closed;
      caused = rebuild_cause_since first old new p q why inv.later inv.beside c.in_err-rebuild_one.ensures.caused;
      beside = beside_both first old new p q r inv.beside c.rebuild_one.ensures.beside;
      way = way_next c.args.lost.now first old p q c.args.copies.now k none c.loop-copy-test.true inv new c.rebuild_one.ensures.beside.counts c.rebuild_one.ensures.way;
    })

pub returns : goal.returns
returns g c =
    let device = g.S.Shelf.device in
    let first : State = state_of device c.args.driver.now in
    let now : State = state_of device c.loop-copy.driver in
    let p = c.args.patience.now.left in
    let q = c.loop-copy.patience.left in
    let inv = c.loop-copy.invariant in
    let k = c.loop-copy.copy-index in
    let all : length c.args.copies.now ≤ k = omega arith in
    record {
      rebuilds = (are_rebuilt c.args.lost.now first now p q c.args.copies.now k inv all, refl);
      stand = stand_so_far c.args.lost.now first now p q c.args.copies.now k inv;
      closed = (inv.on, inv.shut);
      caused = tt;
      beside = inv.beside;
      way = way_so_far c.args.lost.now first now p q c.args.copies.now k inv;
    }
