use Rattle.std.proofs.Common.{ℕ, List, length, refl, ap, sym, ◌∙◌, ◌≤◌, arith}
use Rattle.std.proofs.lemmas.Result.{err_from_is_err_and}
use Rattle.lvm_session.specs.State.{State, state_of}
use Rattle.lvm_move_plan.specs.declared.plan.PlannedMove.{PlannedMove}
use Rattle.lvm_migrate.proofs.BesideLemmas.{beside_both}
use Rattle.lvm_migrate.proofs.CausesLemmas.{cause_since}
use Rattle.lvm_migrate.proofs.MigratingLemmas.{all_fresh, all_moved, all_stand, none_so_far, one_more, some_stand, stands_next, stops_here, stops_mid, unstuck_next, way_next}
use Rattle.lvm_migrate.proofs.WayLemmas.{shut_same}
use Rattle.lvm_migrate.proofs.migrating.move_all.Goals as goal

abbrev none : PlannedMove
none = record { copy = record { lv = 0; lp = 0; number = 0 }; to = record { disk = 0; pp = 0 } }

pub loop-one-init : goal.loop-one-init
loop-one-init g c = none_so_far (state_of g.S.Shelf.device c.args.driver.now) c.args.patience.now.left c.args.moves.now c.requires.plan c.requires.none c.requires.on c.requires.epoch c.requires.there

pub move_one-requires : goal.move_one-requires
move_one-requires g c =
    let device = g.S.Shelf.device in
    record {
      unstuck = unstuck_next (state_of device c.args.driver.now) (state_of device c.loop-one.driver) c.args.patience.now.left c.loop-one.patience.left c.args.moves.now c.loop-one.one-index none c.loop-one-test.true c.loop-one.invariant;
      epoch = c.loop-one.invariant.epoch;
      none = c.loop-one.invariant.shut;
      stands = stands_next (state_of device c.args.driver.now) (state_of device c.loop-one.driver) c.args.patience.now.left c.loop-one.patience.left c.args.moves.now c.loop-one.one-index none c.loop-one-test.true c.loop-one.invariant
          c.is_sound.ensures.fitting.valid;
    }

pub loop-one-preserved : goal.loop-one-preserved
loop-one-preserved g c =
    let device = g.S.Shelf.device in
    one_more (state_of device c.args.driver.now) (state_of device c.loop-one.driver) c.args.patience.now.left c.loop-one.patience.left c.args.moves.now c.loop-one.one-index none c.loop-one-test.true c.loop-one.invariant
    c.move_one.new.patience.left (state_of device c.move_one.new.driver) c.is_sound.ensures c.requires.plan c.in_ok-move_one.ensures.moves c.move_one.ensures.beside c.move_one.ensures.way

pub returns-in_err-move_one : goal.returns-in_err-move_one
returns-in_err-move_one g c =
    let device = g.S.Shelf.device in
    let first : State = state_of device c.args.driver.now in
    let old : State = state_of device c.loop-one.driver in
    let new : State = state_of device c.move_one.new.driver in
    let p = c.args.patience.now.left in
    let q = c.loop-one.patience.left in
    let r = c.move_one.new.patience.left in
    let why = c.in_err-move_one.field-0.0 in
    let stops = stops_here first old p q c.args.moves.now c.loop-one.one-index none c.loop-one-test.true c.loop-one.invariant r new why c.in_err-move_one.ensures.moves in
    let mid = stops_mid first old p q c.args.moves.now c.loop-one.one-index none c.loop-one-test.true c.loop-one.invariant r new why c.in_err-move_one.ensures.moves in
    let f = err_from_is_err_and c.from_residual.result c.from_residual.ensures.1 in
    rw (f.1, f.2) (record {
      moves = stops;
      stand = some_stand first new c.args.moves.now p r why stops (c.in_err-move_one.ensures.stays ∙ ap (λ (s : State). s.core.descriptor) (sym mid));
      fresh = tt;
      closed = shut_same new.core ℕ (Unit {0}) why c.in_err-move_one.ensures.closed;
      way = way_next first old p q c.args.moves.now c.loop-one.one-index none c.loop-one-test.true c.loop-one.invariant new c.move_one.ensures.beside.counts c.move_one.ensures.way;
      caused = cause_since first old new p q why c.loop-one.invariant.later c.loop-one.invariant.beside c.in_err-move_one.ensures.caused;
      beside = beside_both first old new p q r c.loop-one.invariant.beside c.move_one.ensures.beside;
    })

pub returns : goal.returns
returns g c =
    let device = g.S.Shelf.device in
    let first : State = state_of device c.args.driver.now in
    let now : State = state_of device c.loop-one.driver in
    let p = c.args.patience.now.left in
    let q = c.loop-one.patience.left in
    let all : length c.args.moves.now ≤ c.loop-one.one-index = omega arith in
    record {
      moves = all_moved first now p q c.args.moves.now c.loop-one.one-index c.loop-one.invariant all _ refl;
      stand = all_stand first now p q c.args.moves.now c.loop-one.one-index c.loop-one.invariant all;
      fresh = all_fresh first now p q c.args.moves.now c.loop-one.one-index c.loop-one.invariant all;
      closed = (c.loop-one.invariant.on, c.loop-one.invariant.shut);
      way = c.loop-one.invariant.way;
      caused = tt;
      beside = c.loop-one.invariant.beside;
    }
