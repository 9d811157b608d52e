use Rattle.std.proofs.Common.{ℕ, ◌≡◌, ◌≤◌, false, List, length, ap, sym, subst, ◌∙◌}
use Rattle.std.specs.Prelude.{All, IfOk}
use Rattle.std.proofs.lemmas.Result.{err_from_is_err_and}
use Rattle.lvm_session.specs.Judging.{is_missing}
use Rattle.lvm_session.specs.State.{State, state_of}
use Rattle.lvm_move_plan.specs.declared.plan.PlannedMove.{PlannedMove}
use Rattle.lvm_move_plan.specs.Planned.{planned_moves}
use Rattle.lvm_migrate.specs.Migrating.{AreFreshBut, IsPlanOf, Migrates, MovesAll, StandMoved}
use Rattle.lvm_migrate.specs.Committed.{MovesAsPlanned}
use Rattle.lvm_migrate.proofs.WayLemmas.{going_none, shut_err}
use Rattle.lvm_migrate.proofs.BesideLemmas.{beside_none}
use Rattle.lvm_migrate.proofs.MigratingLemmas.{all_there, if_left_empty, may_begin, plan_of, planned_so, refused_cause, refused_gives, refused_stand}
use Rattle.lvm_migrate.proofs.migrating.migrate.Goals as goal

pub returns-in_err-moves : goal.returns-in_err-moves
returns-in_err-moves g c =
    let device = g.S.Shelf.device in
    let s : State = state_of device c.args.driver.now in
    let why = c.in_err-moves.field-0.0 in
    let f = err_from_is_err_and c.from_residual.result c.from_residual.ensures.1 in
    rw (f.1, f.2) (record {
      gives = refused_gives s c.args.lv c.args.from c.args.to c.args.patience.now.left why c.in_err-moves.ensures.planned;
      stand = refused_stand _ _;
      empty = tt;
      fresh = tt;
      closed = λ shut. shut_err c.args.driver.now.1 ℕ why (λ on. shut) c.requires.unstuck;
      way = going_none _ s;
      caused = refused_cause s c.args.lv c.args.from c.args.to c.args.patience.now.left why c.in_err-moves.ensures.planned;
      beside = beside_none s c.args.patience.now.left;
    })

pub move_all-requires : goal.move_all-requires
move_all-requires g c =
    let core = c.args.driver.now.1 in
    let its = planned_so core c.args.lv c.args.from c.args.to c.in_ok-moves.moves c.in_ok-moves.ensures.planned in
    let may = may_begin core c.args.lv c.args.from c.args.to its.0 in
    let same = sym (c.as_slice.ensures ∙ its.1) in
    record {
      on = may.on c.requires.unstuck;
      epoch = c.requires.epoch;
      none = may.shut;
      plan = subst (IsPlanOf core.descriptor) same (plan_of core.descriptor c.args.lv c.args.from c.args.to c.requires.may.differ may.fine);
      few = subst (λ (l : List PlannedMove). length l ≤ 1016) (sym c.as_slice.ensures) c.in_ok-moves.ensures.few;
      there = subst (All (λ (m : PlannedMove). is_missing core m.to.disk ≡ false)) same (all_there core c.args.lv c.args.from c.args.to may.there);
    }

pub returns : goal.returns
returns g c =
    let device = g.S.Shelf.device in
    let core = c.args.driver.now.1 in
    let old : State = state_of device c.args.driver.now in
    let new : State = state_of device c.move_all.new.driver in
    let p = c.args.patience.now.left in
    let q = c.move_all.new.patience.left in
    let answer = c.move_all.result in
    let its = planned_so core c.args.lv c.args.from c.args.to c.in_ok-moves.moves c.in_ok-moves.ensures.planned in
    let may = may_begin core c.args.lv c.args.from c.args.to its.0 in
    let same = c.as_slice.ensures ∙ its.1 in
    let stand : StandMoved (planned_moves core.descriptor c.args.lv c.args.from c.args.to) core.descriptor new.core.descriptor answer =
    subst (λ (l : List PlannedMove). StandMoved l core.descriptor new.core.descriptor answer) same c.move_all.ensures.stand in
    record {
      gives = Migrates its.0 (subst (λ (l : List PlannedMove). MovesAll l p q old new answer) same c.move_all.ensures.moves);
      stand = stand;
      empty = if_left_empty core.descriptor new.core.descriptor c.args.lv c.args.from c.args.to answer c.is_sound.ensures.fitting.valid c.requires.may.differ may.fine stand;
      fresh = subst (λ (l : List PlannedMove). IfOk answer (λ moved. AreFreshBut l old new)) same c.move_all.ensures.fresh;
      closed = λ shut. c.move_all.ensures.closed;
      way = subst (λ (l : List PlannedMove). MovesAsPlanned l old new) same c.move_all.ensures.way;
      caused = c.move_all.ensures.caused;
      beside = c.move_all.ensures.beside;
    }
