use Rattle.std.proofs.Common.{◌≡◌, inl, inr, refl, sym, ◌∙◌}
use Rattle.std.proofs.lemmas.Result.{err_from_is_err_and}
use Rattle.lvm_num.specs.declared.descriptor.Descriptor.{Descriptor}
use Rattle.lvm_session.specs.declared.open.Power.TheVariants as power
use Rattle.lvm_session.specs.State.{State, state_of}
use Rattle.lvm_move_plan.specs.Laws.{after_move}
use Rattle.lvm_migrate.proofs.BesideLemmas.{beside_none}
use Rattle.lvm_migrate.proofs.WayLemmas.{going_none, going_some}
use Rattle.lvm_rebuild.specs.Rebuilding.{IsGroupAfter, move_to}
use Rattle.lvm_rebuild.proofs.ChoosingLemmas.{chosen, copy_within, may_stand, none_against}
use Rattle.lvm_rebuild.proofs.RebuildingLemmas.{choice_cause, move_cause, shut_by}
use Rattle.lvm_rebuild.proofs.rebuilding.rebuild_one.Goals as goal

pub choose-requires : goal.choose-requires
choose-requires g c = copy_within c.args.driver.now.1.descriptor c.args.lost.now c.args.copy c.requires.stands

pub returns-in_err-to : goal.returns-in_err-to
returns-in_err-to g c =
    let s : State = state_of g.S.Shelf.device c.args.driver.now in
    let p = c.args.patience.now.left in
    let why = c.in_err-to.field-0.0 in
    let f = err_from_is_err_and c.from_residual.result c.from_residual.ensures.1 in
    rw (f.1, f.2) (record {
      rebuilds = inl (c.in_err-to.ensures.refused, refl, refl);
      closed = shut_by (Unit {0}) c.args.driver.now.1 why (λ on. c.requires.none) (λ stuck. let e : power.On ≡ power.Stuck = sym c.requires.on ∙ stuck in cc e);
      way = going_none (IsGroupAfter c.args.lost.now c.args.copy c.args.driver.now.1) s;
      stays = refl;
      caused = choice_cause p s c.args.lost.now c.args.copy why c.in_err-to.ensures.refused;
      beside = beside_none s p;
    })

pub move_one-requires : goal.move_one-requires
move_one-requires g c =
    let core = c.args.driver.now.1 in
    record {
      unstuck = λ stuck. (let e : power.On ≡ power.Stuck = sym c.requires.on ∙ stuck in cc e);
      epoch = c.requires.epoch;
      none = c.requires.none;
      stands = may_stand core c.args.lost.now c.args.copy c.in_ok-to.to (chosen core c.args.lost.now c.args.copy c.in_ok-to.to c.in_ok-to.ensures.chosen) c.requires.stands c.is_sound.ensures.fitting.valid;
    }

pub returns-in-Ok : goal.returns-in-Ok
returns-in-Ok g c =
    let core = c.args.driver.now.1 in
    let old : State = state_of g.S.Shelf.device c.args.driver.now in
    let new : State = state_of g.S.Shelf.device c.move_one.new.driver in
    let to = c.in_ok-to.to in
    record {
      rebuilds = (to, c.in_ok-to.ensures.chosen, c.in-Ok.ensures.moves);
      closed = c.in-Ok.ensures.closed;
      way = going_some (λ (k : Descriptor). k ≡ after_move core.descriptor (move_to c.args.copy to)) (IsGroupAfter c.args.lost.now c.args.copy core) (λ k is. (to, c.in_ok-to.ensures.chosen, is)) old new c.move_one.ensures.way;
      stays = tt;
      caused = tt;
      beside = c.move_one.ensures.beside;
    }

pub returns-in-Err : goal.returns-in-Err
returns-in-Err g c =
    let core = c.args.driver.now.1 in
    let old : State = state_of g.S.Shelf.device c.args.driver.now in
    let new : State = state_of g.S.Shelf.device c.move_one.new.driver in
    let to = c.in_ok-to.to in
    record {
      rebuilds = inr (to, c.in-Err.why, c.in_ok-to.ensures.chosen, refl, none_against core c.args.lost.now c.args.copy to (chosen core c.args.lost.now c.args.copy to c.in_ok-to.ensures.chosen) c.requires.stands c.is_sound.ensures.fitting.valid c.requires.on c.requires.none, c.in-Err.ensures.moves);
      closed = c.in-Err.ensures.closed;
      way = going_some (λ (k : Descriptor). k ≡ after_move core.descriptor (move_to c.args.copy to)) (IsGroupAfter c.args.lost.now c.args.copy core) (λ k is. (to, c.in_ok-to.ensures.chosen, is)) old new c.move_one.ensures.way;
      stays = c.in-Err.ensures.stays;
      caused = move_cause c.args.patience.now.left old new c.in-Err.why c.in-Err.ensures.caused;
      beside = c.move_one.ensures.beside;
    }
