use Rattle.std.proofs.Common.{◌≡◌, ℕ, List, refl, ap, sym, subst, ◌∙◌}
use Rattle.std.specs.Prelude.{None}
use Rattle.std.proofs.lemmas.Result.{err_from_is_err_and}
use Rattle.lvm_session.specs.State.{State, state_of}
use Rattle.lvm_move_plan.specs.declared.standing.VolumeCopy.{VolumeCopy}
use Rattle.lvm_move_plan.specs.Standing.{listed, standing_among}
use Rattle.lvm_migrate.specs.Committed.{GoesCommitting}
use Rattle.lvm_migrate.proofs.BesideLemmas.{beside_none}
use Rattle.lvm_migrate.proofs.WayLemmas.{going_none}
use Rattle.lvm_rebuild.specs.Choosing.{lost_copies, lost_members}
use Rattle.lvm_rebuild.specs.Rebuilding.{Rebuilds, RebuildsAll, StandRebuilt}
use Rattle.lvm_rebuild.proofs.RebuildingLemmas.{if_rebuilt, may_begin, refused_cause, refused_gives, shut_by, stand_alike, stand_none}
use Rattle.lvm_rebuild.proofs.rebuilding.rebuild.Goals as goal

pub returns-in_err-plan : goal.returns-in_err-plan
returns-in_err-plan g c =
    let s : State = state_of g.S.Shelf.device c.args.driver.now in
    let why = c.in_err-plan.field-0.0 in
    let p = c.args.patience.now.left in
    let f = err_from_is_err_and c.from_residual.result c.from_residual.ensures.1 in
    rw (f.1, f.2) (record {
      gives = refused_gives p s why c.in_err-plan.ensures;
      stand = stand_none (lost_copies s.core) s.core.descriptor;
      alike = refl;
      rebuilt = tt;
      closed = λ shut. shut_by ℕ c.args.driver.now.1 why (λ on. shut) c.requires.unstuck;
      caused = refused_cause p s why c.in_err-plan.ensures;
      beside = beside_none s p;
      way = going_none (StandRebuilt (lost_copies s.core) s.core.descriptor) s;
    })

pub rebuild_all-requires : goal.rebuild_all-requires
rebuild_all-requires g c =
    let core = c.args.driver.now.1 in
    let may = may_begin core c.in_ok-plan.ensures.0 in
    record {
      on = may.0 c.requires.unstuck;
      epoch = c.requires.epoch;
      none = may.1;
      copies = ap (λ (l : List ℕ). standing_among core.descriptor None (listed l)) (c.as_slice.ensures ∙ c.in_ok-plan.ensures.1) ∙ sym (c.as_slice-2.ensures ∙ c.in_ok-plan.ensures.2);
    }

pub returns : goal.returns
returns g c =
    let old : State = state_of g.S.Shelf.device c.args.driver.now in
    let new : State = state_of g.S.Shelf.device c.rebuild_all.new.driver in
    let p = c.args.patience.now.left in
    let q = c.rebuild_all.new.patience.left in
    let answer = c.rebuild_all.result in
    let lost : c.as_slice.result.now ≡ lost_members old.core = c.as_slice.ensures ∙ c.in_ok-plan.ensures.1 in
    let copies : c.as_slice-2.result.now ≡ lost_copies old.core = c.as_slice-2.ensures ∙ c.in_ok-plan.ensures.2 in
    let rebuilds : RebuildsAll (lost_members old.core) (lost_copies old.core) p q old new answer = subst (λ (l : List ℕ). RebuildsAll l (lost_copies old.core) p q old new answer) lost (subst (λ (k : List VolumeCopy). RebuildsAll c.as_slice.result.now k p q old new answer) copies c.rebuild_all.ensures.rebuilds) in
    let stand : StandRebuilt (lost_copies old.core) old.core.descriptor new.core.descriptor = subst (λ (l : List VolumeCopy). StandRebuilt l old.core.descriptor new.core.descriptor) copies c.rebuild_all.ensures.stand in
    record {
      gives = Rebuilds c.in_ok-plan.ensures.0 rebuilds;
      stand = stand;
      alike = stand_alike (lost_copies old.core) old.core.descriptor new.core.descriptor stand;
      rebuilt = if_rebuilt (lost_members old.core) (lost_copies old.core) p q old new answer rebuilds;
      closed = λ shut. c.rebuild_all.ensures.closed;
      caused = c.rebuild_all.ensures.caused;
      beside = c.rebuild_all.ensures.beside;
      way = subst (λ (l : List VolumeCopy). GoesCommitting (StandRebuilt l old.core.descriptor) old new) copies c.rebuild_all.ensures.way;
    }
