use Rattle.std.proofs.Common.{List, Err, sym, subst}
use Rattle.std.proofs.lemmas.Result.{err_from_is_err_and}
use Rattle.lvm_num.specs.declared.place.Pp.{Pp}
use Rattle.lvm_num.specs.declared.descriptor.Descriptor.{Descriptor}
use Rattle.lvm_volume_plan.specs.passed.Core.{CommitFault, state_of, IsSettled}
use Rattle.lvm_volume_plan.specs.declared.fault.GroupFault.{GroupFault}
use Rattle.lvm_session.specs.State.{State}
use Rattle.lvm_volumes.specs.Endings.{StillHeld, KeepsFresh}
use Rattle.lvm_volumes.proofs.VolumesLemmas.{always_on}
use Rattle.lvm_volumes.proofs.EndingsLemmas.Fresh.{keeps_none}
use Rattle.lvm_volumes.proofs.EndingsLemmas.Holding.{still_none}
use Rattle.lvm_volumes.proofs.Leaving.{leaves_none}
use Rattle.lvm_volume_plan.specs.PlannedCopies.{ArePlanned}
use Rattle.lvm_volumes.specs.Mirrors.{to_add, AreAdded}
use Rattle.lvm_volumes.proofs.MirrorsLemmas.Answering.{refused_more, broke_so, added_leaves, adding_fails, added_given}
use Rattle.lvm_volumes.proofs.copies.mklvcopy.Goals as goal

pub returns-in_err-more : goal.returns-in_err-more
returns-in_err-more g c =
    let s : State = state_of g.S.Shelf.device c.args.driver.now in
    let p = c.args.patience.now.left in
    let why : GroupFault = c.in_err-more.field-0.0 in
    let e = err_from_is_err_and c.from_residual.result c.from_residual.ensures.1 in
    rw (e.1, e.2) (record {
      gives = refused_more c.args.lv c.args.copies p s why c.in_err-more.ensures.refused;
      settled = λ takes. always_on {A = List Pp} (Err why) (IsSettled s.core) (c.requires.settled takes);
      held = always_on {A = List Pp} (Err why) (StillHeld s s) (still_none s);
      fresh = always_on {A = List Pp} (Err why) (KeepsFresh s s) (keeps_none s);
      leaves = leaves_none (to_add c.args.lv c.args.copies s.core) p s;
    })

pub add-requires-clause-settled : goal.add-requires-clause-settled
add-requires-clause-settled g c = c.requires.settled c.in_ok-more.ensures.planned.may.places.grows.found.takes

pub add-requires-clause-may : goal.add-requires-clause-may
add-requires-clause-may g c =
    (c.args.lv, (c.args.copies, subst (λ (xs : List Pp). ArePlanned c.args.lv c.args.copies c.args.driver.now.1 xs c.in_ok-more.more.next) (sym c.as_slice.ensures) c.in_ok-more.ensures.planned))

pub returns-in_err-add : goal.returns-in_err-add
returns-in_err-add g c =
    let lv = c.args.lv in
    let copies = c.args.copies in
    let added : List Pp = c.as_slice.result.now in
    let next : Descriptor = c.in_ok-more.more.next in
    let a : State = state_of g.S.Shelf.device c.args.driver.now in
    let b : State = state_of g.S.Shelf.device c.add.new.driver in
    let planned : ArePlanned lv copies a.core added next = subst (λ (xs : List Pp). ArePlanned lv copies a.core xs next) (sym c.as_slice.ensures) c.in_ok-more.ensures.planned in
    let p = c.args.patience.now.left in
    let why : CommitFault = c.in_err-add.field-0.0 in
    let ends = c.in_err-add.ensures.ends in
    let e = err_from_is_err_and c.from_residual-in_err-add.result c.from_residual-in_err-add.ensures.1 in
    rw (e.1, e.2) (record {
      gives = adding_fails lv copies added next a planned p b why ends;
      settled = λ takes. broke_so (IsSettled b.core) a.core.history p a b why ends;
      held = c.in_err-add.ensures.held;
      fresh = c.in_err-add.ensures.fresh;
      leaves = added_leaves lv copies added next a planned p c.add.new.patience.left b c.add.ensures.leaves;
    })

pub returns : goal.returns
returns g c =
    let lv = c.args.lv in
    let copies = c.args.copies in
    let added : List Pp = c.as_slice.result.now in
    let next : Descriptor = c.in_ok-more.more.next in
    let a : State = state_of g.S.Shelf.device c.args.driver.now in
    let b : State = state_of g.S.Shelf.device c.add.new.driver in
    let planned : ArePlanned lv copies a.core added next = subst (λ (xs : List Pp). ArePlanned lv copies a.core xs next) (sym c.as_slice.ensures) c.in_ok-more.ensures.planned in
    record {
      gives = subst (λ (xs : List Pp). AreAdded lv copies a b xs) c.as_slice.ensures (added_given lv copies added next a planned b c.in_ok-add.ensures.ends);
      settled = λ takes. c.in_ok-add.ensures.ends.settled;
      held = c.in_ok-add.ensures.held;
      fresh = c.in_ok-add.ensures.fresh;
      leaves = added_leaves lv copies added next a planned c.args.patience.now.left c.add.new.patience.left b c.add.ensures.leaves;
    }
