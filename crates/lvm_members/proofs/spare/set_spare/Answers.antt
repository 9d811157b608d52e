use Rattle.std.proofs.Common.{ℕ, subst, inl, refl, []}
use Rattle.std.specs.Prelude.{Err}
use Rattle.lvm_num.specs.declared.descriptor.Descriptor.{Descriptor}
use Rattle.lvm_session.specs.State.{State, state}
use Rattle.lvm_core.specs.Settled.{IsSettled}
use Rattle.lvm_change.specs.Spare.{with_spare}
use Rattle.lvm_turnover.specs.Changing.{IsNext, ChangeLeaves}
use Rattle.lvm_volumes.specs.Endings.{StillHeld, KeepsFresh}
use Rattle.lvm_volumes.proofs.EndingsLemmas.Fresh.{keeps_none}
use Rattle.lvm_volumes.proofs.EndingsLemmas.Holding.{still_none}
use Rattle.lvm_members.specs.Spares.{SpareEnds}
use Rattle.lvm_members.proofs.RulesLemmas.{leaves_here}
use Rattle.lvm_members.proofs.SparesLemmas.{refused_on, spare_gives}
use Rattle.lvm_members.proofs.spare.set_spare.Goals as goal

pub mark-requires-clause-settled : goal.mark-requires-clause-settled
mark-requires-clause-settled g c = c.requires.settled c.in-Ok.ensures.planned.may.may.takes

pub returns-in-Ok : goal.returns-in-Ok
returns-in-Ok g c =
    let old : State = state (g.S.Shelf.device c.args.driver.0) c.args.driver.1 in
    let new : State = state (g.S.Shelf.device c.mark.result.driver.0) c.mark.result.driver.1 in
    let p : ℕ = c.args.patience.now.left in
    let q : ℕ = c.mark.new.patience.left in
    let planned = c.in-Ok.ensures.planned in
    let e = c.mark.ensures in
    record {
      gives = spare_gives c.args.disk c.args.on p old new c.mark.result.answer planned.may (subst (λ (d : Descriptor). SpareEnds d p old new c.mark.result.answer) planned.next e.ends);
      settled = λ takes. e.settled;
      held = e.held;
      fresh = e.fresh;
      leaves = subst (λ (d : Descriptor). ChangeLeaves (IsNext d) [] [] p q old new) planned.next e.leaves;
    }

pub returns-in-Err : goal.returns-in-Err
returns-in-Err g c =
    let s : State = state (g.S.Shelf.device c.args.driver.0) c.args.driver.1 in
    let why = c.in-Err.fault in
    record {
      gives = inl (refl, c.in-Err.ensures.refused);
      settled = λ takes. refused_on why (IsSettled s.core) (c.requires.settled takes);
      held = refused_on why (StillHeld s s) (still_none s);
      fresh = refused_on why (KeepsFresh s s) (keeps_none s);
      leaves = leaves_here (with_spare c.args.disk c.args.on c.args.driver.1.descriptor) c.args.patience.now.left s;
    }
