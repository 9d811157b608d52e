use Rattle.std.proofs.Common.{Err}
use Rattle.std.proofs.lemmas.Result.{err_from_is_err_and}
use Rattle.lvm_num.specs.declared.descriptor.Descriptor.{Descriptor}
use Rattle.lvm_volume_plan.specs.passed.Core.{CommitFault, state_of, IsSettled, HasCommitted}
use Rattle.lvm_volume_plan.specs.declared.fault.GroupFault.{GroupFault}
use Rattle.lvm_session.specs.State.{State}
use Rattle.lvm_volumes.specs.Endings.{StillHeld, KeepsFresh}
use Rattle.lvm_volumes.proofs.VolumesLemmas.{always_on}
use Rattle.lvm_volumes.proofs.StagesLemmas.Breaking.{broken, stopped}
use Rattle.lvm_volumes.proofs.StagesLemmas.Entering.{has_numbers}
use Rattle.lvm_volumes.proofs.EndingsLemmas.Fresh.{keeps_none}
use Rattle.lvm_volumes.proofs.EndingsLemmas.Holding.{still_none}
use Rattle.lvm_volumes.proofs.Leaving.{leaves_none}
use Rattle.lvm_volume_plan.specs.PlannedCopies.{IsWithFewer}
use Rattle.lvm_volumes.specs.Mirrors.{to_take}
use Rattle.lvm_volumes.proofs.MirrorsLemmas.Answering.{refused_fewer, taking_fails}
use Rattle.lvm_volumes.proofs.MirrorsLemmas.Taking.{take_alike, take_leaves, take_still, take_keeps, taken}
use Rattle.lvm_volumes.proofs.copies.rmlvcopy.Goals as goal

pub returns-in_err-fewer : goal.returns-in_err-fewer
returns-in_err-fewer g c =
    let s : State = state_of g.S.Shelf.device c.args.driver.now in
    let p = c.args.patience.now.left in
    let why : GroupFault = c.in_err-fewer.field-0.0 in
    let e = err_from_is_err_and c.from_residual.result c.from_residual.ensures.1 in
    rw (e.1, e.2) (record {
      gives = refused_fewer c.args.lv c.args.copies p s why c.in_err-fewer.ensures.refused;
      settled = λ takes. always_on {A = Unit {0}} (Err why) (IsSettled s.core) (c.requires.settled takes);
      held = always_on {A = Unit {0}} (Err why) (StillHeld s s) (still_none s);
      fresh = always_on {A = Unit {0}} (Err why) (KeepsFresh s s) (keeps_none s);
      leaves = leaves_none (to_take c.args.lv c.args.copies s.core) p s;
    })

pub commit-requires-clause-settled : goal.commit-requires-clause-settled
commit-requires-clause-settled g c = c.requires.settled c.in_ok-fewer.ensures.fewer.may.keeps.shrinks.found.takes

pub commit-requires-clause-numbers : goal.commit-requires-clause-numbers
commit-requires-clause-numbers g c = has_numbers c.args.driver.now.1 c.in_ok-fewer.ensures.fewer.group c.in_ok-fewer.ensures.fewer.may.room

pub commit-requires-clause-alike : goal.commit-requires-clause-alike
commit-requires-clause-alike g c = take_alike c.args.lv c.args.copies c.in_ok-fewer.fewer c.args.driver.now.1 c.in_ok-fewer.ensures.fewer

pub returns-in_err-commit : goal.returns-in_err-commit
returns-in_err-commit g c =
    let lv = c.args.lv in
    let copies = c.args.copies in
    let next : Descriptor = c.in_ok-fewer.fewer in
    let a : State = state_of g.S.Shelf.device c.args.driver.now in
    let b : State = state_of g.S.Shelf.device c.commit.new.self in
    let plan : IsWithFewer lv copies a.core next = c.in_ok-fewer.ensures.fewer in
    let settled = c.requires.settled plan.may.keeps.shrinks.found.takes in
    let p = c.args.patience.now.left in
    let why : CommitFault = c.in_err-commit.field-0.0 in
    let ends = c.in_err-commit.ensures.ends in
    let e = err_from_is_err_and c.from_residual-in_err-commit.result c.from_residual-in_err-commit.ensures.1 in
    rw (e.1, e.2) (record {
      gives = taking_fails lv copies next a plan p b why (broken (HasCommitted next a b) p a b settled why ends);
      settled = λ takes. stopped (HasCommitted next a b) (IsSettled b.core) p a b why ends;
      held = stopped (HasCommitted next a b) (StillHeld a b) p a b why ends;
      fresh = stopped (HasCommitted next a b) (KeepsFresh a b) p a b why ends;
      leaves = take_leaves lv copies next a plan settled p c.commit.new.patience.left b c.commit.ensures.leaves;
    })

pub returns : goal.returns
returns g c =
    let lv = c.args.lv in
    let copies = c.args.copies in
    let next : Descriptor = c.in_ok-fewer.fewer in
    let a : State = state_of g.S.Shelf.device c.args.driver.now in
    let b : State = state_of g.S.Shelf.device c.commit.new.self in
    let plan : IsWithFewer lv copies a.core next = c.in_ok-fewer.ensures.fewer in
    let settled = c.requires.settled plan.may.keeps.shrinks.found.takes in
    let p = c.args.patience.now.left in
    let q = c.commit.new.patience.left in
    let done : HasCommitted next a b = c.in_ok-commit.ensures.ends in
    record {
      gives = taken lv copies next a plan b done;
      settled = λ takes. done.stated.settled;
      held = take_still lv copies next a plan p q b c.commit.ensures.leaves c.commit.ensures.left done;
      fresh = take_keeps lv copies next a plan settled b c.commit.ensures.left done;
      leaves = take_leaves lv copies next a plan settled p q b c.commit.ensures.leaves;
    }
