use Rattle.std.proofs.Common.{◌*◌, ℕ, [], Option, None, IfSome, sym, subst, arith}
use Rattle.lvm_session.specs.State.{State, state}
use Rattle.lvm_turnover.specs.declared.change.Change.{Change}
use Rattle.lvm_turnover.specs.Changing.{LeavesWithin}
use Rattle.lvm_member_plan.specs.Descriptors.{IsReducedBy}
use Rattle.lvm_member_steps.specs.Steps.{HasStepped}
use Rattle.lvm_member_steps.proofs.ComingLemmas.{stands_same}
use Rattle.lvm_reduce.specs.Departures.{HasNumbersFor, IsTurnFrom, changes_of, next_of}
use Rattle.lvm_reduce.proofs.ChangesLemmas.{spare_numbers, turn_leaves}
use Rattle.lvm_reduce.proofs.leaving.change_if.Goals as goal

pub step-requires-clause-numbers : goal.step-requires-clause-numbers
step-requires-clause-numbers g c =
    let core = c.args.driver.1 in
    spare_numbers 1 core c.requires.group (omega arith) (subst (λ (o : Option Change). HasNumbersFor (changes_of o) core) c.in-Some.is c.requires.numbers)

pub returns-in-Some-clause-leaves : goal.returns-in-Some-clause-leaves
returns-in-Some-clause-leaves g c disks =
    let d = c.args.driver.1.descriptor in
    let p : ℕ = c.args.patience.now.left in
    let q : ℕ = c.step.new.patience.left in
    let old : State = state (g.S.Shelf.device c.args.driver.0) c.args.driver.1 in
    let new : State = state (g.S.Shelf.device c.step.result.0.0) c.step.result.0.1 in
    subst (λ (o : Option Change). LeavesWithin (3 * changes_of o) (IsReducedBy disks d) [] [] p q old new) (sym c.in-Some.is)
    (turn_leaves c.in-Some.change d (subst (λ (o : Option Change). IfSome o (IsTurnFrom d)) c.in-Some.is c.requires.turn) p q old new c.step.ensures.leaves disks)

pub returns-in-None-clause-ends : goal.returns-in-None-clause-ends
returns-in-None-clause-ends g c =
    let core = c.args.driver.1 in
    let old : State = state (g.S.Shelf.device c.args.driver.0) core in
    subst (λ (o : Option Change). HasStepped None (next_of o core.descriptor) old old) (sym c.in-None.is) (stands_same old c.requires.settled c.requires.group c.requires.ready)
