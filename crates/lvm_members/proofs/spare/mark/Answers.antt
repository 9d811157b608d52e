use Rattle.std.proofs.Common.{ℕ}
use Rattle.lvm_num.specs.declared.descriptor.Descriptor.{Descriptor}
use Rattle.lvm_session.specs.State.{State, state}
use Rattle.lvm_core.specs.Settled.{IsSettled}
use Rattle.lvm_volumes.specs.Endings.{StillHeld, KeepsFresh}
use Rattle.lvm_volumes.proofs.StagesLemmas.Entering.{has_numbers}
use Rattle.lvm_members.proofs.HoldingLemmas.{rule_fresh, rule_still}
use Rattle.lvm_members.proofs.RulesLemmas.{only_records}
use Rattle.lvm_members.proofs.SparesLemmas.{marks_change, spare_ends, spare_on}
use Rattle.lvm_members.proofs.spare.mark.Goals as goal

pub make_change-driver-requires-clause-numbers : goal.make_change-driver-requires-clause-numbers
make_change-driver-requires-clause-numbers g c = has_numbers c.args.driver.1 c.requires.marked.group c.requires.marked.room

pub make_change-driver-requires-clause-may : goal.make_change-driver-requires-clause-may
make_change-driver-requires-clause-may g c = marks_change c.args.next.next c.args.driver.1 c.requires.settled c.requires.marked

pub answer_of-told-requires : goal.answer_of-told-requires
answer_of-told-requires g c =
    only_records c.args.next.next c.args.patience.now.left (state (g.S.Shelf.device c.args.driver.0) c.args.driver.1) (state (g.S.Shelf.device c.make_change-driver.result.0.0) c.make_change-driver.result.0.1) c.make_change-driver.result.1
    c.make_change-driver.ensures.ends

pub returns : goal.returns
returns g c =
    let old : State = state (g.S.Shelf.device c.args.driver.0) c.args.driver.1 in
    let new : State = state (g.S.Shelf.device c.make_change-driver.result.0.0) c.make_change-driver.result.0.1 in
    let next : Descriptor = c.args.next.next in
    let p : ℕ = c.args.patience.now.left in
    let q : ℕ = c.make_change-driver.new.patience.left in
    let e = c.make_change-driver.ensures in
    let told = c.answer_of-told.result in
    let may = marks_change next c.args.driver.1 c.requires.settled c.requires.marked in
    let ends = spare_ends next p old new c.make_change-driver.result.1 told e.ends c.answer_of-told.ensures in
    record {
      ends = ends;
      settled = spare_on next p old new (IsSettled new.core) (λ done. done.settled) told ends;
      held = spare_on next p old new (StillHeld old new) (rule_still next p q old new may e.left e.leaves) told ends;
      fresh = spare_on next p old new (KeepsFresh old new) (rule_fresh next p q old new may e.left e.leaves) told ends;
      leaves = e.leaves;
    }
