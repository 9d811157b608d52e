use Rattle.std.proofs.Common.{ℕ}
use Rattle.lvm_num.specs.declared.descriptor.Descriptor.{Descriptor}
use Rattle.lvm_change_laws.proofs.RuleLemmas.{rule_is_change}
use Rattle.lvm_session.specs.State.{State, is_there, state}
use Rattle.lvm_core.specs.Settled.{IsSettled}
use Rattle.lvm_volumes.specs.Endings.{StillHeld, KeepsFresh}
use Rattle.lvm_volumes.proofs.StagesLemmas.Entering.{has_numbers}
use Rattle.lvm_members.proofs.HoldingLemmas.{rule_fresh, rule_still}
use Rattle.lvm_members.proofs.RulesLemmas.{only_records, rule_gives, rule_on}
use Rattle.lvm_members.proofs.rules.by_turn.Goals as goal

pub make_change-driver-requires-clause-numbers : goal.make_change-driver-requires-clause-numbers
make_change-driver-requires-clause-numbers g c = has_numbers c.args.driver.1 c.requires.group c.requires.may.room

pub make_change-driver-requires-clause-may : goal.make_change-driver-requires-clause-may
make_change-driver-requires-clause-may g c = rule_is_change c.args.driver.1.descriptor c.args.next.next (is_there c.args.driver.1) c.requires.may.rule

pub answer_of-told-requires : goal.answer_of-told-requires
answer_of-told-requires g c =
    only_records c.args.next.next c.args.patience.now.left (state (g.S.Shelf.device c.args.driver.0) c.args.driver.1) (state (g.S.Shelf.device c.make_change-driver.result.0.0) c.make_change-driver.result.0.1) c.make_change-driver.result.1
    c.make_change-driver.ensures.ends

pub returns : goal.returns
returns g c =
    let old : State = state (g.S.Shelf.device c.args.driver.0) c.args.driver.1 in
    let new : State = state (g.S.Shelf.device c.make_change-driver.result.0.0) c.make_change-driver.result.0.1 in
    let next : Descriptor = c.args.next.next in
    let p : ℕ = c.args.patience.now.left in
    let q : ℕ = c.make_change-driver.new.patience.left in
    let e = c.make_change-driver.ensures in
    let answer = c.make_change-driver.result.1 in
    let told = c.answer_of-told.result in
    record {
      gives = rule_gives next p old new c.requires.may answer told e.ends c.answer_of-told.ensures;
      settled = rule_on next p old new c.requires.may (IsSettled new.core) (λ done. done.settled) answer told e.ends c.answer_of-told.ensures;
      held = rule_on next p old new c.requires.may (StillHeld old new) (rule_still next p q old new (rule_is_change old.core.descriptor next (is_there old.core) c.requires.may.rule) e.left e.leaves) answer told e.ends c.answer_of-told.ensures;
      fresh = rule_on next p old new c.requires.may (KeepsFresh old new) (rule_fresh next p q old new (rule_is_change old.core.descriptor next (is_there old.core) c.requires.may.rule) e.left e.leaves) answer told e.ends c.answer_of-told.ensures;
      leaves = e.leaves;
    }
