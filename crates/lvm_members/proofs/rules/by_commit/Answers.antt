use Rattle.std.proofs.Common.{ℕ, [], ap}
use Rattle.lvm_num.specs.declared.descriptor.Descriptor.{Descriptor}
use Rattle.lvm_change_laws.proofs.RuleLemmas.{rule_is_change}
use Rattle.lvm_session.specs.State.{State, is_there, state}
use Rattle.lvm_core.specs.Settled.{IsSettled}
use Rattle.lvm_volumes.specs.Endings.{StillHeld, KeepsFresh}
use Rattle.lvm_volumes.proofs.StagesLemmas.Entering.{has_numbers}
use Rattle.lvm_members.proofs.HoldingLemmas.{rule_fresh, rule_still}
use Rattle.lvm_members.proofs.RulesLemmas.{only_records, rule_gives, rule_on, same_ends, same_leaves}
use Rattle.lvm_members.proofs.rules.by_commit.Goals as goal

pub commit-answer-requires-clause-numbers : goal.commit-answer-requires-clause-numbers
commit-answer-requires-clause-numbers g c = has_numbers c.args.driver.1 c.requires.group c.requires.may.room

pub commit-answer-requires-clause-alike : goal.commit-answer-requires-clause-alike
commit-answer-requires-clause-alike g c = ap (λ (d : Descriptor). record d { lvs = [] }) c.requires.same

pub answer_of-told-requires : goal.answer_of-told-requires
answer_of-told-requires g c =
    let old : State = state (g.S.Shelf.device c.args.driver.0) c.args.driver.1 in
    let new : State = state (g.S.Shelf.device c.commit-answer.new.self.0) c.commit-answer.new.self.1 in
    let p : ℕ = c.args.patience.now.left in
    let q : ℕ = c.commit-answer.new.patience.left in
    let e = c.commit-answer.ensures in
    only_records c.args.next p old new c.commit-answer.result (same_ends c.args.next p q old new c.requires.same e.leaves c.requires.group c.commit-answer.result e.ends)

pub returns : goal.returns
returns g c =
    let old : State = state (g.S.Shelf.device c.args.driver.0) c.args.driver.1 in
    let new : State = state (g.S.Shelf.device c.commit-answer.new.self.0) c.commit-answer.new.self.1 in
    let next : Descriptor = c.args.next in
    let p : ℕ = c.args.patience.now.left in
    let q : ℕ = c.commit-answer.new.patience.left in
    let e = c.commit-answer.ensures in
    let answer = c.commit-answer.result in
    let told = c.answer_of-told.result in
    let ends = same_ends next p q old new c.requires.same e.leaves c.requires.group answer e.ends in
    let leaves = same_leaves next p q old new c.requires.same e.leaves in
    record {
      gives = rule_gives next p old new c.requires.may answer told ends c.answer_of-told.ensures;
      settled = rule_on next p old new c.requires.may (IsSettled new.core) (λ done. done.settled) answer told ends c.answer_of-told.ensures;
      held = rule_on next p old new c.requires.may (StillHeld old new) (rule_still next p q old new (rule_is_change old.core.descriptor next (is_there old.core) c.requires.may.rule) e.left leaves) answer told ends c.answer_of-told.ensures;
      fresh = rule_on next p old new c.requires.may (KeepsFresh old new) (rule_fresh next p q old new (rule_is_change old.core.descriptor next (is_there old.core) c.requires.may.rule) e.left leaves) answer told ends c.answer_of-told.ensures;
      leaves = leaves;
    }
