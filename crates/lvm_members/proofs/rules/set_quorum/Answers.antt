use Rattle.std.proofs.Common.{ℕ, subst, []}
use Rattle.std.specs.Prelude.{Err}
use Rattle.lvm_num.specs.declared.descriptor.Descriptor.{Descriptor}
use Rattle.lvm_session.specs.State.{State, state}
use Rattle.lvm_core.specs.Settled.{IsSettled}
use Rattle.lvm_change.specs.Rule.{with_quorum}
use Rattle.lvm_turnover.specs.Changing.{IsNext, ChangeLeaves}
use Rattle.lvm_volumes.specs.Endings.{StillHeld, KeepsFresh}
use Rattle.lvm_volumes.proofs.EndingsLemmas.Fresh.{keeps_none}
use Rattle.lvm_volumes.proofs.EndingsLemmas.Holding.{still_none}
use Rattle.lvm_members.specs.declared.plan.Plan.TheVariants as plan
use Rattle.lvm_members.specs.Commands.{IsPlanFor, RuleGives}
use Rattle.lvm_members.proofs.RulesLemmas.{leaves_here, refused_gives, here_on}
use Rattle.lvm_members.proofs.rules.set_quorum.Goals as goal

pub returns-in-Ok-Turn : goal.returns-in-Ok-Turn
returns-in-Ok-Turn g c =
    let old : State = state (g.S.Shelf.device c.args.driver.0) c.args.driver.1 in
    let new : State = state (g.S.Shelf.device c.by_turn.result.driver.0) c.by_turn.result.driver.1 in
    let p : ℕ = c.args.patience.now.left in
    let q : ℕ = c.by_turn.new.patience.left in
    let planned : IsPlanFor (with_quorum c.args.on c.args.driver.1.descriptor) c.args.driver.1 (plan.Turn c.in-Ok-Turn.next) = subst (IsPlanFor (with_quorum c.args.on c.args.driver.1.descriptor) c.args.driver.1) c.in-Ok-Turn.field-0-is c.in-Ok-Turn.ensures.planned in
    let e = c.by_turn.ensures in
    record {
      gives = subst (λ (d : Descriptor). RuleGives d p old new c.by_turn.result.answer) planned.2 e.gives;
      settled = λ takes. e.settled;
      held = e.held;
      fresh = e.fresh;
      leaves = subst (λ (d : Descriptor). ChangeLeaves (IsNext d) [] [] p q old new) planned.2 e.leaves;
    }

pub returns-in-Ok-Same : goal.returns-in-Ok-Same
returns-in-Ok-Same g c =
    let old : State = state (g.S.Shelf.device c.args.driver.0) c.args.driver.1 in
    let new : State = state (g.S.Shelf.device c.by_commit.result.driver.0) c.by_commit.result.driver.1 in
    let p : ℕ = c.args.patience.now.left in
    let q : ℕ = c.by_commit.new.patience.left in
    let planned : IsPlanFor (with_quorum c.args.on c.args.driver.1.descriptor) c.args.driver.1 (plan.Same c.in-Ok-Same.next) = subst (IsPlanFor (with_quorum c.args.on c.args.driver.1.descriptor) c.args.driver.1) c.in-Ok-Same.field-0-is c.in-Ok-Same.ensures.planned in
    let e = c.by_commit.ensures in
    record {
      gives = subst (λ (d : Descriptor). RuleGives d p old new c.by_commit.result.answer) planned.2 e.gives;
      settled = λ takes. e.settled;
      held = e.held;
      fresh = e.fresh;
      leaves = subst (λ (d : Descriptor). ChangeLeaves (IsNext d) [] [] p q old new) planned.2 e.leaves;
    }

pub returns-in-Err : goal.returns-in-Err
returns-in-Err g c =
    let s : State = state (g.S.Shelf.device c.args.driver.0) c.args.driver.1 in
    let next : Descriptor = with_quorum c.args.on c.args.driver.1.descriptor in
    let why = c.in-Err.fault in
    let p : ℕ = c.args.patience.now.left in
    record {
      gives = refused_gives next p s why c.in-Err.ensures.refused;
      settled = λ takes. here_on (Err why) (IsSettled s.core) (c.requires.settled takes);
      held = here_on (Err why) (StillHeld s s) (still_none s);
      fresh = here_on (Err why) (KeepsFresh s s) (keeps_none s);
      leaves = leaves_here next p s;
    }
