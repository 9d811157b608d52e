use Rattle.std.proofs.Common.{◌≡◌, ℕ, Bool, true, false, sym, subst, ◌∙◌, ap, []}
use Rattle.std.specs.Prelude.{MatchBool, Err}
use Rattle.lvm_num.specs.declared.descriptor.Descriptor.{Descriptor}
use Rattle.lvm_session.specs.State.{State, state}
use Rattle.lvm_core.specs.Settled.{IsSettled}
use Rattle.lvm_change.specs.Rule.{as_big}
use Rattle.lvm_turnover.specs.Changing.{IsNext, ChangeLeaves}
use Rattle.lvm_volumes.specs.Endings.{StillHeld, KeepsFresh}
use Rattle.lvm_volumes.proofs.EndingsLemmas.Fresh.{keeps_none}
use Rattle.lvm_volumes.proofs.EndingsLemmas.Holding.{still_none}
use Rattle.lvm_members.specs.declared.plan.Plan.TheVariants as plan
use Rattle.lvm_members.specs.Commands.{IsPlanFor, NothingGives, RuleGives}
use Rattle.lvm_members.proofs.RulesLemmas.{leaves_here, refused_gives, here_on}
use Rattle.lvm_members.proofs.rules.make_big.Goals as goal

pub returns-then-descriptor : goal.returns-then-descriptor
returns-then-descriptor g c =
    let s : State = state (g.S.Shelf.device c.args.driver.0) c.args.driver.1 in
    let p : ℕ = c.args.patience.now.left in
    let big : c.args.driver.1.descriptor.big ≡ true = sym (ap (λ (d : Descriptor). d.big) c.descriptor.ensures.same) ∙ c.if-descriptor.true in
    let answer = c.stays-answer.result in
    record {
      gives = subst (λ (b : Bool). MatchBool b (NothingGives s s answer) (RuleGives (as_big s.core.descriptor) p s s answer)) (sym big) c.stays-answer.ensures;
      settled = λ takes. here_on answer (IsSettled s.core) (c.requires.settled takes);
      held = here_on answer (StillHeld s s) (still_none s);
      fresh = here_on answer (KeepsFresh s s) (keeps_none s);
      leaves = leaves_here (as_big s.core.descriptor) p s;
    }

pub returns-in-Ok-Turn : goal.returns-in-Ok-Turn
returns-in-Ok-Turn g c =
    let old : State = state (g.S.Shelf.device c.args.driver.0) c.args.driver.1 in
    let new : State = state (g.S.Shelf.device c.by_turn.result.driver.0) c.by_turn.result.driver.1 in
    let p : ℕ = c.args.patience.now.left in
    let q : ℕ = c.by_turn.new.patience.left in
    let small : c.args.driver.1.descriptor.big ≡ false = sym (ap (λ (d : Descriptor). d.big) c.descriptor.ensures.same) ∙ c.if-descriptor.false in
    let planned : IsPlanFor (as_big c.args.driver.1.descriptor) c.args.driver.1 (plan.Turn c.in-Ok-Turn.next) = subst (IsPlanFor (as_big c.args.driver.1.descriptor) c.args.driver.1) c.in-Ok-Turn.field-0-is c.in-Ok-Turn.ensures.planned in
    let e = c.by_turn.ensures in
    record {
      gives = subst (λ (b : Bool). MatchBool b (NothingGives old new c.by_turn.result.answer) (RuleGives (as_big old.core.descriptor) p old new c.by_turn.result.answer)) (sym small) (subst (λ (d : Descriptor). RuleGives d p old new c.by_turn.result.answer) planned.2 e.gives);
      settled = λ takes. e.settled;
      held = e.held;
      fresh = e.fresh;
      leaves = subst (λ (d : Descriptor). ChangeLeaves (IsNext d) [] [] p q old new) planned.2 e.leaves;
    }

pub returns-in-Ok-Same : goal.returns-in-Ok-Same
returns-in-Ok-Same g c =
    let old : State = state (g.S.Shelf.device c.args.driver.0) c.args.driver.1 in
    let new : State = state (g.S.Shelf.device c.by_commit.result.driver.0) c.by_commit.result.driver.1 in
    let p : ℕ = c.args.patience.now.left in
    let q : ℕ = c.by_commit.new.patience.left in
    let small : c.args.driver.1.descriptor.big ≡ false = sym (ap (λ (d : Descriptor). d.big) c.descriptor.ensures.same) ∙ c.if-descriptor.false in
    let planned : IsPlanFor (as_big c.args.driver.1.descriptor) c.args.driver.1 (plan.Same c.in-Ok-Same.next) = subst (IsPlanFor (as_big c.args.driver.1.descriptor) c.args.driver.1) c.in-Ok-Same.field-0-is c.in-Ok-Same.ensures.planned in
    let e = c.by_commit.ensures in
    record {
      gives = subst (λ (b : Bool). MatchBool b (NothingGives old new c.by_commit.result.answer) (RuleGives (as_big old.core.descriptor) p old new c.by_commit.result.answer)) (sym small) (subst (λ (d : Descriptor). RuleGives d p old new c.by_commit.result.answer) planned.2 e.gives);
      settled = λ takes. e.settled;
      held = e.held;
      fresh = e.fresh;
      leaves = subst (λ (d : Descriptor). ChangeLeaves (IsNext d) [] [] p q old new) planned.2 e.leaves;
    }

pub returns-in-Err : goal.returns-in-Err
returns-in-Err g c =
    let s : State = state (g.S.Shelf.device c.args.driver.0) c.args.driver.1 in
    let next : Descriptor = as_big c.args.driver.1.descriptor in
    let why = c.in-Err.fault in
    let p : ℕ = c.args.patience.now.left in
    let small : c.args.driver.1.descriptor.big ≡ false = sym (ap (λ (d : Descriptor). d.big) c.descriptor.ensures.same) ∙ c.if-descriptor.false in
    record {
      gives = subst (λ (b : Bool). MatchBool b (NothingGives s s (Err why)) (RuleGives next p s s (Err why))) (sym small) (refused_gives next p s why c.in-Err.ensures.refused);
      settled = λ takes. here_on (Err why) (IsSettled s.core) (c.requires.settled takes);
      held = here_on (Err why) (StillHeld s s) (still_none s);
      fresh = here_on (Err why) (KeepsFresh s s) (keeps_none s);
      leaves = leaves_here next p s;
    }
