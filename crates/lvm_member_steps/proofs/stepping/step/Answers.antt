use Rattle.std.proofs.Common.{◌≡◌, ℕ, ap, subst, ◌∙◌}
use Rattle.lvm_num.specs.declared.descriptor.Descriptor.{Descriptor}
use Rattle.lvm_num.specs.Disks.{has}
use Rattle.lvm_num.specs.Votes.{CanWrite, votes_in}
use Rattle.lvm_session.specs.declared.open.Power.TheVariants as power
use Rattle.lvm_session.specs.State.{State, state, is_there}
use Rattle.lvm_turnover.specs.Changing.{IsNext}
use Rattle.lvm_turnover.specs.Turning.{disks_leaving}
use Rattle.lvm_member_steps.proofs.OffLemmas.{off_leaves}
use Rattle.lvm_member_plan.proofs.VotesLemmas.{there_by}
use Rattle.lvm_member_steps.proofs.StepLemmas.{at_once, may_step, step_ends}
use Rattle.lvm_member_steps.proofs.stepping.step.Goals as goal

pub few_votes-requires : goal.few_votes-requires
few_votes-requires g c = c.requires.step.valid_next

pub turn_group-requires-clause-may : goal.turn_group-requires-clause-may
turn_group-requires-clause-may g c =
    let core = c.args.driver.1 in
    let there = there_by core (has c.members_there-there.result) c.descriptor.result.now c.table.result.now c.requires.settled c.members_there-there.ensures c.descriptor.ensures.same c.table.ensures in
    may_step (disks_leaving c.args.change.leaving) core.descriptor c.args.change.next (is_there core) c.requires.step c.requires.settled.votes (subst (CanWrite c.args.change.next) there c.in-None.ensures.enough)

pub returns-in-Some : goal.returns-in-Some
returns-in-Some g c =
    let core = c.args.driver.1 in
    let old : State = state (g.S.Shelf.device c.args.driver.0) core in
    let new : State = state (g.S.Shelf.device c.gone_off.result.0) c.gone_off.result.1 in
    let next : Descriptor = c.args.change.next in
    let p : ℕ = c.args.patience.now.left in
    let there = there_by core (has c.members_there-there.result) c.descriptor.result.now c.table.result.now c.requires.settled c.members_there-there.ensures c.descriptor.ensures.same c.table.ensures in
    let is : new ≡ record { device = old.device; core = record old.core { power = power.Off } } = λ t. state (g.S.Shelf.device (c.gone_off.ensures.shelf t)) (c.gone_off.ensures.core t) in
    let few = c.in-Some.ensures.few in
    record {
      ends = at_once c.args.change.leaving next p p old new c.requires.ready c.requires.step c.in-Some.have c.in-Some.total (record { have_is = few.0 ∙ ap (votes_in next) there; total_is = few.1; few = few.2; is = is });
      shown = tt;
      leaves = off_leaves 3 (IsNext next) (disks_leaving c.args.change.leaving) p old new is;
    }

pub returns-in-None : goal.returns-in-None
returns-in-None g c =
    let old : State = state (g.S.Shelf.device c.args.driver.0) c.args.driver.1 in
    let new : State = state (g.S.Shelf.device c.turn_group.result.0.0) c.turn_group.result.0.1 in
    let p : ℕ = c.args.patience.now.left in
    let q : ℕ = c.turn_group.new.patience.left in
    let e = c.turn_group.ensures in
    record {
      ends = step_ends c.args.change.leaving c.args.change.next p q old new c.requires.ready c.requires.step c.turn_group.result.1 e.left e.leaves e.sound e.ends;
      shown = e.shown;
      leaves = e.leaves;
    }
