use Rattle.std.proofs.Common.{◌≡◌, ℕ, sym, ◌∙◌, ap, subst, Some}
use Rattle.lvm_session.specs.State.{Core, state, state_of}
use Rattle.lvm_group_lines.specs.passed.Tie.{RunsOn}
use Rattle.lvm_group_lines.specs.passed.Handover.{with_taken}
use Rattle.lvm_group_lines.proofs.passed.Handover.{stays_beside}
use Rattle.lvm_range_lines.specs.Taking.{LeavesOthers}
use Rattle.lvm_range_lines.specs.Waiting.{OfEarlier, OfThis}
use Rattle.lvm_range_lines.proofs.TakingLemmas.Takings.{answered_of, earlier_leaves, gone_of, others_leave}
use Rattle.lvm_range_lines.proofs.waiting.take_one.Goals as goal

pub take_earlier-requires-clause-answered : goal.take_earlier-requires-clause-answered
take_earlier-requires-clause-answered g c = answered_of c.args.driver.1.history.facts (Some c.args.driver.1) c.args.post.now (c.in-Some.have, c.in-Some.total) c.in-Some.is c.requires.posted

pub take_earlier-requires-clause-gone : goal.take_earlier-requires-clause-gone
take_earlier-requires-clause-gone g c = gone_of c.args.driver.1 c.args.post.now (c.in-Some.have, c.in-Some.total) c.in-Some.is c.requires.posted

pub returns-in-Some : goal.returns-in-Some
returns-in-Some g c =
    let device = g.S.Shelf.device in
    let core = c.args.driver.1 in
    let asked = c.args.post.now.asked in
    let made = c.take_earlier.ensures in
    let votes : ℕ × ℕ = (c.in-Some.have, c.in-Some.total) in
    let answered = answered_of core.history.facts (Some core) c.args.post.now votes c.in-Some.is c.requires.posted in
    let beside = stays_beside (state_of device c.args.driver) asked c.is_sound.ensures answered (gone_of core c.args.post.now votes c.in-Some.is c.requires.posted) in
    let same : state_of device c.take_earlier.result.0 ≡ state (device c.args.driver.0) (with_taken asked core) =
    ap (λ (s : g.row.S.Denot). state (device s) c.take_earlier.result.0.1) made.shelf ∙ ap (λ (k : Core). state (device c.args.driver.0) k) made.core in
    record {
      takes = OfEarlier c.in-Some.have c.in-Some.total c.in-Some.is same made.ends;
      left = subst (λ (k : Core). LeavesOthers asked core k) (sym made.core) (earlier_leaves core asked answered);
      runs = subst (RunsOn (state_of device c.args.driver)) (sym same) (beside.runs c.requires.on);
      on = ap (λ (k : Core). k.power) made.core ∙ c.requires.on;
    }

pub take_range-answer-requires-clause-held : goal.take_range-answer-requires-clause-held
take_range-answer-requires-clause-held g c = c.requires.posted.held c.in-None.is

pub take_range-answer-requires-clause-landed : goal.take_range-answer-requires-clause-landed
take_range-answer-requires-clause-landed g c = c.requires.landed c.in-None.is

pub returns-in-None : goal.returns-in-None
returns-in-None g c =
    let made = c.take_range-answer.ensures in
    record {
      takes = OfThis c.in-None.is made.gives;
      left = others_leave c.args.post.now.asked c.args.driver.1 c.take_range-answer.new.driver.1 made.others;
      runs = made.runs;
      on = made.gives.power_is ∙ c.requires.on;
    }
