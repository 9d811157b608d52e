use Rattle.std.proofs.Common.{◌≡◌, ◌≤◌, refl, sym, ◌∙◌, subst, arith}
use Rattle.lvm_session.specs.declared.open.Power.TheVariants as power
use Rattle.lvm_session.specs.State.{state_of}
use Rattle.lvm_group_lines.specs.declared.reply.Reply.{Reply}
use Rattle.lvm_group_lines.specs.Replies.{most_refusals}
use Rattle.lvm_group_lines.proofs.passed.Tie.{goes_any, path_frames}
use Rattle.lvm_range_lines.specs.Stepping.{StepDoes, Steps, step_reply}
use Rattle.lvm_range_lines.proofs.LeavingLemmas.Ending.{RunsTo, carried_ends, carried_leaves, runs_to, unstuck}
use Rattle.lvm_range_lines.proofs.LeavingLemmas.Posting.{table_posts}
use Rattle.lvm_range_lines.proofs.RepliesLemmas.{carried_by}
use Rattle.lvm_range_lines.proofs.SteppingLemmas.{step_few, step_heard, step_stops}
use Rattle.lvm_range_lines.proofs.stepping.step_on.Goals as goal

pub step-moved-requires : goal.step-moved-requires
step-moved-requires g c = record { unstuck = λ stuck. let e : power.On ≡ power.Stuck = sym c.requires.on ∙ stuck in cc e }

pub returns : goal.returns
returns g c = λ bytes posts fits between stage left.
    let device = g.S.Shelf.device in
    let first = c.args.driver.now in
    let end = c.step-moved.new.driver in
    let made = c.step-moved.ensures in
    let moved = c.step-moved.result.0 in
    let how = c.step-moved.result.1 in
    let answer = c.step_reply.result in
    let says = c.step_reply.ensures.reply in
    let to : RunsTo device first end = runs_to device first end made.runs c.step_reply.ensures.sound in
    let carried = carried_by device end posts bytes answer (step_reply moved (state_of device end) how) stage says (step_heard moved (state_of device end) how) left.comes in
    let one : most_refusals answer ≤ 1 = subst (λ (a : Reply). most_refusals a ≤ 1) (sym says) (step_few moved (state_of device end) how) in
    let stood = table_posts first.1 end.1 made.table posts.items between.posted in
    carried_ends device first posts bytes fits between end to (λ log. StepDoes c.args.turns) posts bytes fits.rooms stage answer
    (omega (arith, one))
    (λ last. Steps first.1 refl fits.kind (record {
      end = state_of device end;
      moved = moved;
      how = how;
      ends = made.ends;
      stops = step_stops c.args.turns moved (state_of device first) (state_of device end) how made.ends;
      votes = made.votes;
      runs = made.runs;
      sound = c.step_reply.ensures.sound;
      leaves = carried_leaves device end posts bytes stage last stood carried;
      says = says;
    }))
    stood (left.rooms first.1.history.room fits.rooms) (λ on. (path_frames made.runs).copy between.session.copy) (unstuck device first posts bytes fits between end (goes_any made.runs)) carried
