use Rattle.std.proofs.Common.{◌-◌, subst}
use Rattle.std.specs.Prelude.{Result}
use Rattle.lvm_disk.specs.Counts.{RoseBy}
use Rattle.lvm_session.specs.State.{state_of}
use Rattle.lvm_posts.specs.declared.fault.RangeFault.{RangeFault}
use Rattle.lvm_group_lines.specs.passed.Ranges.{FinishGives}
use Rattle.lvm_group_lines.proofs.passed.Ranges.{ended_well, reads_on}
use Rattle.lvm_range_lines.proofs.requests.read_reply.Goals as goal

pub returns-in-Ok : goal.returns-in-Ok
returns-in-Ok g c =
    let device = g.S.Shelf.device in
    let left = c.finish_range.new.patience.left in
    record {
      finishes = (
        left,
        subst (λ (r : Result (Unit {0}) RangeFault). FinishGives c.args.asked.now left (state_of device c.args.driver.now) (state_of device c.finish_range.new.driver) r) c.in-Ok.is c.finish_range.ensures.gives,
        subst (λ n. RoseBy (n - left) (device c.args.driver.now.0).counts.waits (device c.finish_range.new.driver.0).counts.waits) c.whole-patience.ensures c.in-Ok.ensures.spends.waits,
      );
      others = c.in-Ok.ensures.others;
      runs = c.in-Ok.ensures.runs;
      reply = c.blocks_reply.ensures;
    }

pub returns-in-Err : goal.returns-in-Err
returns-in-Err g c =
    let device = g.S.Shelf.device in
    let left = c.finish_range.new.patience.left in
    record {
      finishes = (
        left,
        subst (λ (r : Result (Unit {0}) RangeFault). FinishGives c.args.asked.now left (state_of device c.args.driver.now) (state_of device c.finish_range.new.driver) r) c.in-Err.is c.finish_range.ensures.gives,
        subst (λ n. RoseBy (n - left) (device c.args.driver.now.0).counts.waits (device c.finish_range.new.driver.0).counts.waits) c.whole-patience.ensures c.in-Err.ensures.spends.waits,
      );
      others = c.in-Err.ensures.others;
      runs = c.in-Err.ensures.runs;
      reply = tt;
    }

pub blocks_reply-requires-clause-read : goal.blocks_reply-requires-clause-read
blocks_reply-requires-clause-read g c = reads_on c.args.driver.now.1 c.finish_range.new.driver.1 c.args.asked.now.first c.args.asked.now.place c.requires.read c.in-Ok.ensures.others.requests

pub blocks_reply-requires-clause-well : goal.blocks_reply-requires-clause-well
blocks_reply-requires-clause-well g c =
    let device = g.S.Shelf.device in
    let left = c.finish_range.new.patience.left in
    ended_well c.args.asked.now left (state_of device c.args.driver.now) (state_of device c.finish_range.new.driver)
    (subst (λ (r : Result (Unit {0}) RangeFault). FinishGives c.args.asked.now left (state_of device c.args.driver.now) (state_of device c.finish_range.new.driver) r) c.in-Ok.is c.finish_range.ensures.gives)
