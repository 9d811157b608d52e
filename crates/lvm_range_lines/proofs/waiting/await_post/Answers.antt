use Rattle.std.proofs.Common.{refl, arith}
use Rattle.lvm_session.specs.State.{state_of}
use Rattle.lvm_group_lines.proofs.passed.Tie.{runs_none}
use Rattle.lvm_group_lines.proofs.passed.Ranges.{table_same}
use Rattle.lvm_range_lines.specs.Taking.{IsGone}
use Rattle.lvm_range_lines.proofs.TakingLemmas.Awaiting.{awaits_range, no_wait}
use Rattle.lvm_range_lines.proofs.waiting.await_post.Goals as goal

pub returns-in-Some : goal.returns-in-Some
returns-in-Some g c = record {
  awaits = IsGone c.in-Some.field-0 c.in-Some.is refl refl;
  table = table_same c.args.driver.now.1;
  runs = runs_none (state_of g.S.Shelf.device c.args.driver.now);
  patience = omega arith;
  waited = no_wait c.args.patience.now.left (g.S.Shelf.device c.args.driver.now.0).counts.waits;
}

pub returns-in-None : goal.returns-in-None
returns-in-None g c =
    let made = c.await_range.ensures in
    let device = g.S.Shelf.device in
    record {
      awaits = awaits_range c.args.post.now c.await_range.new.patience.left (state_of device c.args.driver.now) (state_of device c.await_range.new.driver) c.await_range.result c.in-None.is made.turns made.ends;
      table = made.leaves.table;
      runs = made.leaves.runs;
      patience = made.spends.falls;
      waited = made.spends.waits;
    }
