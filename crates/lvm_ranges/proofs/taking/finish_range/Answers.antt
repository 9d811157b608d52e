use Rattle.std.proofs.Common.{refl, sym, subst}
use Rattle.lvm_disk.specs.Device.{Device}
use Rattle.lvm_driver.specs.passed.Write.{Spends}
use Rattle.lvm_session.specs.State.{state_of}
use Rattle.lvm_driver.proofs.passed.Going.{runs_both}
use Rattle.lvm_ranges.specs.Finishing.{Finished, TakesBehind, TakesNone, WasStuck}
use Rattle.lvm_ranges.proofs.KeepingLemmas.Finishing.{others_stay, others_then, still_held}
use Rattle.lvm_ranges.proofs.taking.finish_range.Goals as goal

pub take_range-requires-clause-held : goal.take_range-requires-clause-held
take_range-requires-clause-held g c = still_held c.args.driver.now.1 c.await_range.new.driver.1 c.in-Ok.ensures.leaves.table c.args.asked.now c.requires.held

pub take_range-requires-clause-landed : goal.take_range-requires-clause-landed
take_range-requires-clause-landed g c = c.in-Ok.ensures.ends

pub returns-in-Ok : goal.returns-in-Ok
returns-in-Ok g c =
    let device = g.S.Shelf.device in
    let old = state_of device c.args.driver.now in
    let mid = state_of device c.await_range.new.driver in
    let new = state_of device c.take_range.new.driver in
    let waited = c.in-Ok.ensures in
    let took = c.take_range.ensures in
    record {
      gives = Finished mid waited.turns waited.leaves.table waited.leaves.votes took.gives;
      others = others_then c.args.asked.now old.core mid.core new.core waited.leaves.table took.others;
      runs = runs_both old mid new waited.leaves.runs took.runs;
      costs = TakesBehind mid waited.costs took.gives;
      spends = subst (λ (d : Device). Spends c.args.patience.now.left c.await_range.new.patience.left old.device d) (sym took.gives.shelf) waited.spends;
    }

pub returns-in-Err : goal.returns-in-Err
returns-in-Err g c = record {
  gives = WasStuck c.in-Err.ensures.turns c.in-Err.ensures.leaves.table c.in-Err.ensures.ends.0 c.in-Err.ensures.ends.1 refl;
  others = others_stay c.args.asked.now c.args.driver.now.1 c.await_range.new.driver.1 c.in-Err.ensures.leaves.table;
  runs = c.in-Err.ensures.leaves.runs;
  costs = TakesNone c.in-Err.ensures.costs refl;
  spends = c.in-Err.ensures.spends;
}
