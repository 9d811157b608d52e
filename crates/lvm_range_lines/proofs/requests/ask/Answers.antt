use Rattle.std.proofs.Common.{refl, ap, subst}
use Rattle.std.specs.Prelude.{Result, Err}
use Rattle.lvm_num.specs.declared.descriptor.Descriptor.{Descriptor}
use Rattle.lvm_group_lines.specs.passed.Core.{HasNoVolumeNamed, IsNumberOf}
use Rattle.lvm_posts.specs.declared.asked.Asked.{Asked}
use Rattle.lvm_group_lines.specs.passed.Ranges.{AskRangeFault, AskRangeGives}
use Rattle.lvm_group_lines.proofs.passed.Tie.{runs_none}
use Rattle.lvm_session.specs.State.{state_of}
use Rattle.lvm_range_lines.specs.Requests.{HasNone, Refuses, Takes}
use Rattle.lvm_range_lines.proofs.LookingLemmas.{fault_same}
use Rattle.lvm_range_lines.proofs.LeavingLemmas.Posting.{earlier_posts}
use Rattle.lvm_range_lines.proofs.requests.ask.Goals as goal

pub returns-in-None : goal.returns-in-None
returns-in-None g c = record {
  asks = HasNone (subst (λ (d : Descriptor). HasNoVolumeNamed d.lvs c.args.name) c.descriptor.ensures.same c.in-None.ensures.none) refl refl;
  shelf = refl;
  asked = tt;
  posts = λ posts its. its;
  on = c.requires.on;
  runs = runs_none (state_of g.S.Shelf.device c.args.driver.now);
  room = c.requires.room;
}

pub returns-in-Ok : goal.returns-in-Ok
returns-in-Ok g c =
    let made = c.in-Ok.ensures in
    record {
      asks = Takes c.in-Some.lv c.in-Ok.asked (subst (λ (d : Descriptor). IsNumberOf d.lvs c.args.name c.in-Some.lv) c.descriptor.ensures.same c.in-Some.ensures.some)
          (subst (λ (r : Result Asked AskRangeFault). AskRangeGives c.args.write c.in-Some.lv c.args.at c.args.count c.args.driver.now.1 c.ask_range.new.driver.1 r) c.in-Ok.is c.ask_range.ensures.gives) refl;
      shelf = made.leaves.shelf;
      asked = made.asked;
      posts = earlier_posts c.args.driver.now.1 c.ask_range.new.driver.1 made.leaves.others;
      on = made.leaves.on;
      runs = made.leaves.runs;
      room = made.room;
    }

pub returns-in-Err : goal.returns-in-Err
returns-in-Err g c =
    let made = c.in-Err.ensures in
    let gives = subst (λ (r : Result Asked AskRangeFault). AskRangeGives c.args.write c.in-Some.lv c.args.at c.args.count c.args.driver.now.1 c.ask_range.new.driver.1 r) c.in-Err.is c.ask_range.ensures.gives in
    record {
      asks = Refuses c.in-Some.lv c.in-Err.why (subst (λ (d : Descriptor). IsNumberOf d.lvs c.args.name c.in-Some.lv) c.descriptor.ensures.same c.in-Some.ensures.some) gives
          (fault_same c.args.write c.in-Some.lv c.args.at c.args.count c.args.driver.now.1 c.ask_range.new.driver.1 c.in-Err.why gives) (ap (λ why. Err why) c.ask_refusal.ensures);
      shelf = made.leaves.shelf;
      asked = tt;
      posts = earlier_posts c.args.driver.now.1 c.ask_range.new.driver.1 made.leaves.others;
      on = made.leaves.on;
      runs = made.leaves.runs;
      room = made.room;
    }
