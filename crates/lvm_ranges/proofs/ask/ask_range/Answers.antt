use Rattle.std.proofs.Common.{refl, sym}
use Rattle.lvm_driver.proofs.passed.Going.{runs_none}
use Rattle.lvm_session.specs.State.{state_of}
use Rattle.lvm_ranges.proofs.PiecesLemmas.{gives_asked, gives_fault}
use Rattle.lvm_ranges.proofs.ask.ask_range.Goals as goal

pub returns-in-None-clause-gives : goal.returns-in-None-clause-gives
returns-in-None-clause-gives g c = gives_asked c.args.write c.args.lv c.args.at c.args.count c.args.driver.now.1 c.ask_whole.new.driver.1 c.ask_whole.result (sym c.in-None.ensures) c.ask_whole.ensures.asks

pub returns-in-Some-clause-gives : goal.returns-in-Some-clause-gives
returns-in-Some-clause-gives g c = gives_fault c.args.write c.args.lv c.args.at c.args.count c.args.driver.now.1 c.in-Some.why (sym c.in-Some.ensures)

pub returns-in-Some-clause-leaves : goal.returns-in-Some-clause-leaves
returns-in-Some-clause-leaves g c = record {
  shelf = refl;
  on = c.requires.on;
  others = record { held = λ other held. held; asked = λ client id told. refl; answered = λ client id is. is };
  runs = runs_none (state_of g.S.Shelf.device c.args.driver.now);
}
