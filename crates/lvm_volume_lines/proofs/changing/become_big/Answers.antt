use Rattle.std.proofs.Common.{[]}
use Rattle.lvm_core.specs.State.{state_of}
use Rattle.lvm_volume_lines.specs.passed.TieCommands.{MayServeWith}
use Rattle.lvm_volume_lines.proofs.passed.Members.{make_big_serves}
use Rattle.lvm_volume_lines.proofs.Ending.{rows_stay}
use Rattle.lvm_volume_lines.proofs.ChangingLemmas.Ending.{dark_still, if_on, lit_still}
use Rattle.lvm_volume_lines.proofs.ChangingLemmas.Giving.{big_known}
use Rattle.lvm_volume_lines.proofs.changing.become_big.Goals as goal

pub make_big-driver-requires : goal.make_big-driver-requires
make_big-driver-requires g c = record { settled = λ takes. c.requires.settled }

pub after_change-requires-clause-dark : goal.after_change-requires-clause-dark
after_change-requires-clause-dark g c = dark_still _ _ _ c.make_big-driver.result.answer (big_known _ _ _ c.requires.settled.power (record { requests = c.requires.settled.quiet.requests; copy = c.requires.settled.quiet.copy }) c.make_big-driver.result.answer c.make_big-driver.ensures.gives).facts

pub after_change-requires-clause-lit : goal.after_change-requires-clause-lit
after_change-requires-clause-lit g c = lit_still _ _ _ c.make_big-driver.result.answer (big_known _ _ _ c.requires.settled.power (record { requests = c.requires.settled.quiet.requests; copy = c.requires.settled.quiet.copy }) c.make_big-driver.result.answer c.make_big-driver.ensures.gives).facts

pub after_change-requires-clause-rows : goal.after_change-requires-clause-rows
after_change-requires-clause-rows g c = λ goes. rows_stay _ _ ((big_known _ _ _ c.requires.settled.power (record { requests = c.requires.settled.quiet.requests; copy = c.requires.settled.quiet.copy }) c.make_big-driver.result.answer c.make_big-driver.ensures.gives).shape goes) c.requires.rows

pub after_change-requires-clause-may : goal.after_change-requires-clause-may
after_change-requires-clause-may g c =
    let mid = state_of g.S.Shelf.device c.args.driver in
    let left = state_of g.S.Shelf.device c.make_big-driver.result.driver in
    if_on c.make_big-driver.result.answer (MayServeWith [] left)
    (make_big_serves c.args.patience.now.left c.make_big-driver.new.patience.left mid left c.make_big-driver.result.answer c.requires.sound
    (record {
      began = c.requires.settled;
      on = c.make_big-driver.ensures.settled (record { on = c.requires.settled.power; requests = c.requires.settled.quiet.requests });
      still = c.make_big-driver.ensures.held;
      fresh = c.make_big-driver.ensures.fresh;
      leaves = c.make_big-driver.ensures.leaves;
    }) c.make_big-driver.ensures.gives)

pub returns : goal.returns
returns g c = record {
  given = c.make_big-driver.result.answer;
  left = c.make_big-driver.result.driver;
  after = c.make_big-driver.new.patience.left;
  gives = c.make_big-driver.ensures.gives;
  changed = record {
    began = c.requires.settled;
    on = c.make_big-driver.ensures.settled (record { on = c.requires.settled.power; requests = c.requires.settled.quiet.requests });
    still = c.make_big-driver.ensures.held;
    fresh = c.make_big-driver.ensures.fresh;
    leaves = c.make_big-driver.ensures.leaves;
  };
  is = c.after_change.ensures.stage;
  says = c.after_change.ensures.reply;
}
