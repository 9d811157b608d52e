use Rattle.std.proofs.Common.{[]}
use Rattle.lvm_core.specs.State.{state_of}
use Rattle.lvm_volume_lines.specs.passed.TieCommands.{MayServeWith}
use Rattle.lvm_volume_lines.proofs.passed.Members.{set_quorum_serves}
use Rattle.lvm_volume_lines.proofs.Ending.{rows_stay}
use Rattle.lvm_volume_lines.proofs.ChangingLemmas.Ending.{dark_still, if_on, lit_still}
use Rattle.lvm_volume_lines.proofs.ChangingLemmas.Giving.{rule_known}
use Rattle.lvm_volume_lines.proofs.changing.switch_quorum.Goals as goal

pub set_quorum-driver-requires : goal.set_quorum-driver-requires
set_quorum-driver-requires g c = record { settled = λ takes. c.requires.settled }

pub after_change-requires-clause-dark : goal.after_change-requires-clause-dark
after_change-requires-clause-dark g c = dark_still _ _ _ c.set_quorum-driver.result.answer (rule_known _ _ _ c.requires.settled.power (record { requests = c.requires.settled.quiet.requests; copy = c.requires.settled.quiet.copy }) _ c.set_quorum-driver.result.answer c.set_quorum-driver.ensures.gives).facts

pub after_change-requires-clause-lit : goal.after_change-requires-clause-lit
after_change-requires-clause-lit g c = lit_still _ _ _ c.set_quorum-driver.result.answer (rule_known _ _ _ c.requires.settled.power (record { requests = c.requires.settled.quiet.requests; copy = c.requires.settled.quiet.copy }) _ c.set_quorum-driver.result.answer c.set_quorum-driver.ensures.gives).facts

pub after_change-requires-clause-rows : goal.after_change-requires-clause-rows
after_change-requires-clause-rows g c = λ goes. rows_stay _ _ ((rule_known _ _ _ c.requires.settled.power (record { requests = c.requires.settled.quiet.requests; copy = c.requires.settled.quiet.copy }) _ c.set_quorum-driver.result.answer c.set_quorum-driver.ensures.gives).shape goes) c.requires.rows

pub after_change-requires-clause-may : goal.after_change-requires-clause-may
after_change-requires-clause-may g c =
    let mid = state_of g.S.Shelf.device c.args.driver in
    let left = state_of g.S.Shelf.device c.set_quorum-driver.result.driver in
    if_on c.set_quorum-driver.result.answer (MayServeWith [] left)
    (set_quorum_serves c.args.on c.args.patience.now.left c.set_quorum-driver.new.patience.left mid left c.set_quorum-driver.result.answer c.requires.sound
    (record {
      began = c.requires.settled;
      on = c.set_quorum-driver.ensures.settled (record { on = c.requires.settled.power; requests = c.requires.settled.quiet.requests });
      still = c.set_quorum-driver.ensures.held;
      fresh = c.set_quorum-driver.ensures.fresh;
      leaves = c.set_quorum-driver.ensures.leaves;
    }) c.set_quorum-driver.ensures.gives)

pub returns : goal.returns
returns g c = record {
  given = c.set_quorum-driver.result.answer;
  left = c.set_quorum-driver.result.driver;
  after = c.set_quorum-driver.new.patience.left;
  gives = c.set_quorum-driver.ensures.gives;
  changed = record {
    began = c.requires.settled;
    on = c.set_quorum-driver.ensures.settled (record { on = c.requires.settled.power; requests = c.requires.settled.quiet.requests });
    still = c.set_quorum-driver.ensures.held;
    fresh = c.set_quorum-driver.ensures.fresh;
    leaves = c.set_quorum-driver.ensures.leaves;
  };
  is = c.after_change.ensures.stage;
  says = c.after_change.ensures.reply;
}
