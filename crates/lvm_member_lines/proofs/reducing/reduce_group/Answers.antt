use Rattle.std.proofs.Common.{[]}
use Rattle.lvm_core.specs.State.{state_of}
use Rattle.lvm_member_laws.specs.Reducing.{IsReduced}
use Rattle.lvm_member_laws.proofs.ReducingLemmas.Serving.{reduce_serves}
use Rattle.lvm_volume_lines.specs.passed.TieCommands.{MayServeWith}
use Rattle.lvm_member_lines.proofs.ReducingLemmas.Ending.{dark_still, if_on, lit_still}
use Rattle.lvm_member_lines.proofs.ReducingLemmas.Giving.{reduce_known}
use Rattle.lvm_member_lines.proofs.reducing.reduce_group.Goals as goal

pub reducevg-driver-requires : goal.reducevg-driver-requires
reducevg-driver-requires g c = record { settled = λ takes. c.requires.settled; some = c.requires.some; differ = c.requires.differ }

pub after_reduce-requires-clause-dark : goal.after_reduce-requires-clause-dark
after_reduce-requires-clause-dark g c = dark_still _ _ c.reducevg-driver.result.answer (reduce_known _ _ _ _ c.requires.settled.power (record { requests = c.requires.settled.quiet.requests; copy = c.requires.settled.quiet.copy }) c.reducevg-driver.result.answer c.reducevg-driver.ensures.gives).facts

pub after_reduce-requires-clause-lit : goal.after_reduce-requires-clause-lit
after_reduce-requires-clause-lit g c = lit_still _ _ c.reducevg-driver.result.answer (reduce_known _ _ _ _ c.requires.settled.power (record { requests = c.requires.settled.quiet.requests; copy = c.requires.settled.quiet.copy }) c.reducevg-driver.result.answer c.reducevg-driver.ensures.gives).facts

pub after_reduce-requires-clause-rows : goal.after_reduce-requires-clause-rows
after_reduce-requires-clause-rows g c = λ goes. (reduce_known _ _ _ _ c.requires.settled.power (record { requests = c.requires.settled.quiet.requests; copy = c.requires.settled.quiet.copy }) c.reducevg-driver.result.answer c.reducevg-driver.ensures.gives).rows goes c.requires.rows

pub after_reduce-requires-clause-may : goal.after_reduce-requires-clause-may
after_reduce-requires-clause-may g c =
    let mid = state_of g.S.Shelf.device c.args.driver in
    let left = state_of g.S.Shelf.device c.reducevg-driver.result.driver in
    if_on c.reducevg-driver.result.answer (MayServeWith [] left)
    (reduce_serves c.args.disks.now c.args.patience.now.left c.reducevg-driver.new.patience.left mid left c.reducevg-driver.result.answer c.requires.sound
    (record {
      began = c.requires.settled;
      on = c.reducevg-driver.ensures.settled (record { on = c.requires.settled.power; requests = c.requires.settled.quiet.requests });
      still = c.reducevg-driver.ensures.held;
      fresh = c.reducevg-driver.ensures.fresh;
      leaves = c.reducevg-driver.ensures.leaves;
      gives = c.reducevg-driver.ensures.gives;
    }))

pub returns : goal.returns
returns g c = record {
  given = c.reducevg-driver.result.answer;
  left = c.reducevg-driver.result.driver;
  after = c.reducevg-driver.new.patience.left;
  reduced = record {
    began = c.requires.settled;
    on = c.reducevg-driver.ensures.settled (record { on = c.requires.settled.power; requests = c.requires.settled.quiet.requests });
    still = c.reducevg-driver.ensures.held;
    fresh = c.reducevg-driver.ensures.fresh;
    leaves = c.reducevg-driver.ensures.leaves;
    gives = c.reducevg-driver.ensures.gives;
  };
  is = c.after_reduce.ensures.stage;
  says = c.after_reduce.ensures.reply;
}
