use Rattle.std.proofs.Common.{true, false}
use Rattle.lvm_session.specs.declared.bringing.Step.TheVariants as stage
use Rattle.lvm_session.specs.Fields.{core_of}
use Rattle.lvm_session_turn.proofs.EndsLemmas.{learns_as}
use Rattle.lvm_session_turn.proofs.copy_learn.end_write.Goals as goal

pub returns-then-ok-clause-learns : goal.returns-then-ok-clause-learns
returns-then-ok-clause-learns c =
    let it = c.requires.writes in
    learns_as (core_of c.args.session.now) (core_of c.pass_group.new.session) c.args.at c.args.ok true it.copy c.args.buf stage.Writing c.if-ok.true it.is_open it.its.0 it.its.1 (c.pass_group.ensures.passes it.copy it.is_open)

pub returns-else-ok-clause-learns : goal.returns-else-ok-clause-learns
returns-else-ok-clause-learns c =
    let it = c.requires.writes in
    learns_as (core_of c.args.session.now) (core_of c.fail.new.session) c.args.at c.args.ok false it.copy c.args.buf stage.Writing c.if-ok.false it.is_open it.its.0 it.its.1 (c.fail.ensures.fails it.copy it.is_open)
