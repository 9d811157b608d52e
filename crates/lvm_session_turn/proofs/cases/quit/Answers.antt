use Rattle.std.proofs.Common.{◌∙◌, ap}
use Rattle.lvm_session.specs.declared.bringing.Step.TheVariants as stage
use Rattle.lvm_session.specs.declared.flown.Owner.TheVariants as owner
use Rattle.lvm_session.specs.Fields.{core_of}
use Rattle.lvm_session.specs.State.{Core}
use Rattle.lvm_session.specs.Ends.{with_copy, without_step}
use Rattle.lvm_session_turn.proofs.Ended.{is_out, within}
use Rattle.lvm_session_turn.proofs.cases.quit.Goals as goal

pub return_flight-requires-clause-within : goal.return_flight-requires-clause-within
return_flight-requires-clause-within c = within (core_of c.args.session.now) c.args.at owner.Copy c.args.buf.number c.requires

pub return_flight-requires-clause-out : goal.return_flight-requires-clause-out
return_flight-requires-clause-out c = is_out (core_of c.args.session.now) c.args.at owner.Copy c.args.buf.number c.requires

pub returns-clause-core : goal.returns-clause-core
returns-clause-core c d is =
    let back = c.return_flight.ensures.core in
    c.leave_step.ensures.core d (ap (λ (x : Core). x.copy) back ∙ is) ∙ ap (λ (x : Core). with_copy (without_step x d) (record d { step = stage.Idle })) back
