use Rattle.std.proofs.Common.{◌∙◌, ap, subst, sym}
use Rattle.lvm_session.specs.declared.bringing.Step.TheVariants as stage
use Rattle.lvm_session.specs.declared.flown.Owner.TheVariants as owner
use Rattle.lvm_session.specs.Fields.{core_of}
use Rattle.lvm_session.specs.State.{Core}
use Rattle.lvm_session.specs.Ends.{with_copy, without_step}
use Rattle.lvm_session_turn.proofs.Ended.{is_out, within}
use Rattle.lvm_session_turn.specs.Carried.{MayPass, CopyGoesOn}
use Rattle.lvm_session_turn.proofs.EndsLemmas.{may_pass, passes_group, reviewed_after}
use Rattle.lvm_session_turn.proofs.cases.pass_group.Goals as goal

pub return_flight-requires-clause-within : goal.return_flight-requires-clause-within
return_flight-requires-clause-within c = within (core_of c.args.session.now) c.args.at owner.Copy c.args.buf.number c.requires.ended

pub return_flight-requires-clause-out : goal.return_flight-requires-clause-out
return_flight-requires-clause-out c = is_out (core_of c.args.session.now) c.args.at owner.Copy c.args.buf.number c.requires.ended

pub pass-requires : goal.pass-requires
pass-requires c =
    let writes = c.requires.writes in
    let back = c.return_flight.ensures.core in
    let now = c.leave_step.ensures.core writes.copy (ap (λ (x : Core). x.copy) back ∙ writes.is_open) ∙ ap (λ (x : Core). with_copy (without_step x writes.copy) (record writes.copy { step = stage.Idle })) back in
    subst MayPass (sym now) (may_pass (core_of c.args.session.now) c.args.at c.args.buf.number c.requires.ended writes.copy writes.is_open c.args.buf)

pub review-requires : goal.review-requires
review-requires c =
    let writes = c.requires.writes in
    let back = c.return_flight.ensures.core in
    let now = c.leave_step.ensures.core writes.copy (ap (λ (x : Core). x.copy) back ∙ writes.is_open) ∙ ap (λ (x : Core). with_copy (without_step x writes.copy) (record writes.copy { step = stage.Idle })) back in
    reviewed_after (core_of c.args.session.now) c.args.at c.args.buf.number c.requires.ended writes.copy writes.is_open c.args.buf (core_of c.pass.new.session) (subst (λ (x : Core). CopyGoesOn x (core_of c.pass.new.session)) now c.pass.ensures.passes)

pub returns-clause-passes : goal.returns-clause-passes
returns-clause-passes c d is =
    let back = c.return_flight.ensures.core in
    let now = c.leave_step.ensures.core d (ap (λ (x : Core). x.copy) back ∙ is) ∙ ap (λ (x : Core). with_copy (without_step x d) (record d { step = stage.Idle })) back in
    passes_group (core_of c.args.session.now) c.args.at d c.args.buf (core_of c.pass.new.session) (core_of c.review.new.session) (subst (λ (x : Core). CopyGoesOn x (core_of c.pass.new.session)) now c.pass.ensures.passes) c.review.ensures.reviews
