use Rattle.std.proofs.Common.{ap, subst}
use Rattle.lvm_session.specs.declared.flown.Owner.TheVariants as owner
use Rattle.lvm_session.specs.Fields.{core_of}
use Rattle.lvm_session.specs.State.{Core}
use Rattle.lvm_session.specs.Marks.{Reviews}
use Rattle.lvm_session_turn.proofs.Ended.{may_return, may_review, was_out}
use Rattle.lvm_session_turn.proofs.Owning.{is_started_member, rows_after_end, sound_after_end}
use Rattle.lvm_session_turn.proofs.records.end_status.Goals as goal

pub learn_status-requires-clause-may : goal.learn_status-requires-clause-may
learn_status-requires-clause-may c = may_return (core_of c.args.session.now) c.args.at (owner.Status c.args.disk) c.args.buf.number c.requires

pub learn_status-requires-clause-flies : goal.learn_status-requires-clause-flies
learn_status-requires-clause-flies c = was_out (core_of c.args.session.now) c.args.at (owner.Status c.args.disk) c.args.buf.number c.requires

pub learn_status-requires-clause-member : goal.learn_status-requires-clause-member
learn_status-requires-clause-member c =
    let core = core_of c.args.session.now in
    is_started_member core c.args.disk c.requires.going (was_out core c.args.at (owner.Status c.args.disk) c.args.buf.number c.requires)

pub review-requires : goal.review-requires
review-requires c =
    let core = core_of c.args.session.now in
    let mid = core_of c.learn_status.new.session in
    let told = c.learn_status.ensures.core in
    let flies = was_out core c.args.at (owner.Status c.args.disk) c.args.buf.number c.requires in
    may_review core c.args.at (owner.Status c.args.disk) c.args.buf.number c.requires mid (ap (λ (x : Core). x.descriptor) told.is) (ap (λ (x : Core). x.copy) told.is) (ap (λ (x : Core). x.pool) told.is)
    (sound_after_end core.status mid.status c.args.disk c.args.ok c.requires.going.status flies told.wants told.ended)
    (rows_after_end core mid.status c.args.disk c.args.ok c.requires.going told.wants)

pub returns-clause-learns : goal.returns-clause-learns
returns-clause-learns c =
    let mid = core_of c.learn_status.new.session in
    let told = c.learn_status.ensures.core in
    record { status = mid.status; wants = told.wants; ended = told.ended; homes = mid.homes; flips = told.flips; reviews = subst (λ (x : Core). Reviews x (core_of c.review.new.session)) told.is c.review.ensures.reviews }
