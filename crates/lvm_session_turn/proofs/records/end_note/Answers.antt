use Rattle.std.proofs.Common.{ap}
use Rattle.lvm_session.specs.declared.flown.Owner.TheVariants as owner
use Rattle.lvm_session.specs.Fields.{core_of}
use Rattle.lvm_session.specs.State.{Core}
use Rattle.lvm_session_turn.proofs.Ended.{may_return, may_review, was_out}
use Rattle.lvm_session_turn.proofs.Owning.{has_its_row, lost, rows_without, sound_without}
use Rattle.lvm_session_turn.proofs.records.end_note.Goals as goal

pub learn_note-requires-clause-may : goal.learn_note-requires-clause-may
learn_note-requires-clause-may c = may_return (core_of c.args.session.now) c.args.at (owner.Note c.args.disk) c.args.buf.number c.requires

pub learn_note-requires-clause-flies : goal.learn_note-requires-clause-flies
learn_note-requires-clause-flies c = was_out (core_of c.args.session.now) c.args.at (owner.Note c.args.disk) c.args.buf.number c.requires

pub learn_note-requires-clause-row : goal.learn_note-requires-clause-row
learn_note-requires-clause-row c =
    let core = core_of c.args.session.now in
    has_its_row core c.args.disk c.requires.going (was_out core c.args.at (owner.Note c.args.disk) c.args.buf.number c.requires)

pub review-requires : goal.review-requires
review-requires c =
    let core = core_of c.args.session.now in
    let mid = core_of c.learn_note.new.session in
    let told = lost core mid c.args.at c.args.disk c.args.ok c.args.buf c.if-not-ok.true c.learn_note.ensures.core in
    may_review core c.args.at (owner.Note c.args.disk) c.args.buf.number c.requires mid (ap (λ (x : Core). x.descriptor) told.1) (ap (λ (x : Core). x.copy) told.1) (ap (λ (x : Core). x.pool) told.1)
    (sound_without c.args.disk core.status mid.status c.requires.going.status told.0) (rows_without core mid.status c.args.disk c.requires.going told.0)
