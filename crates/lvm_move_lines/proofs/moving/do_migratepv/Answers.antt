use Rattle.std.proofs.Common.{false, refl, ap, subst}
use Rattle.lvm_range_lines.specs.passed.HolderVariants as holder
use Rattle.lvm_range_lines.specs.passed.RefusalVariants as refusal
use Rattle.lvm_range_lines.specs.passed.ReplyVariants as reply
use Rattle.lvm_range_lines.specs.passed.GroupLines.{ComesTo, Holder, session_of}
use Rattle.lvm_range_lines.proofs.EndsLemmas.{between_now, ends_with, fits_now, refused_as}
use Rattle.lvm_move_lines.specs.Moving.{MigratepvDoes, NoGroupForMoves}
use Rattle.lvm_move_lines.proofs.EmptyLemmas.{empty_ends}
use Rattle.lvm_move_lines.proofs.moving.do_migratepv.Goals as goal

pub returns-in-Off : goal.returns-in-Off
returns-in-Off g c = λ stage its.
    refused_as g.S.Shelf.device (λ log. MigratepvDoes c.args.volume c.args.from c.args.to) c.args.stage.now c.requires.fits c.requires.between (holder.Off c.in-Off.shelf c.in-Off.history) c.in-Off.is stage (reply.Refused refusal.NoGroup)
    (subst (λ (h : Holder g.row.S.Denot). ComesTo g.S.Shelf.device false h c.args.stage.now.posts c.args.stage.now.bytes stage) c.in-Off.is its.comes)
    refusal.NoGroup refl (λ last refused. NoGroupForMoves (ap session_of c.in-Off.is) refused)

pub returns-in-Empty : goal.returns-in-Empty
returns-in-Empty g c = λ stage its.
    empty_ends g.S.Shelf.device c.args.volume c.args.from c.args.to c.args.stage.now c.requires.fits c.requires.between c.in-Empty.driver c.in-Empty.is stage c.move_none.result c.move_none.ensures its

pub move_on-requires-clause-on : goal.move_on-requires-clause-on
move_on-requires-clause-on g c = (between_now g.S.Shelf.device (λ log. MigratepvDoes c.args.volume c.args.from c.args.to) c.args.stage.now c.requires.fits c.requires.between (holder.Serving c.in-Serving.driver) c.in-Serving.is).session.power

pub move_on-requires-clause-shut : goal.move_on-requires-clause-shut
move_on-requires-clause-shut g c = (between_now g.S.Shelf.device (λ log. MigratepvDoes c.args.volume c.args.from c.args.to) c.args.stage.now c.requires.fits c.requires.between (holder.Serving c.in-Serving.driver) c.in-Serving.is).session.copy

pub move_on-requires-clause-epoch : goal.move_on-requires-clause-epoch
move_on-requires-clause-epoch g c = (between_now g.S.Shelf.device (λ log. MigratepvDoes c.args.volume c.args.from c.args.to) c.args.stage.now c.requires.fits c.requires.between (holder.Serving c.in-Serving.driver) c.in-Serving.is).session.stamped.some_epoch

pub returns-in-Serving : goal.returns-in-Serving
returns-in-Serving g c = λ stage its.
    let fits = fits_now g.S.Shelf.device (λ log. MigratepvDoes c.args.volume c.args.from c.args.to) c.args.stage.now c.requires.fits c.requires.between (holder.Serving c.in-Serving.driver) c.in-Serving.is in
    let between = between_now g.S.Shelf.device (λ log. MigratepvDoes c.args.volume c.args.from c.args.to) c.args.stage.now c.requires.fits c.requires.between (holder.Serving c.in-Serving.driver) c.in-Serving.is in
    ends_with g.S.Shelf.device (λ log. MigratepvDoes c.args.volume c.args.from c.args.to) c.args.stage.now c.requires.fits c.requires.between (holder.Serving c.in-Serving.driver) c.in-Serving.is stage c.move_on.result
    (c.move_on.ensures c.args.stage.now.bytes c.args.stage.now.posts fits between stage its)
