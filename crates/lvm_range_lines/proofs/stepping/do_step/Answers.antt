use Rattle.std.proofs.Common.{false, refl, ap, subst, arith}
use Rattle.lvm_group_lines.specs.declared.holder.Holder.{Holder}
use Rattle.lvm_group_lines.specs.declared.holder.Holder.TheVariants as holder
use Rattle.lvm_group_lines.specs.declared.reply.Refusal.TheVariants as refusal
use Rattle.lvm_group_lines.specs.declared.reply.Reply.TheVariants as reply
use Rattle.lvm_group_lines.specs.Stages.{ComesTo, IsOfKind, session_of}
use Rattle.lvm_range_lines.specs.Stepping.{NoStepWhileOff, NothingMoves, StepDoes}
use Rattle.lvm_range_lines.proofs.EndsLemmas.{between_now, ends_with, fits_now, refused_as, still_as}
use Rattle.lvm_range_lines.proofs.stepping.do_step.Goals as goal

pub returns-in-Off : goal.returns-in-Off
returns-in-Off g c = λ stage left.
    refused_as g.S.Shelf.device (λ log. StepDoes c.args.turns) c.args.stage.now c.requires.fits c.requires.between (holder.Off c.in-Off.shelf c.in-Off.history) c.in-Off.is stage (reply.Refused refusal.NoGroup)
    (subst (λ (h : Holder g.row.S.Denot). ComesTo g.S.Shelf.device false h c.args.stage.now.posts c.args.stage.now.bytes stage) c.in-Off.is left.comes)
    refusal.NoGroup refl (λ last refused. NoStepWhileOff (ap session_of c.in-Off.is) refused)

pub returns-in-Empty : goal.returns-in-Empty
returns-in-Empty g c = λ stage left.
    still_as g.S.Shelf.device (λ log. StepDoes c.args.turns) c.args.stage.now c.requires.fits c.requires.between (holder.Empty c.in-Empty.driver) c.in-Empty.is stage (reply.Stepped 0)
    (subst (λ (h : Holder g.row.S.Denot). ComesTo g.S.Shelf.device false h c.args.stage.now.posts c.args.stage.now.bytes stage) c.in-Empty.is left.comes)
    (omega arith)
    (λ last still. NothingMoves c.in-Empty.driver.1 (ap session_of c.in-Empty.is) (subst IsOfKind c.in-Empty.is c.requires.fits.kind) refl still)

pub step_on-requires : goal.step_on-requires
step_on-requires g c = record { on = (between_now g.S.Shelf.device (λ log. StepDoes c.args.turns) c.args.stage.now c.requires.fits c.requires.between (holder.Serving c.in-Serving.driver) c.in-Serving.is).session.power }

pub returns-in-Serving : goal.returns-in-Serving
returns-in-Serving g c = λ stage left.
    let fits = fits_now g.S.Shelf.device (λ log. StepDoes c.args.turns) c.args.stage.now c.requires.fits c.requires.between (holder.Serving c.in-Serving.driver) c.in-Serving.is in
    let between = between_now g.S.Shelf.device (λ log. StepDoes c.args.turns) c.args.stage.now c.requires.fits c.requires.between (holder.Serving c.in-Serving.driver) c.in-Serving.is in
    ends_with g.S.Shelf.device (λ log. StepDoes c.args.turns) c.args.stage.now c.requires.fits c.requires.between (holder.Serving c.in-Serving.driver) c.in-Serving.is stage c.step_on.result
    (c.step_on.ensures c.args.stage.now.bytes c.args.stage.now.posts fits between stage left)
