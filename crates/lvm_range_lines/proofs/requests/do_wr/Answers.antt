use Rattle.std.proofs.Common.{false, ap, refl, subst}
use Rattle.lvm_group_lines.specs.declared.holder.Holder.TheVariants as holder
use Rattle.lvm_group_lines.specs.declared.reply.Refusal.TheVariants as refusal
use Rattle.lvm_group_lines.specs.declared.reply.Reply.TheVariants as reply
use Rattle.lvm_group_lines.specs.Stages.{ComesTo, IsOfKind, session_of}
use Rattle.lvm_group_lines.specs.declared.holder.Holder.{Holder}
use Rattle.lvm_range_lines.specs.Requests.{WrDoes, NotThere, WhileOff}
use Rattle.lvm_range_lines.proofs.EndsLemmas.{between_now, ends_with, fits_now, none_moves, refused_as}
use Rattle.lvm_range_lines.proofs.LookingLemmas.{none_named}
use Rattle.lvm_range_lines.proofs.requests.do_wr.Goals as goal

pub returns-in-Off : goal.returns-in-Off
returns-in-Off g c = λ stage left.
    refused_as g.S.Shelf.device (λ log. WrDoes c.args.name c.args.at c.args.count c.args.word) c.args.stage.now c.requires.fits c.requires.between (holder.Off c.in-Off.shelf c.in-Off.history) c.in-Off.is stage (reply.Refused refusal.NoGroup)
    (subst (λ (h : Holder g.row.S.Denot). ComesTo g.S.Shelf.device false h c.args.stage.now.posts c.args.stage.now.bytes stage) c.in-Off.is left.comes)
    refusal.NoGroup refl (λ last refused. WhileOff (ap session_of c.in-Off.is) refused)

pub returns-in-Empty : goal.returns-in-Empty
returns-in-Empty g c = λ stage left.
    refused_as g.S.Shelf.device (λ log. WrDoes c.args.name c.args.at c.args.count c.args.word) c.args.stage.now c.requires.fits c.requires.between (holder.Empty c.in-Empty.driver) c.in-Empty.is stage (reply.Refused refusal.NoVolume)
    (subst (λ (h : Holder g.row.S.Denot). ComesTo g.S.Shelf.device false h c.args.stage.now.posts c.args.stage.now.bytes stage) c.in-Empty.is left.comes)
    refusal.NoVolume refl (λ last refused. NotThere c.in-Empty.driver.1 (ap session_of c.in-Empty.is) (none_named c.in-Empty.driver.1.descriptor.lvs c.args.name (subst IsOfKind c.in-Empty.is c.requires.fits.kind)) refused)

pub wr_on-requires-clause-on : goal.wr_on-requires-clause-on
wr_on-requires-clause-on g c = (between_now g.S.Shelf.device (λ log. WrDoes c.args.name c.args.at c.args.count c.args.word) c.args.stage.now c.requires.fits c.requires.between (holder.Serving c.in-Serving.driver) c.in-Serving.is).session.power

pub wr_on-requires-clause-room : goal.wr_on-requires-clause-room
wr_on-requires-clause-room g c = c.requires.fits.rooms.for_bytes

pub returns-in-Serving : goal.returns-in-Serving
returns-in-Serving g c = λ stage left.
    ends_with g.S.Shelf.device (λ log. WrDoes c.args.name c.args.at c.args.count c.args.word) c.args.stage.now c.requires.fits c.requires.between (holder.Serving c.in-Serving.driver) c.in-Serving.is stage c.wr_on.result
    (c.wr_on.ensures c.args.stage.now.posts (fits_now g.S.Shelf.device (λ log. WrDoes c.args.name c.args.at c.args.count c.args.word) c.args.stage.now c.requires.fits c.requires.between (holder.Serving c.in-Serving.driver) c.in-Serving.is) (between_now g.S.Shelf.device (λ log. WrDoes c.args.name c.args.at c.args.count c.args.word) c.args.stage.now c.requires.fits c.requires.between (holder.Serving c.in-Serving.driver) c.in-Serving.is) stage left)

pub wr_on-requires-clause-unmoved : goal.wr_on-requires-clause-unmoved
wr_on-requires-clause-unmoved g c = none_moves c.in-Serving.driver.1 (between_now g.S.Shelf.device (λ log. WrDoes c.args.name c.args.at c.args.count c.args.word) c.args.stage.now c.requires.fits c.requires.between (holder.Serving c.in-Serving.driver) c.in-Serving.is).session.copy
