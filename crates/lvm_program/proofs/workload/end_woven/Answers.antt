use Rattle.std.proofs.Common.{◌∙◌, sym}
use Rattle.lvm_top.specs.passed.HolderVariants as holder
use Rattle.lvm_program.specs.Woven.{NotMade}
use Rattle.lvm_program.proofs.WovenLemmas.Woven.{ok_heard, rooms_at, serving_ends, serving_on, serving_unmoved}
use Rattle.lvm_program.proofs.workload.end_woven.Goals as goal

pub returns-then-not-is_ok-clause-ends : goal.returns-then-not-is_ok-clause-ends
returns-then-not-is_ok-clause-ends g c = NotMade (λ ok. let yes = c.is_ok.ensures.1 ok in let no = c.if-not-is_ok.true in cc (yes, no)) c.refuse.ensures.refused

pub draw-requires-clause-on : goal.draw-requires-clause-on
draw-requires-clause-on g c = serving_on g.S.Shelf.device c.args.made.stage c.in-Serving.driver c.in-Serving.is (c.requires.between (λ stuck. ok_heard (sym (c.is_ok.ensures.0 c.if-not-is_ok.false) ∙ stuck)))

pub returns-clause-ends : goal.returns-clause-ends
returns-clause-ends g c =
    serving_ends g.S.Shelf.device c.args.blocks c.args.load.now c.args.made.reply _ (c.is_ok.ensures.0 c.if-not-is_ok.false) c.in-Serving.driver c.args.made.stage.holder c.in-Serving.is c.requires.fits.kind c.draw.ensures.drawn

pub returns-clause-rooms : goal.returns-clause-rooms
returns-clause-rooms g c = rooms_at g.S.Shelf.device c.args.made.stage (holder.Serving c.in-Serving.driver) c.in-Serving.is _ c.draw.ensures.rooms

pub draw-requires-clause-unmoved : goal.draw-requires-clause-unmoved
draw-requires-clause-unmoved g c = serving_unmoved g.S.Shelf.device c.args.made.stage c.in-Serving.driver c.in-Serving.is (c.requires.between (λ stuck. ok_heard (sym (c.is_ok.ensures.0 c.if-not-is_ok.false) ∙ stuck)))
