use Rattle.std.proofs.Common.{◌∙◌}
use Rattle.lvm_disk.specs.declared.shelf.Arrange.TheVariants as arrange
use Rattle.lvm_group_lines.specs.Shelves.{CutDoes, CutNotPlanned}
use Rattle.lvm_group_lines.specs.declared.reply.Refusal.TheVariants as refusal
use Rattle.lvm_group_lines.proofs.EndsLemmas.{one_refused}
use Rattle.lvm_group_lines.proofs.ShelvesLemmas.Cutting.{cut_ends}
use Rattle.lvm_group_lines.proofs.ShelvesLemmas.Ordering.{unarranged_ends}
use Rattle.lvm_group_lines.proofs.shelves.do_cut.Goals as goal

pub returns-then-not-arrange : goal.returns-then-not-arrange
returns-then-not-arrange g c =
    unarranged_ends g.S.Shelf.device c.args.stage c.arrange.new.self (arrange.Cut c.args.word) c.if-not-arrange.ensures.shelf c.if-not-arrange.ensures.session c.if-not-arrange.ensures.history c.if-not-arrange.ensures.kind
    (λ log. CutDoes log c.args.word) c.refused.result.stage c.refused.result.reply c.refused.ensures.stage c.requires.fits c.requires.between (one_refused c.refused.result.reply refusal.NoPlan c.refused.ensures.reply)
    (λ last is. CutNotPlanned c.if-not-arrange.ensures.shelf.0 (c.refused.ensures.reply, is))

pub returns : goal.returns
returns g c =
    cut_ends g.S.Shelf.device c.args.stage c.arrange.new.self c.args.word c.requires.fits c.requires.between c.if-not-arrange.ensures.shelf c.if-not-arrange.ensures.session c.if-not-arrange.ensures.history
    (g.S.Shelf.device c.close-closed.result.0.shelf) c.close-closed.ensures.shelf c.close-closed.result.0.history c.close-closed.ensures.history c.close-closed.result.1 c.close-closed.result.2 c.close-closed.ensures.posts c.close-closed.ensures.rooms
    c.relight.new.shelf c.relight.ensures.lit c.cut.new.self c.cut.ensures c.answered.result.stage (c.answered.ensures.stage ∙ c.off.ensures) c.answered.result.reply c.answered.ensures.reply
