use Rattle.std.proofs.Common.{refl, arith}
use Rattle.lvm_group_lines.specs.Shelves.{ArrangeDoes, NotThere, NotPlanned}
use Rattle.lvm_group_lines.specs.Moments.{Aside}
use Rattle.lvm_group_lines.specs.declared.reply.Refusal.TheVariants as refusal
use Rattle.lvm_group_lines.specs.declared.reply.Reply.TheVariants as reply
use Rattle.lvm_group_lines.proofs.EndsLemmas.{one_refused, refused_ends}
use Rattle.lvm_group_lines.proofs.ShelvesLemmas.Ordering.{arranged_ends, held_by, unarranged_ends}
use Rattle.lvm_group_lines.proofs.shelves.do_arrange.Goals as goal

pub returns-then-disk-disks-clause-ends : goal.returns-then-disk-disks-clause-ends
returns-then-disk-disks-clause-ends g c =
    refused_ends g.S.Shelf.device (λ log. ArrangeDoes c.args.disk c.args.what) (Unit {0}) Aside c.args.stage.now c.args.stage.now (reply.Refused (refusal.NoDisk c.args.disk)) c.requires.fits c.requires.between refl (refusal.NoDisk c.args.disk) refl
    (λ last is. NotThere (let le = c.if-disk-disks.true in let disks = c.disks.ensures in omega (arith, le, disks)) is)

pub returns-then-arrange-clause-ends : goal.returns-then-arrange-clause-ends
returns-then-arrange-clause-ends g c =
    arranged_ends g.S.Shelf.device c.args.stage.now c.arrange.new.self c.args.disk c.args.what c.requires.what c.if-arrange.ensures.shelf c.if-arrange.ensures.session c.if-arrange.ensures.history c.if-arrange.ensures.kind
    (held_by c.args.stage.now c.arrange.new.self) reply.Ok refl refl (let lt = c.if-disk-disks.false in let disks = c.disks.ensures in omega (arith, lt, disks)) c.requires.fits c.requires.between

pub returns-else-arrange-clause-ends : goal.returns-else-arrange-clause-ends
returns-else-arrange-clause-ends g c =
    unarranged_ends g.S.Shelf.device c.args.stage.now c.arrange.new.self c.args.what c.if-arrange.ensures.shelf c.if-arrange.ensures.session c.if-arrange.ensures.history c.if-arrange.ensures.kind
    (λ log. ArrangeDoes c.args.disk c.args.what) (held_by c.args.stage.now c.arrange.new.self) (reply.Refused refusal.NoPlan) refl c.requires.fits c.requires.between
    (one_refused (reply.Refused refusal.NoPlan) refusal.NoPlan refl)
    (λ last is. NotPlanned (let lt = c.if-disk-disks.false in let disks = c.disks.ensures in omega (arith, lt, disks)) c.if-arrange.ensures.shelf.0 (refl, is))
