use Rattle.std.proofs.Common.{refl, subst}
use Rattle.lvm_num.specs.declared.descriptor.Descriptor.{Descriptor}
use Rattle.lvm_range_lines.specs.Leaving.{serving}
use Rattle.lvm_range_lines.specs.passed.HolderVariants as holder
use Rattle.lvm_range_lines.specs.passed.ReplyVariants as reply
use Rattle.lvm_range_lines.proofs.EndsLemmas.{refused_as}
use Rattle.lvm_range_lines.proofs.passed.GroupLines.{left_still}
use Rattle.lvm_move_lines.specs.Asking.{IsAsked, IsNotAsked}
use Rattle.lvm_move_lines.specs.Moving.{MigratepvDoes, NotAskedForMoves}
use Rattle.lvm_move_lines.proofs.AskingLemmas.{may_migrate}
use Rattle.lvm_move_lines.proofs.EmptyLemmas.{not_asked_heard}
use Rattle.lvm_move_lines.proofs.moving.move_on.Goals as goal

pub returns-in-Err : goal.returns-in-Err
returns-in-Err g c = λ bytes posts fits between stage its.
    let device = g.S.Shelf.device in
    let first = c.args.driver.now in
    let not_asked = subst (λ (d : Descriptor). IsNotAsked d c.args.volume c.args.from c.args.to c.in-Err.why) c.descriptor.ensures.same c.in-Err.ensures in
    refused_as device (λ log. MigratepvDoes c.args.volume c.args.from c.args.to) (serving first posts bytes) fits between (holder.Serving first) refl stage (reply.Refused c.in-Err.why)
    (left_still device (serving first posts bytes) (reply.Refused c.in-Err.why)
    (not_asked_heard first.1.descriptor c.args.volume c.args.from c.args.to c.in-Err.why not_asked) between stage its) c.in-Err.why refl
    (λ last is. NotAskedForMoves first.1 c.in-Err.why refl not_asked is)

pub move_asked-requires-clause-may : goal.move_asked-requires-clause-may
move_asked-requires-clause-may g c =
    may_migrate c.args.driver.now.1.descriptor c.args.volume c.args.from c.args.to c.in-Ok.lv c.requires.differ
    (subst (λ (d : Descriptor). IsAsked d c.args.volume c.args.from c.args.to c.in-Ok.lv) c.descriptor.ensures.same c.in-Ok.ensures)

pub returns-in-Ok : goal.returns-in-Ok
returns-in-Ok g c = c.move_asked.ensures c.args.volume (subst (λ (d : Descriptor). IsAsked d c.args.volume c.args.from c.args.to c.in-Ok.lv) c.descriptor.ensures.same c.in-Ok.ensures)
