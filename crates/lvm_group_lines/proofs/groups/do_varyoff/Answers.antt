use Rattle.std.proofs.Common.{ap, refl, arith, ◌∙◌}
use Rattle.lvm_group_lines.specs.Groups.{BusyVaryoff, NoVaryoff, VaryoffDoes}
use Rattle.lvm_group_lines.specs.Moments.{Aside}
use Rattle.lvm_group_lines.specs.Stages.{IsOn, open_in, session_in}
use Rattle.lvm_group_lines.specs.declared.reply.Refusal.TheVariants as refusal
use Rattle.lvm_group_lines.proofs.EndsLemmas.{refused_ends}
use Rattle.lvm_group_lines.proofs.StagesLemmas.Staging.{on_with}
use Rattle.lvm_group_lines.proofs.GroupsLemmas.Closing.{closed_ends}
use Rattle.lvm_group_lines.proofs.Listing.{none_few}
use Rattle.lvm_group_lines.proofs.groups.do_varyoff.Goals as goal

pub returns-then-not-is_on : goal.returns-then-not-is_on
returns-then-not-is_on g c =
    refused_ends g.S.Shelf.device (λ log. VaryoffDoes c.args.name) ⊥ Aside c.args.stage c.refused.result.stage c.refused.result.reply c.requires.fits c.requires.between c.refused.ensures.stage refusal.NoGroup c.refused.ensures.reply
    (λ last is. NoVaryoff (c.if-not-is_on.ensures.off refl) is)

pub returns-then-open-gt0 : goal.returns-then-open-gt0
returns-then-open-gt0 g c =
    refused_ends g.S.Shelf.device (λ log. VaryoffDoes c.args.name) ⊥ Aside c.args.stage c.refused-then-open-gt0.result.stage c.refused-then-open-gt0.result.reply c.requires.fits c.requires.between c.refused-then-open-gt0.ensures.stage refusal.Busy c.refused-then-open-gt0.ensures.reply
    (λ last is. BusyVaryoff (c.if-not-is_on.ensures.on refl) (let some = c.if-open-gt0.true in let count = c.open.ensures in omega (arith, some, count)) is)

pub returns : goal.returns
returns g c =
    let on = on_with (session_in c.args.stage) (IsOn c.args.name) (c.if-not-is_on.ensures.some refl) (c.if-not-is_on.ensures.on refl) in
    let few = c.if-open-gt0.false in
    let count = c.open.ensures ∙ ap open_in on.1 in
    closed_ends g.S.Shelf.device c.args.stage c.requires.fits c.requires.between on.0 on.1 (none_few on.0.requests (omega (arith, few, count)))
    c.close-closed.result.0.shelf c.close-closed.result.0.history c.close-closed.result.1 c.close-closed.result.2 c.close-closed.ensures.shelf c.close-closed.ensures.history c.close-closed.ensures.posts c.close-closed.ensures.rooms
    c.answered.result.stage c.args.name c.answered.result.reply (c.answered.ensures.stage ∙ c.off.ensures) on.2 c.answered.ensures.reply
