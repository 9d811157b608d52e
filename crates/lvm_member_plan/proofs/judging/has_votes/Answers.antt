use Rattle.std.proofs.Common.{sym, ap, subst, ◌∙◌}
use Rattle.lvm_num.specs.declared.descriptor.Descriptor.{Descriptor}
use Rattle.lvm_num.specs.Descriptor.{IsValid}
use Rattle.lvm_num.specs.Disks.{has}
use Rattle.lvm_num.specs.Votes.{CanWrite}
use Rattle.lvm_session.specs.State.{is_there}
use Rattle.lvm_member_plan.specs.Descriptors.{reduced}
use Rattle.lvm_member_plan.proofs.LastLemmas.{last_valid}
use Rattle.lvm_member_plan.proofs.VotesLemmas.{there_by}
use Rattle.lvm_member_plan.proofs.judging.has_votes.Goals as goal

pub few_votes-requires : goal.few_votes-requires
few_votes-requires g c =
    let core = c.args.driver.now.1 in
    subst IsValid (sym (c.in-Ok.ensures ∙ ap (λ (d : Descriptor). reduced c.args.disks.now d) c.descriptor-group.ensures.same)) (last_valid core.descriptor c.args.disks.now c.requires.group.valid c.requires.free)

pub returns-clause-enough : goal.returns-clause-enough
returns-clause-enough g c =
    let core = c.args.driver.now.1 in
    let there = there_by core (has c.members_there.result) c.descriptor-group.result.now c.table.result.now c.requires.settled c.members_there.ensures c.descriptor-group.ensures.same c.table.ensures in
    subst (λ (d : Descriptor). CanWrite d (is_there core)) (c.in-Ok.ensures ∙ ap (λ (d : Descriptor). reduced c.args.disks.now d) c.descriptor-group.ensures.same) (subst (CanWrite c.in-Ok.next) there c.in-None.ensures.enough)
