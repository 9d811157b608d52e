use Rattle.std.proofs.Common.{ap, ◌∙◌}
use Rattle.lvm_status.specs.passed.Num.{has}
use Rattle.lvm_status.specs.Update.{Stored}
use Rattle.lvm_status.proofs.Disks.{member-below}
use Rattle.lvm_status.proofs.MembersLemmas.Fit.{fit_next, stays}
use Rattle.lvm_status.proofs.updater.Updater.end_write.Goals as goal

pub without-self-inside-requires : goal.without-self-inside-requires
without-self-inside-requires c =
    member-below c.self.inside.group c.self.invariant.valid c.args.disk
    (c.self.invariant.started_members c.args.disk (ap (λ (s : Stored). has s.writes.started c.args.disk) c.self.view_is ∙ c.requires))

pub with-self-inside-requires : goal.with-self-inside-requires
with-self-inside-requires c =
    member-below c.self.inside.group c.self.invariant.valid c.args.disk
    (c.self.invariant.started_members c.args.disk (ap (λ (s : Stored). has s.writes.started c.args.disk) c.self.view_is ∙ c.requires))

pub with-self-inside-requires-else-ok : goal.with-self-inside-requires-else-ok
with-self-inside-requires-else-ok c =
    member-below c.self.inside.group c.self.invariant.valid c.args.disk
    (c.self.invariant.started_members c.args.disk (ap (λ (s : Stored). has s.writes.started c.args.disk) c.self.view_is ∙ c.requires))

pub invariant_of-self-else-ok : goal.invariant_of-self-else-ok
invariant_of-self-else-ok c =
    fit_next c.self.inside.group c.self.inside.committed c.self.inside.wanted c.self.inside.flying c.set_missing.new.self c.self.inside.writes _ c.self.inside.is_known c.self.invariant c.set_missing.ensures.members
    (λ disk is. is) (stays c.self.inside.writes.started c.without-self-inside.result c.args.disk c.without-self-inside.ensures)
