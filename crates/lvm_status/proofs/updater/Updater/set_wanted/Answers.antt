use Rattle.std.proofs.Common.{sym, ap, subst, ◌∙◌}
use Rattle.lvm_status.specs.declared.change.Change.{Change}
use Rattle.lvm_status.specs.Table.{has_row}
use Rattle.lvm_status.specs.Update.{Stored}
use Rattle.lvm_status.specs.Calls.{MayChange}
use Rattle.lvm_status.proofs.Disks.{member-below}
use Rattle.lvm_status.proofs.MembersLemmas.Fit.{fit_next, stays}
use Rattle.lvm_status.proofs.updater.Updater.set_wanted.Goals as goal

pub invariant_of-self : goal.invariant_of-self
invariant_of-self c =
    fit_next c.self.inside.group c.self.inside.committed c.self.inside.wanted c.self.inside.flying c.mark.new.self c.self.inside.writes c.self.inside.writes c.self.inside.is_known c.self.invariant c.mark.ensures.members
    (λ disk is. is) (λ disk is. is)

pub invariant_of-self-in-Fresh : goal.invariant_of-self-in-Fresh
invariant_of-self-in-Fresh c =
    fit_next c.self.inside.group c.self.inside.committed c.self.inside.wanted c.self.inside.flying c.clear.new.self c.self.inside.writes c.self.inside.writes c.self.inside.is_known c.self.invariant c.clear.ensures.members
    (λ disk is. is) (λ disk is. is)

pub without-self-inside-requires : goal.without-self-inside-requires
without-self-inside-requires c =
    let may = subst (λ (change : Change). MayChange change c.args.self.now.wanted) c.in-Missing.is c.requires in
    member-below c.self.inside.group c.self.invariant.valid c.in-Missing.disk
    (sym (c.self.invariant.rows c.in-Missing.disk) ∙ ap (λ (s : Stored). has_row s.wanted c.in-Missing.disk) c.self.view_is ∙ may)

pub invariant_of-self-in-Missing : goal.invariant_of-self-in-Missing
invariant_of-self-in-Missing c =
    fit_next c.self.inside.group c.self.inside.committed c.self.inside.wanted c.self.inside.flying c.set_missing.new.self c.self.inside.writes _ c.self.inside.is_known c.self.invariant c.set_missing.ensures.members
    (stays c.self.inside.writes.unstarted c.without-self-inside.result c.in-Missing.disk c.without-self-inside.ensures) (λ disk is. is)

pub invariant_of-self-in-Dirty : goal.invariant_of-self-in-Dirty
invariant_of-self-in-Dirty c =
    fit_next c.self.inside.group c.self.inside.committed c.self.inside.wanted c.self.inside.flying c.set_dirty.new.self c.self.inside.writes c.self.inside.writes c.self.inside.is_known c.self.invariant c.set_dirty.ensures.members
    (λ disk is. is) (λ disk is. is)

pub invariant_of-self-in-Clean : goal.invariant_of-self-in-Clean
invariant_of-self-in-Clean c =
    fit_next c.self.inside.group c.self.inside.committed c.self.inside.wanted c.self.inside.flying c.set_dirty-in-Clean.new.self c.self.inside.writes c.self.inside.writes c.self.inside.is_known c.self.invariant c.set_dirty-in-Clean.ensures.members
    (λ disk is. is) (λ disk is. is)
