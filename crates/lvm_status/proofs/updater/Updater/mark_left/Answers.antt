use Rattle.std.proofs.Common.{false, subst}
use Rattle.lvm_status.specs.passed.Num.{IsValidStatus}
use Rattle.lvm_status.proofs.MembersLemmas.Fit.{fit_known, fit_next}
use Rattle.lvm_status.proofs.updater.Updater.mark_left.Goals as goal

pub invariant_of-self : goal.invariant_of-self
invariant_of-self c =
    let inside = c.self.inside in
    let fit = fit_next inside.group inside.committed inside.wanted inside.flying c.mark_volumes.new.table inside.writes inside.writes inside.is_known c.self.invariant c.mark_volumes.ensures.members (λ disk is. is) (λ disk is. is) in
    fit_known inside.group inside.committed c.mark_volumes.new.table inside.flying inside.writes false c.says_the_same-self-inside.result fit c.says_the_same-self-inside.ensures.0

pub mark_volumes-requires-clause-valid : goal.mark_volumes-requires-clause-valid
mark_volumes-requires-clause-valid c = subst IsValidStatus c.as_status.ensures.same c.as_status.ensures.valid
