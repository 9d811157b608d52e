use Rattle.std.proofs.Common.{refl, sym, ◌∙◌}
use Rattle.std.proofs.lemmas.Bool.{false≢true}
use Rattle.std.proofs.lemmas.Result.{err_from_is_err_and}
use Rattle.lvm_members.proofs.PlanLemmas.{may_stay}
use Rattle.lvm_members.proofs.rules.stays.Goals as goal

pub returns-in_err-can_take : goal.returns-in_err-can_take
returns-in_err-can_take g c =
    let e = err_from_is_err_and c.from_residual.result c.from_residual.ensures.1 in
    rw (e.1, e.2) (refl, c.in_err-can_take.ensures.refused c.args.driver.now.1.descriptor)

pub returns-else-has_room : goal.returns-else-has_room
returns-else-has_room g c =
    let takes = c.in_ok-can_take.ensures.takes in
    (refl, (takes, may_stay c.args.driver.now.1 c.in_ok-can_take.ensures.group.valid (c.requires.settled takes), λ room. false≢true (sym c.if-has_room.false ∙ c.has_room.ensures.1 room)))
