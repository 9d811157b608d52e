use Rattle.std.proofs.Common.{List, sym, ◌∙◌, subst}
use Rattle.lvm_session.specs.State.{state_of}
use Rattle.lvm_ranges.proofs.TurningLemmas.{beside_none}
use Rattle.lvm_ranges.specs.Passing.{Copy, EndsOr}
use Rattle.lvm_ranges.specs.Syncing.{ArePassed, NonePassed, StopsAmong}
use Rattle.lvm_ranges.proofs.SyncingLemmas.Passed.{no_volume_there, volume_there}
use Rattle.lvm_ranges.proofs.passes.pass_volume_at.Goals as goal

pub returns-in-None-clause-ends : goal.returns-in-None-clause-ends
returns-in-None-clause-ends g c =
    let first = state_of g.S.Shelf.device c.args.driver.now in
    subst (λ (copies : List Copy). ArePassed copies c.args.patience.now.left c.args.patience.now.left first first c.args.tally.now c.args.tally.now tt) (sym (no_volume_there first.core.descriptor c.args.place (sym c.volume_at.ensures ∙ c.in-None.is))) (NonePassed, c.requires.none)

pub returns-in-Some-clause-ends : goal.returns-in-Some-clause-ends
returns-in-Some-clause-ends g c =
    let device = g.S.Shelf.device in
    let first = state_of device c.args.driver.now in
    let new = state_of device c.pass_volume.new.driver in
    subst (λ (copies : List Copy). EndsOr (ArePassed copies c.args.patience.now.left c.pass_volume.new.patience.left first new c.args.tally.now c.pass_volume.new.tally) (StopsAmong copies c.args.patience.now.left c.pass_volume.new.patience.left first new c.args.tally.now) c.pass_volume.result)
    (sym (volume_there first.core.descriptor c.args.place c.in-Some.lv (sym c.volume_at.ensures ∙ c.in-Some.is))) c.pass_volume.ensures.ends

pub returns-in-None-clause-beside : goal.returns-in-None-clause-beside
returns-in-None-clause-beside g c = beside_none (state_of g.S.Shelf.device c.args.driver.now) c.args.patience.now.left
