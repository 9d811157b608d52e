use Rattle.std.proofs.Common.{refl, sym, subst, ◌∙◌}
use Rattle.std.proofs.lemmas.Result.{err_from_is_err_and}
use Rattle.lvm_session.specs.State.{state_of}
use Rattle.lvm_ranges.specs.declared.tally.Tally.{Tally}
use Rattle.lvm_ranges.specs.Syncing.{ArePassed, StopsAmong, volume_copies, volume_fault}
use Rattle.lvm_ranges.proofs.SyncingLemmas.Asking.{not_begun, ready_by, stopped, synced}
use Rattle.lvm_ranges.proofs.CausesLemmas.{volume_caused, refused_caused, stopped_caused, synced_caused}
use Rattle.lvm_ranges.proofs.TurningLemmas.{beside_none}
use Rattle.lvm_ranges.proofs.sync.sync_volume.Goals as goal

pub returns-in-Some-clause-gives : goal.returns-in-Some-clause-gives
returns-in-Some-clause-gives g c =
    let first = state_of g.S.Shelf.device c.args.driver.now in
    not_begun (volume_fault first.core c.args.lv) (volume_copies first.core.descriptor c.args.lv) c.args.patience.now.left c.args.patience.now.left first first c.in-Some.why (sym c.volume_fault.ensures ∙ c.in-Some.is) refl refl

pub returns-in-Some-clause-caused : goal.returns-in-Some-clause-caused
returns-in-Some-clause-caused g c =
    let first = state_of g.S.Shelf.device c.args.driver.now in
    refused_caused c.args.patience.now.left first (volume_fault first.core c.args.lv) c.in-Some.why (volume_caused c.args.patience.now.left first c.args.lv) (sym c.volume_fault.ensures ∙ c.in-Some.is)

pub returns-in-Some-clause-beside : goal.returns-in-Some-clause-beside
returns-in-Some-clause-beside g c = beside_none (state_of g.S.Shelf.device c.args.driver.now) c.args.patience.now.left

pub pass_volume-requires-clause-none : goal.pass_volume-requires-clause-none
pass_volume-requires-clause-none g c = (ready_by c.args.driver.now.1 _ (sym c.volume_fault.ensures ∙ c.in-None.is)).none

pub returns-in_err-pass_volume-in-None-clause-gives : goal.returns-in_err-pass_volume-in-None-clause-gives
returns-in_err-pass_volume-in-None-clause-gives g c =
    let device = g.S.Shelf.device in
    let first = state_of device c.args.driver.now in
    let f = err_from_is_err_and c.from_residual.result c.from_residual.ensures.1 in
    rw (f.1, f.2) (stopped (volume_fault first.core c.args.lv) (volume_copies first.core.descriptor c.args.lv) c.args.patience.now.left c.pass_volume.new.patience.left first (state_of device c.pass_volume.new.driver)
    c.in_err-pass_volume-in-None.field-0.0 (sym c.volume_fault.ensures ∙ c.in-None.is)
    (subst (λ (t : Tally). StopsAmong (volume_copies first.core.descriptor c.args.lv) c.args.patience.now.left c.pass_volume.new.patience.left first (state_of device c.pass_volume.new.driver) t c.in_err-pass_volume-in-None.field-0.0) c.no_tally-tally.ensures c.in_err-pass_volume-in-None.ensures.ends))

pub returns-in_err-pass_volume-in-None-clause-caused : goal.returns-in_err-pass_volume-in-None-clause-caused
returns-in_err-pass_volume-in-None-clause-caused g c =
    let device = g.S.Shelf.device in
    let first = state_of device c.args.driver.now in
    let new = state_of device c.pass_volume.new.driver in
    let f = err_from_is_err_and c.from_residual.result c.from_residual.ensures.1 in
    rw (f.1, f.2) (stopped_caused (volume_copies first.core.descriptor c.args.lv) c.args.patience.now.left c.pass_volume.new.patience.left first new c.in_err-pass_volume-in-None.field-0.0
    (subst (λ (t : Tally). StopsAmong (volume_copies first.core.descriptor c.args.lv) c.args.patience.now.left c.pass_volume.new.patience.left first new t c.in_err-pass_volume-in-None.field-0.0) c.no_tally-tally.ensures c.in_err-pass_volume-in-None.ensures.ends))

pub returns-in_ok-pass_volume-in-None-clause-gives : goal.returns-in_ok-pass_volume-in-None-clause-gives
returns-in_ok-pass_volume-in-None-clause-gives g c =
    let device = g.S.Shelf.device in
    let first = state_of device c.args.driver.now in
    let new = state_of device c.pass_volume.new.driver in
    let ready = ready_by first.core _ (sym c.volume_fault.ensures ∙ c.in-None.is) in
    synced (volume_fault first.core c.args.lv) (volume_copies first.core.descriptor c.args.lv) c.args.patience.now.left c.pass_volume.new.patience.left first new c.pass_volume.new.tally c.answer.result
    (sym c.volume_fault.ensures ∙ c.in-None.is) c.is_sound.ensures (ready.on c.requires.unstuck) ready.none
    (subst (λ (t : Tally). ArePassed (volume_copies first.core.descriptor c.args.lv) c.args.patience.now.left c.pass_volume.new.patience.left first new t c.pass_volume.new.tally tt) c.no_tally-tally.ensures c.in_ok-pass_volume-in-None.ensures.ends) c.answer.ensures

pub returns-in_ok-pass_volume-in-None-clause-caused : goal.returns-in_ok-pass_volume-in-None-clause-caused
returns-in_ok-pass_volume-in-None-clause-caused g c =
    let device = g.S.Shelf.device in
    let first = state_of device c.args.driver.now in
    let new = state_of device c.pass_volume.new.driver in
    synced_caused (volume_copies first.core.descriptor c.args.lv) c.args.patience.now.left c.pass_volume.new.patience.left first new c.pass_volume.new.tally c.answer.result c.is_sound.ensures.fitting.valid
    (subst (λ (t : Tally). ArePassed (volume_copies first.core.descriptor c.args.lv) c.args.patience.now.left c.pass_volume.new.patience.left first new t c.pass_volume.new.tally tt) c.no_tally-tally.ensures c.in_ok-pass_volume-in-None.ensures.ends) c.answer.ensures
