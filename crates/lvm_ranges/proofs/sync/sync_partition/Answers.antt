use Rattle.std.proofs.Common.{refl, sym, subst, ◌∙◌}
use Rattle.std.proofs.lemmas.Result.{err_from_is_err_and}
use Rattle.lvm_session.specs.State.{state_of}
use Rattle.lvm_ranges.specs.declared.tally.Tally.{Tally}
use Rattle.lvm_ranges.specs.Syncing.{ArePassed, StopsAmong, partition_copies, partition_fault}
use Rattle.lvm_ranges.proofs.SyncingLemmas.Asking.{not_begun, ready_by, stopped, synced, within_by}
use Rattle.lvm_ranges.proofs.CausesLemmas.{partition_caused, refused_caused, stopped_caused, synced_caused}
use Rattle.lvm_ranges.proofs.TurningLemmas.{beside_none}
use Rattle.lvm_ranges.proofs.sync.sync_partition.Goals as goal

pub returns-in-Some-clause-gives : goal.returns-in-Some-clause-gives
returns-in-Some-clause-gives g c =
    let first = state_of g.S.Shelf.device c.args.driver.now in
    not_begun (partition_fault first.core c.args.lv c.args.lp) (partition_copies first.core.descriptor c.args.lv c.args.lp) c.args.patience.now.left c.args.patience.now.left first first c.in-Some.why (sym c.partition_fault.ensures ∙ c.in-Some.is) refl refl

pub returns-in-Some-clause-caused : goal.returns-in-Some-clause-caused
returns-in-Some-clause-caused g c =
    let first = state_of g.S.Shelf.device c.args.driver.now in
    refused_caused c.args.patience.now.left first (partition_fault first.core c.args.lv c.args.lp) c.in-Some.why (partition_caused c.args.patience.now.left first c.args.lv c.args.lp) (sym c.partition_fault.ensures ∙ c.in-Some.is)

pub returns-in-Some-clause-beside : goal.returns-in-Some-clause-beside
returns-in-Some-clause-beside g c = beside_none (state_of g.S.Shelf.device c.args.driver.now) c.args.patience.now.left

pub pass_partition-requires-clause-none : goal.pass_partition-requires-clause-none
pass_partition-requires-clause-none g c = (ready_by c.args.driver.now.1 _ (sym c.partition_fault.ensures ∙ c.in-None.is)).none

pub pass_partition-requires-clause-within : goal.pass_partition-requires-clause-within
pass_partition-requires-clause-within g c = within_by c.args.driver.now.1 c.args.lv c.args.lp (ready_by c.args.driver.now.1 _ (sym c.partition_fault.ensures ∙ c.in-None.is)).further_is

pub returns-in_err-pass_partition-in-None-clause-gives : goal.returns-in_err-pass_partition-in-None-clause-gives
returns-in_err-pass_partition-in-None-clause-gives g c =
    let device = g.S.Shelf.device in
    let first = state_of device c.args.driver.now in
    let f = err_from_is_err_and c.from_residual.result c.from_residual.ensures.1 in
    rw (f.1, f.2) (stopped (partition_fault first.core c.args.lv c.args.lp) (partition_copies first.core.descriptor c.args.lv c.args.lp) c.args.patience.now.left c.pass_partition.new.patience.left first (state_of device c.pass_partition.new.driver)
    c.in_err-pass_partition-in-None.field-0.0 (sym c.partition_fault.ensures ∙ c.in-None.is)
    (subst (λ (t : Tally). StopsAmong (partition_copies first.core.descriptor c.args.lv c.args.lp) c.args.patience.now.left c.pass_partition.new.patience.left first (state_of device c.pass_partition.new.driver) t c.in_err-pass_partition-in-None.field-0.0) c.no_tally-tally.ensures c.in_err-pass_partition-in-None.ensures.ends))

pub returns-in_err-pass_partition-in-None-clause-caused : goal.returns-in_err-pass_partition-in-None-clause-caused
returns-in_err-pass_partition-in-None-clause-caused g c =
    let device = g.S.Shelf.device in
    let first = state_of device c.args.driver.now in
    let new = state_of device c.pass_partition.new.driver in
    let f = err_from_is_err_and c.from_residual.result c.from_residual.ensures.1 in
    rw (f.1, f.2) (stopped_caused (partition_copies first.core.descriptor c.args.lv c.args.lp) c.args.patience.now.left c.pass_partition.new.patience.left first new c.in_err-pass_partition-in-None.field-0.0
    (subst (λ (t : Tally). StopsAmong (partition_copies first.core.descriptor c.args.lv c.args.lp) c.args.patience.now.left c.pass_partition.new.patience.left first new t c.in_err-pass_partition-in-None.field-0.0) c.no_tally-tally.ensures c.in_err-pass_partition-in-None.ensures.ends))

pub returns-in_ok-pass_partition-in-None-clause-gives : goal.returns-in_ok-pass_partition-in-None-clause-gives
returns-in_ok-pass_partition-in-None-clause-gives g c =
    let device = g.S.Shelf.device in
    let first = state_of device c.args.driver.now in
    let new = state_of device c.pass_partition.new.driver in
    let ready = ready_by first.core _ (sym c.partition_fault.ensures ∙ c.in-None.is) in
    synced (partition_fault first.core c.args.lv c.args.lp) (partition_copies first.core.descriptor c.args.lv c.args.lp) c.args.patience.now.left c.pass_partition.new.patience.left first new c.pass_partition.new.tally c.answer.result
    (sym c.partition_fault.ensures ∙ c.in-None.is) c.is_sound.ensures (ready.on c.requires.unstuck) ready.none
    (subst (λ (t : Tally). ArePassed (partition_copies first.core.descriptor c.args.lv c.args.lp) c.args.patience.now.left c.pass_partition.new.patience.left first new t c.pass_partition.new.tally tt) c.no_tally-tally.ensures c.in_ok-pass_partition-in-None.ensures.ends) c.answer.ensures

pub returns-in_ok-pass_partition-in-None-clause-caused : goal.returns-in_ok-pass_partition-in-None-clause-caused
returns-in_ok-pass_partition-in-None-clause-caused g c =
    let device = g.S.Shelf.device in
    let first = state_of device c.args.driver.now in
    let new = state_of device c.pass_partition.new.driver in
    synced_caused (partition_copies first.core.descriptor c.args.lv c.args.lp) c.args.patience.now.left c.pass_partition.new.patience.left first new c.pass_partition.new.tally c.answer.result c.is_sound.ensures.fitting.valid
    (subst (λ (t : Tally). ArePassed (partition_copies first.core.descriptor c.args.lv c.args.lp) c.args.patience.now.left c.pass_partition.new.patience.left first new t c.pass_partition.new.tally tt) c.no_tally-tally.ensures c.in_ok-pass_partition-in-None.ensures.ends) c.answer.ensures
