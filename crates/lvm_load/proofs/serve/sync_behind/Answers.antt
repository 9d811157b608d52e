use Rattle.std.proofs.Common.{true, refl}
use Rattle.lvm_session.specs.State.{state_of}
use Rattle.lvm_driver.proofs.passed.Going.{goes_any}
use Rattle.lvm_load.proofs.LendingLemmas.Keeping.{keeps_both, keeps_brought, keeps_runs, unstuck_still}
use Rattle.lvm_load.proofs.serve.sync_behind.Goals as goal

pub settle-waiting-requires : goal.settle-waiting-requires
settle-waiting-requires g c =
    let device = g.S.Shelf.device in
    let old = state_of device c.args.driver.now in
    let shut = state_of device c.close_ended.new.driver in
    let behind = state_of device c.sync-synced.new.driver in
    record { unstuck = unstuck_still shut behind c.sync-synced.ensures.beside.leaves (unstuck_still old shut (goes_any c.close_ended.ensures.runs) c.requires.unstuck) }

pub returns-then-is_unheard-clause-keeps : goal.returns-then-is_unheard-clause-keeps
returns-then-is_unheard-clause-keeps g c =
    let device = g.S.Shelf.device in
    let old = state_of device c.args.driver.now in
    let shut = state_of device c.close_ended.new.driver in
    let behind = state_of device c.sync-synced.new.driver in
    let beside = c.sync-synced.ensures.beside in
    keeps_both true old shut behind (keeps_runs true old shut c.close_ended.ensures.runs) (keeps_brought true shut behind refl beside.leaves beside.orders)

pub returns-clause-keeps : goal.returns-clause-keeps
returns-clause-keeps g c =
    let device = g.S.Shelf.device in
    let old = state_of device c.args.driver.now in
    let shut = state_of device c.close_ended.new.driver in
    let behind = state_of device c.sync-synced.new.driver in
    let new = state_of device c.settle-waiting.new.driver in
    let beside = c.sync-synced.ensures.beside in
    keeps_both true old behind new (keeps_both true old shut behind (keeps_runs true old shut c.close_ended.ensures.runs) (keeps_brought true shut behind refl beside.leaves beside.orders)) (keeps_runs true behind new c.settle-waiting.ensures.runs)
