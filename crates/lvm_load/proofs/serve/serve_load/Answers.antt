use Rattle.std.proofs.Common.{ℕ, length, ◌∙◌, ap, ap₂}
use Rattle.lvm_vol.specs.Log.{Log}
use Rattle.lvm_session.specs.State.{state_of}
use Rattle.lvm_load.specs.Totals.{entries_since, totals_of}
use Rattle.lvm_driver.proofs.passed.Going.{goes_any}
use Rattle.lvm_load.proofs.LendingLemmas.Keeping.{keeps_both, keeps_runs, unstuck_still}
use Rattle.lvm_load.proofs.SettlingLemmas.{loaded_some}
use Rattle.lvm_load.proofs.serve.serve_load.Goals as goal

pub end_behind-synced-requires : goal.end_behind-synced-requires
end_behind-synced-requires g c =
    let device = g.S.Shelf.device in
    record { unstuck = unstuck_still (state_of device c.share_session-driver.result.driver) (state_of device c.settle-waiting.new.driver) (goes_any c.settle-waiting.ensures.runs) c.share_session-driver.ensures.serves.unstuck }

pub returns-clause-keeps : goal.returns-clause-keeps
returns-clause-keeps g c =
    let device = g.S.Shelf.device in
    let sync = c.args.load.now.sync in
    let first = state_of device c.args.driver in
    let last = state_of device c.share_session-driver.result.driver in
    let rests = state_of device c.settle-waiting.new.driver in
    let end = state_of device c.end_behind-synced.new.driver in
    keeps_both sync first rests end (keeps_both sync first last rests c.share_session-driver.ensures.serves.keeps (keeps_runs sync last rests c.settle-waiting.ensures.runs)) c.end_behind-synced.ensures.keeps

pub returns-clause-loaded : goal.returns-clause-loaded
returns-clause-loaded g c =
    let device = g.S.Shelf.device in
    let load = c.args.load.now in
    loaded_some c.args.lv c.args.blocks load (state_of device c.args.driver) (state_of device c.share_session-driver.result.driver) (state_of device c.settle-waiting.new.driver) (state_of device c.end_behind-synced.new.driver)
    c.share_session-driver.result.tally c.is_none.result c.is_none.ensures c.if-is_none.false c.share_session-driver.ensures.serves c.share_session-driver.ensures.made c.settle-waiting.result c.settle-waiting.ensures.settles
    c.end_behind-synced.result.0 c.end_behind-synced.result.1 c.end_behind-synced.ensures.ends c.totals_since-totals.result
    (c.totals_since-totals.ensures
    ∙ ap₂ (λ (n : ℕ) (l : Log). totals_of load.requests (entries_since n l.facts)) (c.len-from.ensures ∙ ap (λ (l : Log). length l.facts) c.history.ensures) c.history-2.ensures)
