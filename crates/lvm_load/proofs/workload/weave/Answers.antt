use Rattle.std.proofs.Common.{ℕ, ◌≤◌, List, length, sym, ◌∙◌, ap, ap₂, subst, arith}
use Rattle.std.proofs.lemmas.List.{length-replicate, take-replicate}
use Rattle.rand_pcg.specs.Lcg.{Lcg}
use Rattle.lvm_session.specs.State.{state_of}
use Rattle.lvm_driver.proofs.passed.Going.{path_frames, runs_both, stays_unstuck}
use Rattle.lvm_load.specs.declared.client.Client.{Client}
use Rattle.lvm_vol.specs.Log.{Log}
use Rattle.lvm_load.specs.Totals.{entries_since, totals_of}
use Rattle.lvm_load.specs.Weaving.{DrawsAll, Weaving, fresh_client, weaving}
use Rattle.lvm_load.specs.Waiting.{AreWaiting}
use Rattle.lvm_load.proofs.EndsLemmas.{has_causes}
use Rattle.lvm_load.proofs.WaitingLemmas.Waiting.{fresh_wait}
use Rattle.lvm_load.proofs.workload.weave.Goals as goal

pub draw_all-requires-clause-clients : goal.draw_all-requires-clause-clients
draw_all-requires-clause-clients g c =
    let n = c.args.workload.now.clients in
    let core = c.args.driver.now.1 in
    let long = length-replicate n fresh_client in
    subst (λ (clients : List Client). (1 ≤ length clients) × (length clients ≤ 64) × AreWaiting core clients) (sym (take-replicate n 64 fresh_client c.requires.some.1))
    (omega (arith, long, c.requires.some.0), omega (arith, long, c.requires.some.1), fresh_wait core n)

pub returns-clause-weaves : goal.returns-clause-weaves
returns-clause-weaves g c =
    let first = state_of g.S.Shelf.device c.args.driver.now in
    let mid = weaving (state_of g.S.Shelf.device c.draw_all.new.driver) c.draw_all.new.clients c.draw_all.new.rng c.draw_all.new.idle in
    let start = ap₂ (λ (clients : List Client) (rng : Lcg). weaving first clients rng 0) (take-replicate c.args.workload.now.clients 64 fresh_client c.requires.some.1) c.generator-rng.ensures in
    record {
      mid = mid;
      after = c.finish.new.clients;
      idle = c.finish.new.idle;
      draws = subst (λ (w : Weaving). DrawsAll c.args.lv c.args.blocks c.args.workload.now.requests w mid) start c.draw_all.ensures.draws;
      finishes = c.finish.ensures.finishes;
      waits_is = c.is_waiting-waiting.ensures;
    }

pub returns-clause-totals : goal.returns-clause-totals
returns-clause-totals g c =
    c.totals_since.ensures
    ∙ ap₂ (λ (n : ℕ) (l : Log). totals_of c.args.workload.now.requests (entries_since n l.facts)) (c.len-from.ensures ∙ ap (λ (l : Log). length l.facts) c.history.ensures) c.history-2.ensures

pub returns-clause-causes : goal.returns-clause-causes
returns-clause-causes g c =
    let device = g.S.Shelf.device in
    has_causes c.args.lv c.args.blocks c.args.workload.now.requests c.args.workload.now.seed c.args.workload.now.clients (state_of device c.args.driver.now) (state_of device c.finish.new.driver) (record { totals = c.totals_since.result; waiting = c.is_waiting-waiting.result }) c.is_sound.ensures (returns-clause-weaves g c) (returns-clause-totals g c)

pub returns-clause-runs : goal.returns-clause-runs
returns-clause-runs g c =
    let device = g.S.Shelf.device in
    runs_both (state_of device c.args.driver.now) (state_of device c.draw_all.new.driver) (state_of device c.finish.new.driver) c.draw_all.ensures.runs.0 c.finish.ensures.runs

pub finish-requires-clause-unstuck : goal.finish-requires-clause-unstuck
finish-requires-clause-unstuck g c = stays_unstuck c.args.driver.now.1 c.draw_all.new.driver.1 (path_frames c.draw_all.ensures.runs.0).keeps.power c.requires.unstuck

pub finish-requires-clause-unmoved : goal.finish-requires-clause-unmoved
finish-requires-clause-unmoved g c = (path_frames c.draw_all.ensures.runs.0).keeps.moves c.requires.unmoved
