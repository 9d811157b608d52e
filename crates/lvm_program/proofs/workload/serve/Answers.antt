use Rattle.std.proofs.Common.{◌≡◌, ◌∙◌, ℕ, List, length, ap, ap₂, sym}
use Rattle.lvm_vol.specs.Facts.{Fact}
use Rattle.lvm_vol.specs.Log.{Log}
use Rattle.lvm_load.specs.Totals.{entries_since, totals_of}
use Rattle.lvm_load.specs.Weaving.{first_weaving}
use Rattle.lvm_session.specs.State.{state_of}
use Rattle.lvm_top.specs.passed.GroupLines.{without_facts}
use Rattle.lvm_top.proofs.passed.Tie.{path_frames, runs_both}
use Rattle.lvm_program.proofs.WovenLemmas.Woven.{causes_still, runs_unstuck}
use Rattle.lvm_program.proofs.workload.serve.Goals as goal

pub weave-woven-requires-clause-unstuck : goal.weave-woven-requires-clause-unstuck
weave-woven-requires-clause-unstuck g c = λ stuck. let e = sym c.requires.on ∙ stuck in cc e

pub weave-woven-requires-clause-some : goal.weave-woven-requires-clause-some
weave-woven-requires-clause-some g c = (c.requires.some.0.0, c.requires.some.0.1, c.requires.some.1)

pub behind-requires : goal.behind-requires
behind-requires g c = record { unstuck = runs_unstuck (state_of g.S.Shelf.device c.args.driver) (state_of g.S.Shelf.device c.weave-woven.new.driver) c.weave-woven.ensures.runs c.requires.on }

pub returns-clause-drawn : goal.returns-clause-drawn
returns-clause-drawn g c =
    let device = g.S.Shelf.device in
    let first = state_of device c.args.driver in
    let last = state_of device c.weave-woven.new.driver in
    let end = state_of device c.behind.new.driver in
    let load = c.args.load.now in
    let since = ap₂ (λ (n : ℕ) (l : Log). totals_of load.requests (entries_since n l.facts)) (c.len-from.ensures ∙ ap (λ (l : Log). length l.facts) c.history.ensures) c.history-2.ensures in
    let told : c.totals_since-totals.result ≡ totals_of load.requests (entries_since (length first.core.history.facts) end.core.history.facts) = c.totals_since-totals.ensures ∙ since in
    let facts = ap (λ (l : Log). l.facts) c.close_ended.ensures.history in
    record {
      last = last;
      weaves = c.weave-woven.ensures.weaves;
      causes = causes_still 1 c.args.blocks load.requests (first_weaving first load.clients load.seed) last end c.weave-woven.result c.totals_since-totals.result c.weave-woven.ensures.weaves c.weave-woven.ensures.causes c.weave-woven.ensures.totals c.behind.ensures.turns told;
      end = end;
      turns = c.behind.ensures.turns;
      runs = runs_both first last end c.weave-woven.ensures.runs c.behind.ensures.runs;
      sound = c.behind.ensures.sound;
      closed = c.close_ended.ensures.shelf;
      facts = facts;
      totals = told ∙ ap (λ (fs : List Fact). totals_of load.requests (entries_since (length first.core.history.facts) fs)) (sym facts);
    }

pub returns-clause-rooms : goal.returns-clause-rooms
returns-clause-rooms g c =
    let device = g.S.Shelf.device in
    let first = state_of device c.args.driver in
    let last = state_of device c.weave-woven.new.driver in
    let end = state_of device c.behind.new.driver in
    ap without_facts c.close_ended.ensures.history ∙ (path_frames (runs_both first last end c.weave-woven.ensures.runs c.behind.ensures.runs)).keeps.log
