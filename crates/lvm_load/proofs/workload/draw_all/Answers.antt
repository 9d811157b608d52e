use Rattle.std.proofs.Common.{◌≡◌, ◌+◌, Bool, true, false, ℕ, Option, refl, sym, ◌∙◌, subst, arith}
use Rattle.lvm_session.specs.State.{state_of}
use Rattle.lvm_driver.proofs.passed.Going.{path_frames, runs_both}
use Rattle.lvm_load.specs.Weaving.{Draws, NamesNext, NoneDrawn, OneDrawn, Unheard, weaving}
use Rattle.lvm_load.proofs.WeavingLemmas.{and_then, at_first}
use Rattle.lvm_load.proofs.WaitingLemmas.Waiting.{asks_wait, named_free}
use Rattle.lvm_load.proofs.RequestsLemmas.{none_of}
use Rattle.lvm_load.proofs.workload.draw_all.Goals as goal

pub loop-drawn-init : goal.loop-drawn-init
loop-drawn-init g c = (NoneDrawn, at_first (state_of g.S.Shelf.device c.args.driver.now) c.requires.unstuck, c.requires.patient, omega arith, c.requires.room, c.requires.clients.2)

pub ask-requires-clause-unstuck : goal.ask-requires-clause-unstuck
ask-requires-clause-unstuck g c =
    let device = g.S.Shelf.device in
    (and_then (state_of device c.args.driver.now) (state_of device c.loop-drawn.driver) (state_of device c.next_client.new.driver) c.loop-drawn.invariant.1 c.next_client.ensures.runs).unstuck

pub returns-in_default-clause-draws : goal.returns-in_default-clause-draws
returns-in_default-clause-draws g c =
    let device = g.S.Shelf.device in
    let old = weaving (state_of device c.loop-drawn.driver) c.loop-drawn.clients c.loop-drawn.rng c.loop-drawn.idle in
    let new = weaving (state_of device c.next_client.new.driver) c.next_client.new.clients c.next_client.new.rng c.next_client.new.idle in
    let gives = subst (λ (o : Option ℕ). NamesNext old new o) (none_of c.next_client.result c.in_default.not-Some) c.next_client.ensures.gives in
    record {
      drawn = c.loop-drawn.drawn;
      more = false;
      draws = Unheard c.loop-drawn.invariant.0 gives.0 gives.1;
      most = c.loop-drawn.invariant.3;
      all = λ e. absurd (cc e);
    }

pub returns-in_default-clause-runs : goal.returns-in_default-clause-runs
returns-in_default-clause-runs g c =
    let device = g.S.Shelf.device in
    (runs_both (state_of device c.args.driver.now) (state_of device c.loop-drawn.driver) (state_of device c.next_client.new.driver) c.loop-drawn.invariant.1.runs c.next_client.ensures.runs, c.next_client.ensures.patient, c.next_client.ensures.waiting)

pub returns-then-not-ask-clause-draws : goal.returns-then-not-ask-clause-draws
returns-then-not-ask-clause-draws g c =
    let device = g.S.Shelf.device in
    let named = weaving (state_of device c.next_client.new.driver) c.next_client.new.clients c.next_client.new.rng c.next_client.new.idle in
    let less = c.loop-drawn-test.true in
    record {
      drawn = c.loop-drawn.drawn + 1;
      more = c.ask.result;
      draws = OneDrawn c.loop-drawn.invariant.0 named c.in-Some.client c.ask.result c.in-Some.ensures.gives c.ask.ensures.asks c.ask.ensures.rng refl;
      most = omega (arith, less);
      all = λ e. let both : ◌≡◌ {A = Bool} true false = sym e ∙ c.if-not-ask.true in absurd (cc both);
    }

pub returns-then-not-ask-clause-runs : goal.returns-then-not-ask-clause-runs
returns-then-not-ask-clause-runs g c =
    let device = g.S.Shelf.device in
    let first = state_of device c.args.driver.now in
    let mid = state_of device c.next_client.new.driver in
    let new = state_of device c.ask.new.driver in
    let start = weaving (state_of device c.loop-drawn.driver) c.loop-drawn.clients c.loop-drawn.rng c.loop-drawn.idle in
    let named = weaving mid c.next_client.new.clients c.next_client.new.rng c.next_client.new.idle in
    (runs_both first mid new (runs_both first (state_of device c.loop-drawn.driver) mid c.loop-drawn.invariant.1.runs c.next_client.ensures.runs) c.ask.ensures.runs, c.next_client.ensures.patient, asks_wait c.args.lv c.args.blocks c.in-Some.client c.next_client.new.rng mid new c.next_client.new.clients c.ask.new.clients c.ask.result c.next_client.ensures.waiting (named_free start named c.in-Some.client c.in-Some.ensures.gives) c.ask.ensures.asks)

pub loop-drawn-preserved : goal.loop-drawn-preserved
loop-drawn-preserved g c =
    let device = g.S.Shelf.device in
    let first = state_of device c.args.driver.now in
    let old = state_of device c.loop-drawn.driver in
    let mid = state_of device c.next_client.new.driver in
    let new = state_of device c.ask.new.driver in
    let named = weaving mid c.next_client.new.clients c.next_client.new.rng c.next_client.new.idle in
    let start = weaving old c.loop-drawn.clients c.loop-drawn.rng c.loop-drawn.idle in
    let less = c.loop-drawn-test.true in (
      subst (λ (b : Bool). Draws c.args.lv c.args.blocks (weaving first c.args.clients.now c.args.rng.now c.args.idle.now) (c.loop-drawn.drawn + 1) b (weaving new c.ask.new.clients c.ask.new.rng c.next_client.new.idle)) c.if-not-ask.false
          (OneDrawn c.loop-drawn.invariant.0 named c.in-Some.client c.ask.result c.in-Some.ensures.gives c.ask.ensures.asks c.ask.ensures.rng refl),
      and_then first mid new (and_then first old mid c.loop-drawn.invariant.1 c.next_client.ensures.runs) c.ask.ensures.runs,
      c.next_client.ensures.patient,
      omega (arith, less),
      c.ask.ensures.room,
      asks_wait c.args.lv c.args.blocks c.in-Some.client c.next_client.new.rng mid new c.next_client.new.clients c.ask.new.clients c.ask.result c.next_client.ensures.waiting (named_free start named c.in-Some.client c.in-Some.ensures.gives) c.ask.ensures.asks,
    )

pub next_client-requires-clause-unmoved : goal.next_client-requires-clause-unmoved
next_client-requires-clause-unmoved g c = (path_frames c.loop-drawn.invariant.1.runs).keeps.moves c.requires.unmoved
