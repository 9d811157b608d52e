use Rattle.std.proofs.Common.{◌≡◌, ◌%◌, ℕ, Some, None, length, ap, subst, arith}
use Rattle.std.proofs.lemmas.Bool.{lt-leb}
use Rattle.std.proofs.lemmas.Nat.{mod_below}
use Rattle.rand_pcg.specs.Lcg.{Lcg}
use Rattle.lvm_session.specs.State.{state_of}
use Rattle.lvm_driver.proofs.passed.Going.{path_frames}
use Rattle.lvm_load.specs.Weaving.{NoWord, OneWord, open_of, weaving}
use Rattle.lvm_load.proofs.WeavingLemmas.{and_then, at_first, turn_bound}
use Rattle.lvm_load.proofs.WaitingLemmas.Waiting.{turn_waits}
use Rattle.lvm_load.proofs.RequestsLemmas.{none_is, open_there, some_of}
use Rattle.lvm_load.proofs.workload.next_client.Goals as goal

pub loop-idle-init : goal.loop-idle-init
loop-idle-init g c = (NoWord, at_first (state_of g.S.Shelf.device c.args.driver.now) c.requires.unstuck, c.requires.patient, c.requires.waiting)

pub returns-then-is_none-clause-gives : goal.returns-then-is_none-clause-gives
returns-then-is_none-clause-gives g c =
    let s = state_of g.S.Shelf.device c.loop-idle.driver in
    let clients = c.loop-idle.clients in
    let keeps = c.loop-idle.auto.clients in
    let some = c.requires.few.0 in
    let within = mod_below c.next_word.result (length clients) (omega (arith, keeps, some)) in
    record {
      mid = weaving s clients c.loop-idle.rng c.loop-idle.idle;
      passes = c.loop-idle.invariant.0;
      patient = lt-leb 1000000 c.loop-idle.idle c.loop-idle-test.true;
      client = ap (λ (w : ℕ). w % length clients) c.next_word.ensures.word;
      free = open_there clients (c.next_word.result % length clients) None within (none_is _ c.is_none.result c.is_none.ensures c.if-is_none.true);
      is = ap (λ (r : Lcg). weaving s clients r c.loop-idle.idle) c.next_word.ensures.after;
    }

pub loop-idle-preserved : goal.loop-idle-preserved
loop-idle-preserved g c =
    let device = g.S.Shelf.device in
    let old = state_of device c.loop-idle.driver in
    let new = state_of device c.turn.new.driver in
    let clients = c.loop-idle.clients in
    let keeps = c.loop-idle.auto.clients in
    let some = c.requires.few.0 in
    let few = c.loop-idle-test.true in
    let k = c.next_word.result % length clients in
    let within = mod_below c.next_word.result (length clients) (omega (arith, keeps, some)) in
    let has = some_of _ c.is_none.result c.is_none.ensures c.if-is_none.false in (
      OneWord c.loop-idle.invariant.0 (record {
        id = has.0;
        busy = subst (λ (n : ℕ). open_of clients n ≡ Some has.0) (ap (λ (w : ℕ). w % length clients) c.next_word.ensures.word) (open_there clients k (Some has.0) within has.1);
        patient = lt-leb 1000000 c.loop-idle.idle few;
        rng = c.next_word.ensures.after;
        turns = c.turn.ensures.turns;
      }),
      and_then (state_of device c.args.driver.now) old new c.loop-idle.invariant.1 c.turn.ensures.runs,
      turn_bound old new clients c.turn.new.clients c.loop-idle.idle c.turn.new.idle c.turn.ensures.turns few,
      turn_waits old new clients c.turn.new.clients c.loop-idle.idle c.turn.new.idle c.loop-idle.invariant.3 c.turn.ensures.turns,
    )

pub turn-requires-clause-unmoved : goal.turn-requires-clause-unmoved
turn-requires-clause-unmoved g c = (path_frames c.loop-idle.invariant.1.runs).keeps.moves c.requires.unmoved
