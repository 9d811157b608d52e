use Rattle.std.proofs.Common.{◌≡◌, ◌+◌, ℕ, length, subst, arith}
use Rattle.lvm_session.specs.State.{state_of}
use Rattle.lvm_driver.proofs.passed.Going.{runs_both, runs_none}
use Rattle.lvm_load.specs.Weaving.{NextClient, NoClient, TakesEach}
use Rattle.lvm_load.proofs.WaitingLemmas.Others.{all_wait, others_left}
use Rattle.lvm_load.proofs.client.take_only.Goals as goal

pub loop-k-init : goal.loop-k-init
loop-k-init g c =
    let first = state_of g.S.Shelf.device c.args.driver.now in
    let next = c.next_asker-k in
    record {
      within = next.ensures.within.1;
      takes = all_wait first first c.args.clients.now c.args.clients.now c.args.id c.is_sound.ensures c.requires.waiting 0 next.result next.ensures.within.0 next.ensures.others NoClient;
      runs = runs_none first;
      waiting = c.requires.waiting;
    }

pub loop-k-preserved : goal.loop-k-preserved
loop-k-preserved g c =
    let device = g.S.Shelf.device in
    let first = state_of device c.args.driver.now in
    let old = state_of device c.loop-k.driver in
    let new = state_of device c.take.new.driver in
    let so_far = c.loop-k.invariant in
    let next = c.next_asker-k-in-loop-k in
    let waiting = others_left c.loop-k.k c.args.id old new c.loop-k.clients c.take.new.clients so_far.waiting c.take.ensures.takes in
    record {
      within = let high = next.ensures.within.1 in let long = c.loop-k.auto.clients in let same = c.take.auto.clients in omega (arith, high, long, same);
      takes = all_wait first new c.args.clients.now c.take.new.clients c.args.id c.is_sound-in-loop-k.ensures waiting (c.loop-k.k + 1) next.result next.ensures.within.0 next.ensures.others (NextClient so_far.takes c.take.ensures.takes);
      runs = runs_both first old new so_far.runs c.take.ensures.runs;
      waiting = waiting;
    }

pub returns-clause-takes : goal.returns-clause-takes
returns-clause-takes g c =
    let device = g.S.Shelf.device in
    let all : c.loop-k.k ≡ length c.args.clients.now = let test = c.loop-k-test.false in let within = c.loop-k.invariant.within in omega (arith, test, within) in
    subst (λ (n : ℕ). TakesEach (state_of device c.args.driver.now) c.args.clients.now n (state_of device c.loop-k.driver) c.loop-k.clients) all c.loop-k.invariant.takes

pub returns-clause-runs : goal.returns-clause-runs
returns-clause-runs g c = c.loop-k.invariant.runs
