use Rattle.std.proofs.Common.{◌≡◌, ◌<◌, ◌||◌, Bool, true, false, length, arith, refl, sym, ap, ap₂, ◌∙◌, subst}
use Rattle.std.specs.Prelude.{nat_lt}
use Rattle.std.proofs.lemmas.Bool.{ltb-true}
use Rattle.lvm_vol.specs.Log.{Log}
use Rattle.lvm_session.specs.Left.{left_of}
use Rattle.lvm_keeps_events.specs.Turning.{is_last}
use Rattle.lvm_session.specs.State.{state_of}
use Rattle.lvm_driver.proofs.passed.Going.{runs_both}
use Rattle.lvm_load.specs.Waiting.{OthersWait}
use Rattle.lvm_load.specs.Weaving.{TakesWhere, idle_after, might_have_landed, turns_left}
use Rattle.lvm_load.proofs.WeavingLemmas.{landed_leaves, shrinks, turn_leaves}
use Rattle.lvm_load.proofs.WaitingLemmas.Others.{others_wait}
use Rattle.lvm_load.proofs.client.turn.Goals as goal

only_one : (a b : Bool) → (a || b) ≡ true → b ≡ false → a ≡ true
only_one true b some none = refl
only_one false b some none = absurd (cc)

pub take_behind-requires-clause-grown : goal.take_behind-requires-clause-grown
take_behind-requires-clause-grown g c goes =
    let after : c.len.result ≡ length c.turn-answer.new.self.1.history.facts = c.len.ensures ∙ ap (λ (log : Log). length log.facts) c.history-2.ensures in
    let grew : nat_lt c.len-before.result c.len.result ≡ true = only_one (nat_lt c.len-before.result c.len.result) (is_last c.turn-answer.result) (sym c.might_have_landed.ensures ∙ c.if-might_have_landed.true) goes in
    omega (arith, ltb-true c.len-before.result c.len.result grew, after)

pub take_behind-requires-clause-waiting : goal.take_behind-requires-clause-waiting
take_behind-requires-clause-waiting g c goes =
    let device = g.S.Shelf.device in
    let old = state_of device c.args.driver.now in
    let mid = state_of device c.turn-answer.new.self in
    let before : c.len-before.result ≡ length old.core.history.facts = c.len-before.ensures ∙ ap (λ (log : Log). length log.facts) c.history.ensures in
    subst (λ n. OthersWait n mid.core c.args.clients.now) (sym before) (others_wait old mid c.args.clients.now c.is_sound.ensures c.requires.waiting c.turn-answer.result c.turn-answer.ensures.makes goes)

pub returns-then-might_have_landed-clause-turns : goal.returns-then-might_have_landed-clause-turns
returns-then-might_have_landed-clause-turns g c =
    let device = g.S.Shelf.device in
    let old = state_of device c.args.driver.now in
    let mid = state_of device c.turn-answer.new.self in
    let before : c.len-before.result ≡ length old.core.history.facts = c.len-before.ensures ∙ ap (λ (log : Log). length log.facts) c.history.ensures in
    let after : c.len.result ≡ length mid.core.history.facts = c.len.ensures ∙ ap (λ (log : Log). length log.facts) c.history-2.ensures in
    let lands : might_have_landed old mid c.turn-answer.result ≡ c.might_have_landed.result = ap₂ (λ m n. nat_lt m n || is_last c.turn-answer.result) (sym before) (sym after) ∙ sym c.might_have_landed.ensures in
    record {
      sound = c.is_sound.ensures;
      unmoved = c.requires.unmoved;
      mid = mid;
      answer = c.turn-answer.result;
      made = c.turn-answer.ensures.makes;
      idle_is = c.idle_after.ensures;
      takes = subst (λ (b : Bool). TakesWhere b mid (state_of device c.take_behind.new.driver) c.args.clients.now c.take_behind.new.clients) (sym (lands ∙ c.if-might_have_landed.true)) c.take_behind.ensures.takes;
    }

pub returns-then-might_have_landed-clause-less : goal.returns-then-might_have_landed-clause-less
returns-then-might_have_landed-clause-less g c =
    let device = g.S.Shelf.device in
    let old = state_of device c.args.driver.now in
    let mid = state_of device c.turn-answer.new.self in
    let new = state_of device c.take_behind.new.driver in
    let less = turn_leaves old mid c.turn-answer.result c.args.idle.now c.turn-answer.ensures.tells c.requires.patient in
    let fewer = landed_leaves mid c.args.clients.now (length c.args.clients.now) new c.take_behind.new.clients c.take_behind.ensures.takes in
    subst (λ n. turns_left new.core n < turns_left old.core c.args.idle.now) (sym c.idle_after.ensures)
    (shrinks (left_of old.core) (left_of mid.core) (left_of new.core) c.args.idle.now (idle_after c.turn-answer.result c.args.idle.now) less fewer)

pub returns-then-might_have_landed-clause-runs : goal.returns-then-might_have_landed-clause-runs
returns-then-might_have_landed-clause-runs g c =
    let device = g.S.Shelf.device in
    runs_both (state_of device c.args.driver.now) (state_of device c.turn-answer.new.self) (state_of device c.take_behind.new.driver) c.turn-answer.ensures.runs c.take_behind.ensures.runs

pub returns-else-might_have_landed-clause-turns : goal.returns-else-might_have_landed-clause-turns
returns-else-might_have_landed-clause-turns g c =
    let device = g.S.Shelf.device in
    let old = state_of device c.args.driver.now in
    let mid = state_of device c.turn-answer.new.self in
    let before : c.len-before.result ≡ length old.core.history.facts = c.len-before.ensures ∙ ap (λ (log : Log). length log.facts) c.history.ensures in
    let after : c.len.result ≡ length mid.core.history.facts = c.len.ensures ∙ ap (λ (log : Log). length log.facts) c.history-2.ensures in
    let lands : might_have_landed old mid c.turn-answer.result ≡ c.might_have_landed.result = ap₂ (λ m n. nat_lt m n || is_last c.turn-answer.result) (sym before) (sym after) ∙ sym c.might_have_landed.ensures in
    record {
      sound = c.is_sound.ensures;
      unmoved = c.requires.unmoved;
      mid = mid;
      answer = c.turn-answer.result;
      made = c.turn-answer.ensures.makes;
      idle_is = c.idle_after.ensures;
      takes = subst (λ (b : Bool). TakesWhere b mid mid c.args.clients.now c.args.clients.now) (sym (lands ∙ c.if-might_have_landed.false)) (refl, refl);
    }
