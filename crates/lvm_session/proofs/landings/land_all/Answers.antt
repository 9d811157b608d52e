use Rattle.std.proofs.Common.{◌∙◌, subst, sym, drop, ◌+◌, ap}
use Rattle.lvm_vol.specs.Log.{Log, landed_fact, with_fact}
use Rattle.lvm_session.proofs.DarkLemmas.{IsLanding, next_passes, next_lands, rest_is}
use Rattle.lvm_session.proofs.landings.land_all.Goals as goal
use Rattle.lvm_session.proofs.landings.land_all.Goals.{then-is_waiting, else-is_waiting}

pub loop-open-preserved : goal.loop-open-preserved
loop-open-preserved c =
    let first = c.args.history.now in
    let all = c.args.requests.now in
    let i = c.loop-open.open-index in
    let o = c.open-item.result in
    let rest = rest_is all i o c.loop-open-test.true c.open-item.is in
    elim c.if-is_waiting.branch [
      | then-is_waiting w ↦ subst (λ (now : Log). IsLanding c.args.how first now all (drop (i + 1) all)) (sym w.history-is)
          (next_lands c.args.how first c.loop-open.history all i o c.is_waiting.result rest c.loop-open.invariant c.is_waiting.ensures w.land.new.self w.if-is_waiting.true
          (w.land.ensures.entered ∙ ap (λ s. with_fact c.loop-open.history (landed_fact c.loop-open.history.facts o.request.id c.args.how s)) w.has_started.ensures))
      | else-is_waiting w ↦ subst (λ (now : Log). IsLanding c.args.how first now all (drop (i + 1) all)) (sym w.history-is)
          (next_passes c.args.how first c.loop-open.history all i o c.is_waiting.result rest c.loop-open.invariant c.is_waiting.ensures w.if-is_waiting.false)
    ]
