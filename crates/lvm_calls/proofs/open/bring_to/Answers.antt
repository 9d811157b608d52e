use Rattle.std.proofs.Common.{◌<◌, true, length, map, sym, ◌∙◌, ap, subst}
use Rattle.lvm_hold.specs.Waiting.{AreBelow}
use Rattle.lvm_session.specs.declared.bringing.OpenCopy.{OpenCopy}
use Rattle.lvm_session.specs.State.{Core}
use Rattle.lvm_session.specs.Fields.{core_of}
use Rattle.lvm_num.specs.Descriptor.{copies_of}
use Rattle.lvm_session.specs.Bringing.{step_place}
use Rattle.lvm_session.specs.Calls.{aged, faults_of, opened}
use Rattle.lvm_calls.specs.Opening.{counts_seen}
use Rattle.lvm_calls.proofs.MovingLemmas.{move_leaves}
use Rattle.lvm_calls.proofs.Tables.{queue_before, queue_room}
use Rattle.lvm_calls.proofs.open.bring_to.Goals as goal

pub enter_step-requires-clause-room : goal.enter_step-requires-clause-room
enter_step-requires-clause-room g c =
    subst (λ (k : Core). length k.queue.rows < k.queue.room) (sym (c.age_table.ensures.core ∙ ap (λ (k : Core). record k { requests = map aged k.requests }) c.call_stale.ensures.core))
    (queue_room (core_of c.args.session.now) c.requires.going c.requires.none)

pub enter_step-requires-clause-last : goal.enter_step-requires-clause-last
enter_step-requires-clause-last g c =
    subst (λ (k : Core). AreBelow k.queue.rows c.opened_move-copy.result.place) (sym (c.age_table.ensures.core ∙ ap (λ (k : Core). record k { requests = map aged k.requests }) c.call_stale.ensures.core))
    (subst (AreBelow (core_of c.args.session.now).queue.rows) (sym (ap (λ (o : OpenCopy). o.place) c.opened_move-copy.ensures.is)) (queue_before (core_of c.args.session.now) c.requires.going c.requires.none))

pub returns-clause-opens : goal.returns-clause-opens
returns-clause-opens g c =
    let its = c.opened_move-copy.ensures in
    let left = move_leaves (core_of c.args.session.now) (core_of c.call_stale.new.session) (core_of c.age_table.new.session) (core_of c.enter_step.new.session) c.args.to c.opened_move-copy.result
    (opened true c.args.to c.args.lv c.args.lp c.args.number c.opened_move-copy.result.tried
    (faults_of (counts_seen (g.S.Shelf.device c.args.shelf.now) (core_of c.args.session.now)) (copies_of c.opened_move-copy.ensures.row c.args.lp) c.args.to) (step_place (core_of c.args.session.now)))
    c.call_stale.ensures.core c.call_stale.ensures.called c.age_table.ensures.core c.enter_step.ensures.core its.is in
    record { row = its.row; volume = its.volume; tried = c.opened_move-copy.result.tried; nothing = its.nothing; called = left.called; is = left.is }
