use Rattle.std.proofs.Common.{◌<◌, length, sym, ap, subst}
use Rattle.lvm_hold.specs.Waiting.{AreBelow}
use Rattle.lvm_session.specs.declared.bringing.OpenCopy.{OpenCopy}
use Rattle.lvm_session.specs.State.{Core}
use Rattle.lvm_session.specs.Fields.{core_of}
use Rattle.lvm_calls.proofs.Tables.{queue_before, queue_room, step_enters}
use Rattle.lvm_calls.proofs.open.bring_up.Goals as goal

pub enter_step-requires-clause-room : goal.enter_step-requires-clause-room
enter_step-requires-clause-room g c = subst (λ (k : Core). length k.queue.rows < k.queue.room) (sym c.age_table.ensures.core) (queue_room (core_of c.args.session.now) c.requires.going c.requires.none)

pub enter_step-requires-clause-last : goal.enter_step-requires-clause-last
enter_step-requires-clause-last g c =
    subst (λ (k : Core). AreBelow k.queue.rows c.opened-copy.result.place) (sym c.age_table.ensures.core)
    (subst (AreBelow (core_of c.args.session.now).queue.rows) (sym (ap (λ (o : OpenCopy). o.place) c.opened-copy.ensures.is)) (queue_before (core_of c.args.session.now) c.requires.going c.requires.none))

pub returns-clause-opens : goal.returns-clause-opens
returns-clause-opens g c =
    let its = c.opened-copy.ensures in
    record {
      row = its.row;
      volume = its.volume;
      pp = its.pp;
      copy_is = its.copy_is;
      tried = c.opened-copy.result.tried;
      nothing = its.nothing;
      is = step_enters (core_of c.args.session.now) (core_of c.age_table.new.session) (core_of c.enter_step.new.session) c.opened-copy.result _ c.age_table.ensures.core c.enter_step.ensures.core its.is;
    }
