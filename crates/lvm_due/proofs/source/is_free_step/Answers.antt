use Rattle.std.proofs.Common.{sym, ◌∙◌, ap, not, refl}
use Rattle.std.specs.Prelude.{is_some}
use Rattle.lvm_hold.proofs.OrderLemmas.{blocked_tells}
use Rattle.lvm_session.specs.Fields.{core_of}
use Rattle.lvm_session.specs.Bringing.{step_of, step_row}
use Rattle.lvm_due.proofs.Steps.{ascends, flipped, step_in}
use Rattle.lvm_due.proofs.source.is_free_step.Goals as goal

pub blocked_by-requires : goal.blocked_by-requires
blocked_by-requires c = record { row = step_row (core_of c.args.session.now) c.args.copy.now; among = step_in (core_of c.args.session.now) c.args.copy.now c.requires.going c.requires.copy c.requires.running; its = refl }

pub returns : goal.returns
returns c =
    let core = core_of c.args.session.now in
    let among = step_in core c.args.copy.now c.requires.going c.requires.copy c.requires.running in
    flipped c.is_none.result (is_some c.blocked_by.result) (sym c.is_none.ensures)
    ∙ ap not (blocked_tells core.queue.rows c.args.copy.now.place (step_of core c.args.copy.now) _ (ascends core c.requires.going) among c.blocked_by.ensures.blocks c.blocked_by.ensures.least)
