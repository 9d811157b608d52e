use Rattle.std.proofs.Common.{[], Ok, Err, sym, subst}
use Rattle.lvm_session.specs.State.{State}
use Rattle.lvm_core.specs.State.{state_of}
use Rattle.lvm_volume_lines.specs.passed.VolumePlan.{GroupFault}
use Rattle.lvm_volume_lines.specs.passed.Volumes.{to_take}
use Rattle.lvm_volume_lines.specs.passed.Handover.{IsCommanded}
use Rattle.lvm_volume_lines.specs.Commands.{IsLeftOn}
use Rattle.lvm_volume_lines.proofs.CopiesServingLemmas.{removal_fails, removed_may, removed_rows}
use Rattle.lvm_volume_lines.proofs.copies.remove_copies.Goals as goal

pub rmlvcopy-requires : goal.rmlvcopy-requires
rmlvcopy-requires g c = record { settled = λ takes. c.requires.settled }

pub go_on-requires-clause-rows : goal.go_on-requires-clause-rows
go_on-requires-clause-rows g c =
    let old : State = state_of g.S.Shelf.device c.args.driver in
    let new : State = state_of g.S.Shelf.device c.rmlvcopy.new.driver in
    let commanded : IsCommanded (to_take c.args.lv c.args.copies c.args.driver.1) c.args.patience.now.left c.rmlvcopy.new.patience.left old new (Ok tt) =
    record { began = c.requires.settled; on = c.in-Ok.ensures.settled (record { on = c.requires.settled.power; requests = c.requires.settled.quiet.requests }); still = c.in-Ok.ensures.held; fresh = c.in-Ok.ensures.fresh; leaves = c.rmlvcopy.ensures.leaves } in
    removed_rows c.args.lv c.args.copies c.args.patience.now.left c.rmlvcopy.new.patience.left old new c.requires.sound c.requires.rows commanded c.in-Ok.ensures.gives

pub go_on-requires-clause-may : goal.go_on-requires-clause-may
go_on-requires-clause-may g c =
    let old : State = state_of g.S.Shelf.device c.args.driver in
    let new : State = state_of g.S.Shelf.device c.rmlvcopy.new.driver in
    let commanded : IsCommanded (to_take c.args.lv c.args.copies c.args.driver.1) c.args.patience.now.left c.rmlvcopy.new.patience.left old new (Ok tt) =
    record { began = c.requires.settled; on = c.in-Ok.ensures.settled (record { on = c.requires.settled.power; requests = c.requires.settled.quiet.requests }); still = c.in-Ok.ensures.held; fresh = c.in-Ok.ensures.fresh; leaves = c.rmlvcopy.ensures.leaves } in
    removed_may c.args.lv c.args.copies c.args.patience.now.left c.rmlvcopy.new.patience.left old new c.requires.sound c.requires.rows commanded c.in-Ok.ensures.gives

pub after_fault-requires : goal.after_fault-requires
after_fault-requires g c =
    let old : State = state_of g.S.Shelf.device c.args.driver in
    let new : State = state_of g.S.Shelf.device c.rmlvcopy.new.driver in
    let why : GroupFault = c.in-Err.why in
    let commanded : IsCommanded (to_take c.args.lv c.args.copies c.args.driver.1) c.args.patience.now.left c.rmlvcopy.new.patience.left old new (Err why) =
    record { began = c.requires.settled; on = c.in-Err.ensures.settled (record { on = c.requires.settled.power; requests = c.requires.settled.quiet.requests }); still = c.in-Err.ensures.held; fresh = c.in-Err.ensures.fresh; leaves = c.rmlvcopy.ensures.leaves } in
    let fails = removal_fails c.args.lv c.args.copies c.args.patience.now.left c.rmlvcopy.new.patience.left old new c.requires.sound c.requires.rows why commanded c.in-Err.ensures.gives in
    record { dark = fails.dark; lit = fails.lit; rows = fails.rows; may = fails.may }

pub returns-in-Ok : goal.returns-in-Ok
returns-in-Ok g c =
    let old : State = state_of g.S.Shelf.device c.args.driver in
    let new : State = state_of g.S.Shelf.device c.rmlvcopy.new.driver in
    record {
      given = Ok tt;
      left = c.rmlvcopy.new.driver;
      after = c.rmlvcopy.new.patience.left;
      gives = c.in-Ok.ensures.gives;
      commanded = record { began = c.requires.settled; on = c.in-Ok.ensures.settled (record { on = c.requires.settled.power; requests = c.requires.settled.quiet.requests }); still = c.in-Ok.ensures.held; fresh = c.in-Ok.ensures.fresh; leaves = c.rmlvcopy.ensures.leaves };
      is = subst (IsLeftOn g.S.Shelf.device [] c.rmlvcopy.new.driver c.args.posts c.args.bytes) (sym c.answered.ensures.stage) c.go_on.ensures;
      says = c.answered.ensures.reply;
    }

pub returns-in-Err : goal.returns-in-Err
returns-in-Err g c =
    let old : State = state_of g.S.Shelf.device c.args.driver in
    let new : State = state_of g.S.Shelf.device c.rmlvcopy.new.driver in
    record {
      given = Err c.in-Err.why;
      left = c.rmlvcopy.new.driver;
      after = c.rmlvcopy.new.patience.left;
      gives = c.in-Err.ensures.gives;
      commanded = record { began = c.requires.settled; on = c.in-Err.ensures.settled (record { on = c.requires.settled.power; requests = c.requires.settled.quiet.requests }); still = c.in-Err.ensures.held; fresh = c.in-Err.ensures.fresh; leaves = c.rmlvcopy.ensures.leaves };
      is = c.after_fault.ensures.stage;
      says = c.after_fault.ensures.reply;
    }
