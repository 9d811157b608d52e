use Rattle.std.proofs.Common.{List, Ok, Err, sym, subst}
use Rattle.std.specs.Prelude.{All}
use Rattle.lvm_num.specs.declared.place.Pp.{Pp}
use Rattle.lvm_status.specs.Calls.{IsMarkable}
use Rattle.lvm_session.specs.State.{State}
use Rattle.lvm_core.specs.State.{state_of}
use Rattle.lvm_volume_lines.specs.passed.VolumePlan.{GroupFault}
use Rattle.lvm_volume_lines.specs.passed.Volumes.{to_add}
use Rattle.lvm_volume_lines.specs.passed.TieCommands.{MayServeWith}
use Rattle.lvm_volume_lines.specs.passed.Handover.{IsCommanded}
use Rattle.lvm_volume_lines.specs.Commands.{IsLeftOn}
use Rattle.lvm_volume_lines.proofs.CopiesServingLemmas.{added_marks, added_may, added_rows, adding_fails}
use Rattle.lvm_volume_lines.proofs.passed.TieCommands.{has_volumes}
use Rattle.lvm_volume_lines.proofs.copies.add_copies.Goals as goal

pub mklvcopy-requires : goal.mklvcopy-requires
mklvcopy-requires g c = record { settled = λ takes. c.requires.settled }

pub go_on-requires-clause-rows : goal.go_on-requires-clause-rows
go_on-requires-clause-rows g c =
    let old : State = state_of g.S.Shelf.device c.args.driver in
    let new : State = state_of g.S.Shelf.device c.mklvcopy.new.driver in
    let commanded : IsCommanded (to_add c.args.lv c.args.copies c.args.driver.1) c.args.patience.now.left c.mklvcopy.new.patience.left old new (Ok c.in-Ok.added) =
    record { began = c.requires.settled; on = c.in-Ok.ensures.settled (record { on = c.requires.settled.power; requests = c.requires.settled.quiet.requests }); still = c.in-Ok.ensures.held; fresh = c.in-Ok.ensures.fresh; leaves = c.mklvcopy.ensures.leaves } in
    added_rows c.args.lv c.args.copies c.args.patience.now.left c.mklvcopy.new.patience.left old new c.requires.sound c.requires.rows c.in-Ok.added commanded c.in-Ok.ensures.gives

pub go_on-requires-clause-markable : goal.go_on-requires-clause-markable
go_on-requires-clause-markable g c =
    let old : State = state_of g.S.Shelf.device c.args.driver in
    let new : State = state_of g.S.Shelf.device c.mklvcopy.new.driver in
    let commanded : IsCommanded (to_add c.args.lv c.args.copies c.args.driver.1) c.args.patience.now.left c.mklvcopy.new.patience.left old new (Ok c.in-Ok.added) =
    record { began = c.requires.settled; on = c.in-Ok.ensures.settled (record { on = c.requires.settled.power; requests = c.requires.settled.quiet.requests }); still = c.in-Ok.ensures.held; fresh = c.in-Ok.ensures.fresh; leaves = c.mklvcopy.ensures.leaves } in
    subst (All (IsMarkable c.mklvcopy.new.driver.1.origin.table)) (sym c.as_slice.ensures)
    (added_marks c.args.lv c.args.copies c.args.patience.now.left c.mklvcopy.new.patience.left old new c.requires.sound c.requires.rows c.in-Ok.added commanded c.in-Ok.ensures.gives)

pub go_on-requires-clause-may : goal.go_on-requires-clause-may
go_on-requires-clause-may g c =
    let old : State = state_of g.S.Shelf.device c.args.driver in
    let new : State = state_of g.S.Shelf.device c.mklvcopy.new.driver in
    let commanded : IsCommanded (to_add c.args.lv c.args.copies c.args.driver.1) c.args.patience.now.left c.mklvcopy.new.patience.left old new (Ok c.in-Ok.added) =
    record { began = c.requires.settled; on = c.in-Ok.ensures.settled (record { on = c.requires.settled.power; requests = c.requires.settled.quiet.requests }); still = c.in-Ok.ensures.held; fresh = c.in-Ok.ensures.fresh; leaves = c.mklvcopy.ensures.leaves } in
    subst (λ (ps : List Pp). MayServeWith ps new) (sym c.as_slice.ensures)
    (added_may c.args.lv c.args.copies c.args.patience.now.left c.mklvcopy.new.patience.left old new c.requires.sound c.requires.rows c.in-Ok.added commanded c.in-Ok.ensures.gives)

pub go_on-requires-clause-none : goal.go_on-requires-clause-none
go_on-requires-clause-none g c =
    let old : State = state_of g.S.Shelf.device c.args.driver in
    let new : State = state_of g.S.Shelf.device c.mklvcopy.new.driver in
    λ none. absurd (has_volumes c.args.lv c.args.copies old new c.in-Ok.added c.in-Ok.ensures.gives none)

pub after_fault-requires : goal.after_fault-requires
after_fault-requires g c =
    let old : State = state_of g.S.Shelf.device c.args.driver in
    let new : State = state_of g.S.Shelf.device c.mklvcopy.new.driver in
    let why : GroupFault = c.in-Err.why in
    let commanded : IsCommanded (to_add c.args.lv c.args.copies c.args.driver.1) c.args.patience.now.left c.mklvcopy.new.patience.left old new (Err why) =
    record { began = c.requires.settled; on = c.in-Err.ensures.settled (record { on = c.requires.settled.power; requests = c.requires.settled.quiet.requests }); still = c.in-Err.ensures.held; fresh = c.in-Err.ensures.fresh; leaves = c.mklvcopy.ensures.leaves } in
    let fails = adding_fails c.args.lv c.args.copies c.args.patience.now.left c.mklvcopy.new.patience.left old new c.requires.sound c.requires.rows why commanded c.in-Err.ensures.gives in
    record { dark = fails.dark; lit = fails.lit; rows = fails.rows; may = fails.may }

pub returns-in-Ok : goal.returns-in-Ok
returns-in-Ok g c =
    let old : State = state_of g.S.Shelf.device c.args.driver in
    let new : State = state_of g.S.Shelf.device c.mklvcopy.new.driver in
    record {
      given = Ok c.in-Ok.added;
      left = c.mklvcopy.new.driver;
      after = c.mklvcopy.new.patience.left;
      gives = c.in-Ok.ensures.gives;
      commanded = record { began = c.requires.settled; on = c.in-Ok.ensures.settled (record { on = c.requires.settled.power; requests = c.requires.settled.quiet.requests }); still = c.in-Ok.ensures.held; fresh = c.in-Ok.ensures.fresh; leaves = c.mklvcopy.ensures.leaves };
      is = subst (IsLeftOn g.S.Shelf.device c.in-Ok.added c.mklvcopy.new.driver c.args.posts c.args.bytes) (sym c.answered.ensures.stage)
          (subst (λ (ps : List Pp). IsLeftOn g.S.Shelf.device ps c.mklvcopy.new.driver c.args.posts c.args.bytes c.go_on.result) c.as_slice.ensures c.go_on.ensures);
      says = c.answered.ensures.reply;
    }

pub returns-in-Err : goal.returns-in-Err
returns-in-Err g c =
    let old : State = state_of g.S.Shelf.device c.args.driver in
    let new : State = state_of g.S.Shelf.device c.mklvcopy.new.driver in
    record {
      given = Err c.in-Err.why;
      left = c.mklvcopy.new.driver;
      after = c.mklvcopy.new.patience.left;
      gives = c.in-Err.ensures.gives;
      commanded = record { began = c.requires.settled; on = c.in-Err.ensures.settled (record { on = c.requires.settled.power; requests = c.requires.settled.quiet.requests }); still = c.in-Err.ensures.held; fresh = c.in-Err.ensures.fresh; leaves = c.mklvcopy.ensures.leaves };
      is = c.after_fault.ensures.stage;
      says = c.after_fault.ensures.reply;
    }
