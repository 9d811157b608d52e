use Rattle.std.proofs.Common.{refl, sym, ◌∙◌}
use Rattle.lvm_session.specs.State.{state_of}
use Rattle.lvm_load.specs.Bringing.{ByClosing, ByTurn}
use Rattle.lvm_load.proofs.LendingLemmas.Bringing.{closing_enters, not_closed, not_running}
use Rattle.lvm_load.proofs.lent.bring_on.Goals as goal

pub open_at-requires-clause-closed : goal.open_at-requires-clause-closed
open_at-requires-clause-closed g c = sym c.copy_state.ensures.is ∙ c.in-Closed.is

pub returns-in-Running : goal.returns-in-Running
returns-in-Running g c = ByTurn c.in-Running.cursor (sym c.copy_state.ensures.is ∙ c.in-Running.is) c.make_turn.ensures

pub returns-in_default : goal.returns-in_default
returns-in_default g c =
    let device = g.S.Shelf.device in
    let is = sym c.copy_state.ensures.is in
    ByClosing (not_closed c.copy_state.result c.args.driver.now.1 is c.in_default.not-Closed) (not_running c.copy_state.result c.args.driver.now.1 is c.in_default.not-Running)
    (closing_enters (state_of device c.args.driver.now) (state_of device c.close_copy.new.self) c.close_copy.ensures.closed c.close_copy.ensures.runs) c.close_copy.ensures.closed refl
