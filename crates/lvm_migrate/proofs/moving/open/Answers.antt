use Rattle.std.proofs.Common.{ap, ◌∙◌}
use Rattle.lvm_session.specs.State.{state_of}
use Rattle.lvm_migrate.specs.Faults.{opening_fault_is}
use Rattle.lvm_migrate.proofs.MovingLemmas.{of_opening, opens_not, opens_well}
use Rattle.lvm_migrate.proofs.moving.open.Goals as goal

pub opening_fault-requires : goal.opening_fault-requires
opening_fault-requires g c =
    let device = g.S.Shelf.device in
    of_opening (state_of device c.args.driver.now) (state_of device c.open_move.new.self) c.args.one c.in-Err.why c.requires.may c.in-Err.ensures.gives

pub returns-in-Ok-clause-opens : goal.returns-in-Ok-clause-opens
returns-in-Ok-clause-opens g c =
    let device = g.S.Shelf.device in
    opens_well (state_of device c.args.driver.now) (state_of device c.open_move.new.self) c.args.one (ap device c.open_move.ensures.shelf) c.in-Ok.ensures.gives

pub returns-in-Err-clause-opens : goal.returns-in-Err-clause-opens
returns-in-Err-clause-opens g c =
    let device = g.S.Shelf.device in
    opens_not (state_of device c.args.driver.now) (state_of device c.open_move.new.self) c.args.one c.in-Err.why c.opening_fault.result c.requires.may (ap device c.open_move.ensures.shelf) c.in-Err.ensures.gives (c.opening_fault.ensures ∙ ap (opening_fault_is c.in-Err.why c.args.one.copy.lp) (λ t. (c.votes-off.ensures.have t, c.votes-off.ensures.total t)))
