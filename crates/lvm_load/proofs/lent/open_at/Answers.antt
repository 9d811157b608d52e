use Rattle.std.proofs.Common.{ap, refl}
use Rattle.std.specs.Prelude.{Ok, Err}
use Rattle.lvm_session.specs.State.{state_of}
use Rattle.lvm_load.specs.Bringing.{ByOpening}
use Rattle.lvm_load.proofs.LendingLemmas.Bringing.{opening_enters}
use Rattle.lvm_load.proofs.lent.open_at.Goals as goal

pub returns-in-Ok : goal.returns-in-Ok
returns-in-Ok g c =
    let device = g.S.Shelf.device in
    ByOpening c.requires.closed (opening_enters _ (state_of device c.args.driver.now) (state_of device c.open_copy.new.self) _ _ _ _ c.open_copy.ensures.gives (ap device c.open_copy.ensures.shelf) c.open_copy.ensures.leaves) (Ok tt) c.in-Ok.ensures.gives refl

pub returns-in-Err : goal.returns-in-Err
returns-in-Err g c =
    let device = g.S.Shelf.device in
    ByOpening c.requires.closed (opening_enters _ (state_of device c.args.driver.now) (state_of device c.open_copy.new.self) _ _ _ _ c.open_copy.ensures.gives (ap device c.open_copy.ensures.shelf) c.open_copy.ensures.leaves) (Err c.in-Err.why) c.in-Err.ensures.gives c.behind.ensures
