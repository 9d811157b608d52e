use Rattle.std.proofs.Common.{true, refl, eq-eqb}
use Rattle.std.specs.Prelude.{◌==◌}
use Rattle.lvm_disk.proofs.PathsLemmas.{map-path}
use Rattle.lvm_transfer.specs.Transfer.{flight_of}
use Rattle.lvm_write.specs.Written.{IsWriting}
use Rattle.lvm_write.proofs.PartsLemmas.Pieces.{piece_part}
use Rattle.lvm_write.proofs.WrittenLemmas.Writing.{adds_writing}
use Rattle.lvm_erase.specs.Erasing.{slot_number, ZeroesSlot, ZeroesSlots}
use Rattle.lvm_erase.proofs.ErasingLemmas.{below_two, slot_planned, slots_planned, slots_in_plan, slot_zeroed, slot_back}
use Rattle.lvm_erase.proofs.erase.zero_slot.Goals as goal

pub returns-clause-part : goal.returns-clause-part
returns-clause-part g c =
    let disk = c.args.disk in
    let few = below_two c.args.second in
    let place = c.slot_start.ensures.start in
    piece_part (λ d. d == disk) (ZeroesSlots disk) disk c.args.buf.number c.args.patience.now.left c.transfer.new.patience.left (g.S.Shelf.device c.args.shelf.now) (g.S.Shelf.device c.transfer.new.shelf) c.transfer.result
    c.transfer.ensures.gives.0 c.slot_start.result 1 c.args.buf c.requires.ready refl (eq-eqb disk disk refl)
    (slots_planned disk (slot_number c.args.second) c.slot_start.result c.args.buf place c.requires.zeros few)
    (slots_in_plan disk (slot_number c.args.second) c.slot_start.result c.args.buf place c.requires.zeros few)
    c.transfer.ensures.gives.1 c.transfer.ensures.rests c.transfer.ensures.patience c.transfer.ensures.waited c.transfer.ensures.moments

pub returns-clause-alone : goal.returns-clause-alone
returns-clause-alone g c =
    let old = g.S.Shelf.device c.args.shelf.now in
    let slot = slot_number c.args.second in
    map-path (IsWriting (ZeroesSlot c.args.disk slot) old)
    (λ x. adds_writing (ZeroesSlot c.args.disk slot) (flight_of 0 true c.args.disk c.slot_start.result 1 c.args.buf) old x c.requires.ready.flights
    (slot_planned c.args.disk slot c.slot_start.result c.args.buf c.slot_start.ensures.start c.requires.zeros))
    c.transfer.ensures.moments

pub returns-clause-stands : goal.returns-clause-stands
returns-clause-stands g c =
    slot_zeroed c.args.disk (slot_number c.args.second) c.slot_start.result c.args.buf c.slot_start.ensures.start c.requires.zeros
    c.args.patience.now.left (g.S.Shelf.device c.args.shelf.now) (g.S.Shelf.device c.transfer.new.shelf) c.transfer.ensures.gives.0 c.transfer.result c.requires.ready c.transfer.ensures.gives.1

pub returns-clause-back : goal.returns-clause-back
returns-clause-back g c =
    slot_back c.args.disk (slot_number c.args.second) c.slot_start.result c.args.buf c.slot_start.ensures.start c.requires.zeros
    c.args.patience.now.left (g.S.Shelf.device c.args.shelf.now) (g.S.Shelf.device c.transfer.new.shelf) c.transfer.ensures.gives.0 c.transfer.result c.requires.ready c.transfer.ensures.gives.1
