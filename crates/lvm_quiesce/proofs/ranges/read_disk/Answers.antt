use Rattle.std.proofs.Common.{inl, inr, refl, Err}
use Rattle.lvm_quiesce.specs.Ranges.{ReadsAtRest}
use Rattle.lvm_quiesce.proofs.RangesLemmas.{Promised, at_once, kept_from, asked}
use Rattle.lvm_quiesce.proofs.ranges.read_disk.Goals as goal

pub returns-in-Ok : goal.returns-in-Ok
returns-in-Ok g c =
    let its = asked (λ log left mid new given. ReadsAtRest log c.args.disk c.args.at c.args.count left mid new given) c.args.disk c.args.at c.args.count c.args.patience.now.left (g.S.Shelf.device c.args.shelf.now) c.args.history.now
    c.come_to_rest.new.patience.left c.read_disk.new.patience.left (g.S.Shelf.device c.come_to_rest.new.shelf) (g.S.Shelf.device c.read_disk.new.shelf) c.come_to_rest.new.history c.read_disk.new.history c.read_disk.result c.in-Ok.ensures
    (record { gives = c.read_disk.ensures.does; ends = c.read_disk.ensures.ends }) c.read_disk.ensures.keeps c.read_disk.ensures.rooms in
    record { does = its.does; got = c.read_disk.ensures.got; keeps = its.keeps; rooms = its.rooms }

pub returns-in-Err : goal.returns-in-Err
returns-in-Err g c =
    let its : Promised (λ log left mid new given. ReadsAtRest log c.args.disk c.args.at c.args.count left mid new given) c.args.disk c.args.at c.args.count c.args.patience.now.left c.come_to_rest.new.patience.left (g.S.Shelf.device c.args.shelf.now) (g.S.Shelf.device c.come_to_rest.new.shelf) c.args.history.now c.come_to_rest.new.history (Err c.in-Err.why) = elim c.in-Err.ensures [
      | inl rejected ↦ at_once _ c.args.disk c.args.at c.args.count c.args.patience.now.left (g.S.Shelf.device c.args.shelf.now) c.args.history.now c.come_to_rest.new.patience.left (g.S.Shelf.device c.come_to_rest.new.shelf) c.come_to_rest.new.history c.in-Err.why _ refl c.requires.lit.power rejected
      | inr kept ↦ kept_from _ c.args.disk c.args.at c.args.count c.args.patience.now.left (g.S.Shelf.device c.args.shelf.now) c.args.history.now c.come_to_rest.new.patience.left (g.S.Shelf.device c.come_to_rest.new.shelf) c.come_to_rest.new.history c.in-Err.why _ refl kept
    ] in
    record { does = its.does; got = tt; keeps = its.keeps; rooms = its.rooms }
