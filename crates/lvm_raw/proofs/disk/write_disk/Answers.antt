use Rattle.std.proofs.lemmas.Result.{err_from_is_err_and}
use Rattle.lvm_raw.specs.declared.fault.RawFault.TheVariants as fault
use Rattle.lvm_raw.specs.Pieces.{WritesGo}
use Rattle.lvm_raw.proofs.RawLemmas.Answering.{unasked, lacking, went}
use Rattle.lvm_raw.proofs.RawLemmas.Refusing.{writes_of, not_of_pieces}
use Rattle.lvm_raw.proofs.disk.write_disk.Goals as goal

pub returns-in_err-buf : goal.returns-in_err-buf
returns-in_err-buf g c =
    let p = err_from_is_err_and c.from_residual.result c.from_residual.ensures.1 in
    let its = unasked fault.Lost (λ run. WritesGo run c.args.disk c.args.at c.args.count c.args.word) (λ run. writes_of run c.args.disk c.args.at c.args.count c.args.word) (not_of_pieces (Unit {0}) fault.Lost (λ e. e)) c.args.history.now c.args.disk c.args.at c.args.count c.args.patience.now.left (g.S.Shelf.device c.args.shelf.now) c.ask.new.patience.left c.ask.new.history (g.S.Shelf.device c.ask.new.shelf) c.in_err-buf.field-0.0 c.in_err-buf.ensures.unasked c.in_err-buf.ensures.keeps in
    rw (p.1, p.2) (record { does = its.does; ends = its.ends; keeps = its.keeps; rooms = its.rooms })

pub returns-in_default : goal.returns-in_default
returns-in_default g c =
    let its = lacking fault.Lost (λ run. WritesGo run c.args.disk c.args.at c.args.count c.args.word) (λ run. writes_of run c.args.disk c.args.at c.args.count c.args.word) (not_of_pieces (Unit {0}) fault.Lost (λ e. e)) c.args.history.now c.args.disk c.args.at c.args.count c.args.patience.now.left (g.S.Shelf.device c.args.shelf.now) c.ask.new.patience.left c.ask.new.history (g.S.Shelf.device c.ask.new.shelf) c.in_ok-buf.buf c.in_ok-buf.ensures.may.0 c.in_ok-buf.ensures.found c.in_ok-buf.ensures.same c.in_ok-buf.ensures.keeps in
    record { does = its.does; ends = its.ends; keeps = its.keeps; rooms = its.rooms }

pub returns : goal.returns
returns g c =
    let its = went fault.Lost (λ run. WritesGo run c.args.disk c.args.at c.args.count c.args.word) (λ run. writes_of run c.args.disk c.args.at c.args.count c.args.word) (not_of_pieces (Unit {0}) fault.Lost (λ e. e)) c.args.history.now c.args.disk c.args.at c.args.count c.args.patience.now.left (g.S.Shelf.device c.args.shelf.now) c.ask.new.patience.left c.ask.new.history (g.S.Shelf.device c.ask.new.shelf) c.in_ok-buf.buf c.in_ok-buf.ensures.may.0 c.in_ok-buf.ensures.found c.in_ok-buf.ensures.same c.in_ok-buf.ensures.keeps c.requires.ready c.write_pieces.new.patience.left c.write_pieces.new.history (g.S.Shelf.device c.write_pieces.new.shelf) c.write_pieces.result c.write_pieces.ensures.goes c.write_pieces.ensures.keeps c.write_pieces.ensures.rooms in
    record { does = its.does; ends = its.ends; keeps = its.keeps; rooms = its.rooms }
