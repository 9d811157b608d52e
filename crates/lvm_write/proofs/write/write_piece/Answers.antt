use Rattle.std.proofs.Common.{◌≡◌, ◌+◌, ℕ, sym, ap, ◌∙◌, eq-eqb, refl}
use Rattle.std.specs.Prelude.{if◌then◌else◌}
use Rattle.lvm_num.specs.Record.{slot_start}
use Rattle.lvm_quorum.specs.passed.Transfer.{IsOfRecord}
use Rattle.lvm_write.specs.Parts.{write_to}
use Rattle.lvm_write.proofs.PartsLemmas.Pieces.{frames_planned, range_planned, piece_part}
use Rattle.lvm_write.proofs.write.write_piece.Goals as goal

pub returns-clause-part : goal.returns-clause-part
returns-clause-part g c =
    let one = c.args.one in
    let first : ℕ = c.slot_start.result + c.from.result in
    let place : first ≡ slot_start one.kind (if one.second then 1 else 0) + c.args.first =
    ap (λ (n : ℕ). n + c.from.result) c.slot_start.ensures ∙ ap (λ (n : ℕ). slot_start one.kind (if one.second then 1 else 0) + n) c.from.ensures in
    piece_part (write_to one).targets (IsOfRecord (write_to one)) one.disk c.args.buf.number c.args.patience.now.left c.transfer.new.patience.left (g.S.Shelf.device c.args.shelf.now) (g.S.Shelf.device c.transfer.new.shelf) c.transfer.result
    c.transfer.ensures.gives.0 first c.args.count c.fill.new.buf c.requires.ready (sym c.fill.ensures.number) (eq-eqb one.disk one.disk refl)
    (frames_planned one c.args.first c.args.count first c.fill.new.buf place c.fill.ensures.frames c.requires.there)
    (range_planned one c.args.first c.args.count first c.fill.new.buf place c.fill.ensures.frames c.requires.some c.requires.there)
    c.transfer.ensures.gives.1 c.transfer.ensures.rests c.transfer.ensures.patience c.transfer.ensures.waited c.transfer.ensures.moments
