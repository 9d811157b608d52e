use Rattle.std.proofs.Common.{◌≡◌, Some, slice_get, sym, ap, ◌∙◌, refl, arith}
use Rattle.lvm_num.specs.Buffer.{Buffer}
use Rattle.lvm_quorum.specs.passed.Transfer.{IsOfNote}
use Rattle.lvm_write.proofs.NotesLemmas.{first_put, note_planned}
use Rattle.lvm_write.proofs.PartsLemmas.Pieces.{piece_part}
use Rattle.lvm_write.proofs.notes.write_sector.Goals as goal

pub returns-clause-part : goal.returns-clause-part
returns-clause-part g c = λ targets target.
    let buf = c.set_sector.new.self in
    let set = c.set_sector.ensures.set in
    let long = c.set_sector.ensures.length in
    let carries : slice_get buf.sectors 0 ≡ Some c.args.note.now = ap (λ (b : Buffer). slice_get b.sectors 0) set ∙ first_put c.args.buf.sectors c.args.note.now long in
    piece_part targets (IsOfNote targets c.args.note.now) c.args.disk c.args.buf.number c.args.patience.now.left c.transfer.new.patience.left (g.S.Shelf.device c.args.shelf.now) (g.S.Shelf.device c.transfer.new.shelf) c.transfer.result
    c.transfer.ensures.gives.0 8 1 buf c.requires.ready (sym (ap (λ (b : Buffer). b.number) set)) target
    (note_planned c.args.disk buf c.args.note.now carries targets target)
    (omega arith, λ s low high. (c.args.note.now, record { target = target; place = omega (arith, low, high); is = refl }))
    c.transfer.ensures.gives.1 c.transfer.ensures.rests c.transfer.ensures.patience c.transfer.ensures.waited c.transfer.ensures.moments
