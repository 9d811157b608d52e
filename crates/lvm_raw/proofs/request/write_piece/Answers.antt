use Rattle.std.proofs.Common.{◌∙◌, ap, subst, sym, List, true, take}
use Rattle.std.specs.Simd.{first_chunks}
use Rattle.lvm_vol.specs.Log.{Log, is_uncut}
use Rattle.lvm_vol.specs.Facts.{Fact}
use Rattle.lvm_kept.specs.Raw.{next_write}
use Rattle.lvm_steps.specs.Requests.{at as moment_of}
use Rattle.lvm_raw.specs.OnePieceKeeping.{PieceKeeps}
use Rattle.lvm_raw.proofs.LogLemmas.{uncut_begun, write_ended, write_takes, write_lands, write_later}
use Rattle.lvm_raw.proofs.OnePieceKeepingLemmas.{piece_keeps}
use Rattle.lvm_raw.proofs.RequestsLemmas.{write_keeps, write_closes}
use Rattle.lvm_raw.proofs.request.write_piece.Goals as goal

pub end_write-requires-clause-uncut : goal.end_write-requires-clause-uncut
end_write-requires-clause-uncut g c = ap (λ (l : Log). is_uncut l.facts) c.begin-id.ensures.entered ∙ uncut_begun c.args.history.now.facts _

pub returns-clause-does : goal.returns-clause-does
returns-clause-does g c =
    let h = c.args.history.now in
    let sent = c.fill_front.new.buf in
    let ends = write_ended h c.begin-id.new.self c.end_write.new.history c.begin-id.result c.args.disk c.args.from c.args.count c.as_slice.result.now (take c.args.count sent.sectors) c.transfer-how.result c.begin-id.ensures.entered c.begin-id.ensures.named
    (ap (first_chunks 512 c.args.count) c.as_slice.ensures.value ∙ c.copy_front.ensures.blocks) c.end_write.ensures in
    record {
      sent = sent;
      long = c.fill_front.ensures.long;
      filled = c.fill_front.ensures.filled;
      shelf = (c.transfer-how.ensures.gives.0, record { moved = g.S.Shelf.device c.transfer-how.new.shelf; gives = c.transfer-how.ensures.gives.1; lit = c.relight_after_transfer.ensures.lit });
      facts = ap (λ (l : Log). l.facts) ends;
    }

pub returns-clause-keeps : goal.returns-clause-keeps
unfolding returns-clause-does
returns-clause-keeps g c =
    let h = c.args.history.now in
    let buf = c.fill_front.new.buf in
    let old = g.S.Shelf.device c.args.shelf.now in
    let mid = g.S.Shelf.device c.transfer-how.new.shelf in
    let new = g.S.Shelf.device c.relight_after_transfer.new.shelf in
    subst (λ (l : List Fact). PieceKeeps h.run c.args.disk c.args.patience.now.left c.transfer-how.new.patience.left (moment_of old h.facts) (moment_of new l) c.transfer-how.result) (sym (returns-clause-does g c).facts)
    (piece_keeps true h.run c.args.disk c.args.from c.args.count buf c.transfer-how.ensures.gives.0 c.args.patience.now.left c.transfer-how.new.patience.left old mid new h.facts _ c.transfer-how.result
    (write_keeps h.run c.args.disk c.args.from c.args.count buf old mid new h.facts c.requires.ready.flights c.requires.may.none c.requires.may.area c.relight_after_transfer.ensures.moments c.copy_front.ensures.long c.transfer-how.ensures.moments c.transfer-how.ensures.gives.0 c.args.patience.now.left c.transfer-how.result c.transfer-how.ensures.gives.1 c.relight_after_transfer.ensures.lit)
    (write_closes h.run c.args.disk c.args.from c.args.count buf old mid new h.facts c.requires.ready.flights c.requires.may.none c.requires.may.area c.relight_after_transfer.ensures.moments c.copy_front.ensures.long c.transfer-how.ensures.moments c.transfer-how.result)
    (write_lands h.facts (next_write h.run h.facts c.args.disk c.args.from c.args.count (take c.args.count buf.sectors)) c.transfer-how.result)
    (write_later h.facts (next_write h.run h.facts c.args.disk c.args.from c.args.count (take c.args.count buf.sectors)) c.transfer-how.result)
    c.requires.ready c.requires.may.area c.requires.may.none c.transfer-how.ensures.gives.1 c.transfer-how.ensures.rests c.relight_after_transfer.ensures.lit c.transfer-how.ensures.moments c.relight_after_transfer.ensures.moments c.transfer-how.ensures.patience c.transfer-how.ensures.waited)

pub returns-clause-takes : goal.returns-clause-takes
returns-clause-takes g c =
    let h = c.args.history.now in
    let sent = c.fill_front.new.buf in
    let ends = write_ended h c.begin-id.new.self c.end_write.new.history c.begin-id.result c.args.disk c.args.from c.args.count c.as_slice.result.now (take c.args.count sent.sectors) c.transfer-how.result c.begin-id.ensures.entered c.begin-id.ensures.named
    (ap (first_chunks 512 c.args.count) c.as_slice.ensures.value ∙ c.copy_front.ensures.blocks) c.end_write.ensures in
    write_takes h c.end_write.new.history (next_write h.run h.facts c.args.disk c.args.from c.args.count (take c.args.count sent.sectors)) c.transfer-how.result c.requires.may.entries c.requires.may.bytes ends
