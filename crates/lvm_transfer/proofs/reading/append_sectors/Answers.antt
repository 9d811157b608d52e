use Rattle.std.proofs.Common.{◌≡◌, ◌+◌, ◌++◌, ℕ, IfSome, Ok, Err, append-nil, min, sym, ◌∙◌, ap, subst, arith}
use Rattle.std.proofs.lemmas.Result.{err_from_is_err_and}
use Rattle.lvm_disk.specs.passed.Num.{joined}
use Rattle.lvm_kept.proofs.passed.Rec.{joined-none}
use Rattle.lvm_disk.specs.Device.{Media}
use Rattle.lvm_transfer.proofs.RecordLemmas.{kept-so-far, told-both, told-always}
use Rattle.lvm_transfer.specs.Reading.{NoneYet, OneMore}
use Rattle.lvm_transfer.proofs.ReadingLemmas.Following.{in_range, reads_none, reads_then}
use Rattle.lvm_transfer.proofs.ReadingLemmas.Pieces.{read_at}
use Rattle.lvm_transfer.proofs.reading.append_sectors.Goals as goal

pub loop-done-init : goal.loop-done-init
loop-done-init g c =
    let start = c.args.bytes.now.items in
    let extent = c.args.extent in
    let device = g.S.Shelf.device c.args.shelf.now in
    record {
      reads = reads_none extent.disk c.args.patience.now.left device c.args.buf c.requires.ready;
      whole = NoneYet;
      within = omega arith;
      size = omega arith;
      bytes = told-always (λ (m : Media). start ≡ start ++ joined (m extent.disk) extent.first (min 0 extent.keep)) device.media
          (λ m. sym (ap (λ k. start ++ joined (m extent.disk) extent.first k) (omega arith) ∙ ap (λ l. start ++ l) (joined-none (m extent.disk) extent.first) ∙ append-nil start));
    }

pub append_piece-requires-clause-range : goal.append_piece-requires-clause-range
append_piece-requires-clause-range g c =
    in_range (g.S.Shelf.device c.args.shelf.now) (g.S.Shelf.device c.loop-done.shelf) c.args.extent.disk c.args.extent.first c.args.extent.count (c.args.extent.first + c.from.result) c.min-count.result
    c.loop-done.invariant.reads.only.unwritten.sizes c.requires.inside (omega (arith, c.min-count.ensures)) (omega (arith, c.min-count.ensures)) (omega (arith, c.min-count.ensures, c.from.ensures))

pub returns-in_err-back-clause-reads : goal.returns-in_err-back-clause-reads
returns-in_err-back-clause-reads g c =
    let p = err_from_is_err_and c.from_residual.result c.from_residual.ensures.1 in
    rw (p.1, p.2) (reads_then c.args.extent.disk c.args.buf.number c.args.patience.now.left c.loop-done.patience.left c.append_piece.new.patience.left (g.S.Shelf.device c.args.shelf.now) (g.S.Shelf.device c.loop-done.shelf) (g.S.Shelf.device c.append_piece.new.shelf)
    c.loop-done.back (Err c.in_err-back.field-0.0) c.loop-done.invariant.reads c.in_err-back.ensures.reads)

pub loop-done-preserved : goal.loop-done-preserved
loop-done-preserved g c =
    let extent = c.args.extent in
    let disk = extent.disk in
    let start = c.args.bytes.now.items in
    let old = g.S.Shelf.device c.args.shelf.now in
    let mid = g.S.Shelf.device c.loop-done.shelf in
    let new = g.S.Shelf.device c.append_piece.new.shelf in
    let so_far = c.loop-done.invariant in
    let next = c.in_ok-back.ensures in
    let some = c.loop-done.bytes.items in
    let more = c.append_piece.new.bytes.items in
    let part = c.min.result in
    record {
      reads = reads_then disk c.args.buf.number c.args.patience.now.left c.loop-done.patience.left c.append_piece.new.patience.left old mid new c.loop-done.back (Ok c.in_ok-back.back) so_far.reads next.reads;
      whole = OneMore c.loop-done.done c.min-count.result so_far.whole (omega arith) (omega (arith, c.min-count.ensures))
          (read_at (extent.first + c.from.result) (extent.first + c.loop-done.done) (omega (arith, c.from.ensures)) next.whole);
      within = omega (arith, c.min-count.ensures);
      size = omega (arith, next.size, so_far.size, c.min.ensures, c.saturating_sub.ensures);
      bytes = told-both (λ (m : Media). some ≡ start ++ joined (m disk) extent.first (min c.loop-done.done extent.keep)) (λ (m : Media). more ≡ some ++ joined (m disk) (extent.first + c.from.result) part)
          (λ (m : Media). more ≡ start ++ joined (m disk) extent.first (min (c.loop-done.done + c.min-count.result) extent.keep)) old.media
          (λ m is then. kept-so-far (m disk) extent.first c.loop-done.done c.min-count.result extent.keep part start some more (c.min.ensures ∙ ap (min c.min-count.result) c.saturating_sub.ensures) is
          (then ∙ ap (λ (k : ℕ). some ++ joined (m disk) (extent.first + k) part) c.from.ensures))
          so_far.bytes (subst (λ o. IfSome o (λ (m : Media). more ≡ some ++ joined (m disk) (extent.first + c.from.result) part)) so_far.reads.only.unwritten.media next.bytes);
    }
