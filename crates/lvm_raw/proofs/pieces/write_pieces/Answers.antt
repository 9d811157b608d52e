use Rattle.std.proofs.Common.{◌≡◌, ◌≤◌, ◌<◌, ◌+◌, ◌-◌, ◌%◌, ◌^◌, ℕ, Result, Ok, refl, sym, ◌∙◌, ap, subst, arith}
use Rattle.std.proofs.lemmas.Result.{err_from_is_err_and}
use Rattle.lvm_vol.specs.Log.{Log}
use Rattle.lvm_steps.specs.Requests.{at as moment_of}
use Rattle.lvm_raw.specs.declared.fault.RawFault.{RawFault}
use Rattle.lvm_raw.specs.declared.fault.RawFault.TheVariants as fault
use Rattle.lvm_raw.specs.Asking.{HasRoomForPieces}
use Rattle.lvm_raw.specs.OnePieceKeeping.{PieceKeeps}
use Rattle.lvm_raw.specs.Keeping.{RangeKeeps}
use Rattle.lvm_raw.specs.OnePiece.{WritesPiece}
use Rattle.lvm_raw.specs.Pieces.{piece_end, WritesGo}
use Rattle.lvm_raw.proofs.PiecesLemmas.{at_first, one_more_to, all_went, was_broken_at, settled_ended}
use Rattle.lvm_raw.proofs.AskingLemmas.{piece_asked, room_next, written_by}
use Rattle.lvm_raw.proofs.pieces.write_pieces.Goals as goal

pub loop-from-init : goal.loop-from-init
loop-from-init g c =
    let h = c.args.history.now in
    let disk = c.args.disk in
    let at = c.args.at in
    let end = at + c.args.count in
    let whole = c.args.patience.now.left in
    let first = moment_of (g.S.Shelf.device c.args.shelf.now) h.facts in
    record {
      so_far = at_first {X = Unit {0}} (λ from n. WritesPiece h.run disk (c.args.word + (from - at)) from n) fault.Lost (λ n back done. done) h.run disk at end whole first tt (omega arith) c.requires.none c.requires.ready;
      rooms = refl;
      room = λ within. subst (λ (k : ℕ). HasRoomForPieces h at k) (omega arith) c.requires.may.room;
      bytes = c.requires.room;
    }

pub write_piece-how-requires-clause-may : goal.write_piece-how-requires-clause-may
write_piece-how-requires-clause-may g c =
    let was = c.loop-from.invariant in
    let ends = c.piece_end-to.ensures in
    let within : c.loop-from.from < c.args.at + c.args.count = omega (arith, c.loop-from-test.true, c.from.ensures) in
    piece_asked (g.S.Shelf.device c.args.shelf.now) (g.S.Shelf.device c.loop-from.shelf) c.loop-from.history c.args.disk c.args.at c.args.count c.loop-from.from c.piece_end-to.result c.requires.may.inside c.requires.last was.so_far.none was.so_far.shelf.sizes was.so_far.low
    ends.some (omega (arith, ends.within, c.from.ensures)) ends.few ends.group (was.room within)

pub loop-from-preserved : goal.loop-from-preserved
loop-from-preserved g c =
    let h = c.args.history.now in
    let disk = c.args.disk in
    let at = c.args.at in
    let end = at + c.args.count in
    let whole = c.args.patience.now.left in
    let first = moment_of (g.S.Shelf.device c.args.shelf.now) h.facts in
    let from = c.loop-from.from in
    let left = c.loop-from.patience.left in
    let now = moment_of (g.S.Shelf.device c.loop-from.shelf) c.loop-from.history.facts in
    let was = c.loop-from.invariant in
    let to = c.piece_end-to.result in
    let to_is : to ≡ piece_end from end = c.piece_end-to.ensures.is ∙ ap (λ (k : ℕ). piece_end from (at + k)) c.from.ensures in
    let within : from < end = omega (arith, c.loop-from-test.true, c.from.ensures) in
    let new = moment_of (g.S.Shelf.device c.write_piece-how.new.shelf) c.write_piece-how.new.history.facts in
    let how = c.write_piece-how.result in
    let run_is : c.loop-from.history.run ≡ h.run = ap (λ (l : Log). l.run) was.rooms in
    let keeps = subst (λ (r : ℕ). PieceKeeps r disk left c.write_piece-how.new.patience.left now new how) run_is c.write_piece-how.ensures.keeps in
    let piece = written_by h.run disk (c.args.word + (from - at)) ((c.args.word + (from - at)) % 2 ^ 64) from (to - from) left now new how refl (subst (λ (r : ℕ). WritesPiece r disk ((c.args.word + (from - at)) % 2 ^ 64) from (to - from) left now new how) run_is c.write_piece-how.ensures.does) in
    let ended = settled_ended fault.Lost how c.loop-from.fault c.settle.new.fault c.in_ok-back.back c.in_ok-back.ensures in
    record {
      so_far = one_more_to {X = Unit {0}} (λ from n. WritesPiece h.run disk (c.args.word + (from - at)) from n) fault.Lost (λ n back done. done) h.run disk at end whole first tt from left now tt c.loop-from.fault was.so_far to left c.write_piece-how.new.patience.left new how c.settle.new.fault (Ok c.in_ok-back.back) to_is within piece keeps ended c.in_ok-back.ensures;
      rooms = c.write_piece-how.ensures.takes.rooms ∙ ap (λ (l : Log). record l { facts = c.write_piece-how.new.history.facts }) was.rooms;
      room = λ more. room_next c.loop-from.history c.write_piece-how.new.history from to end to_is within c.piece_end-to.ensures.some (was.room within) (c.write_piece-how.ensures.takes.entries ended) (c.write_piece-how.ensures.takes.bytes ended) more;
      bytes = c.write_piece-how.ensures.room;
    }

pub returns-in_err-back : goal.returns-in_err-back
returns-in_err-back g c =
    let h = c.args.history.now in
    let disk = c.args.disk in
    let at = c.args.at in
    let end = at + c.args.count in
    let whole = c.args.patience.now.left in
    let first = moment_of (g.S.Shelf.device c.args.shelf.now) h.facts in
    let from = c.loop-from.from in
    let left = c.loop-from.patience.left in
    let now = moment_of (g.S.Shelf.device c.loop-from.shelf) c.loop-from.history.facts in
    let was = c.loop-from.invariant in
    let to = c.piece_end-to.result in
    let to_is : to ≡ piece_end from end = c.piece_end-to.ensures.is ∙ ap (λ (k : ℕ). piece_end from (at + k)) c.from.ensures in
    let within : from < end = omega (arith, c.loop-from-test.true, c.from.ensures) in
    let new = moment_of (g.S.Shelf.device c.write_piece-how.new.shelf) c.write_piece-how.new.history.facts in
    let how = c.write_piece-how.result in
    let run_is : c.loop-from.history.run ≡ h.run = ap (λ (l : Log). l.run) was.rooms in
    let keeps = subst (λ (r : ℕ). PieceKeeps r disk left c.write_piece-how.new.patience.left now new how) run_is c.write_piece-how.ensures.keeps in
    let piece = written_by h.run disk (c.args.word + (from - at)) ((c.args.word + (from - at)) % 2 ^ 64) from (to - from) left now new how refl (subst (λ (r : ℕ). WritesPiece r disk ((c.args.word + (from - at)) % 2 ^ 64) from (to - from) left now new how) run_is c.write_piece-how.ensures.does) in
    let p = err_from_is_err_and c.from_residual.result c.from_residual.ensures.1 in
    let both = was_broken_at {X = Unit {0}} (λ from n. WritesPiece h.run disk (c.args.word + (from - at)) from n) fault.Lost (λ n back done. done) h.run disk at end whole first tt from left now tt c.loop-from.fault was.so_far (λ a b rose. rose) to left c.write_piece-how.new.patience.left new how c.settle.new.fault c.in_err-back.field-0.0 to_is within piece keeps c.in_err-back.ensures in
    let rooms = c.write_piece-how.ensures.takes.rooms ∙ ap (λ (l : Log). record l { facts = c.write_piece-how.new.history.facts }) was.rooms in
    rw (p.1, p.2) (record { goes = both.0; keeps = both.1; rooms = rooms })

pub returns : goal.returns
returns g c =
    let h = c.args.history.now in
    let disk = c.args.disk in
    let at = c.args.at in
    let end = at + c.args.count in
    let whole = c.args.patience.now.left in
    let first = moment_of (g.S.Shelf.device c.args.shelf.now) h.facts in
    let from = c.loop-from.from in
    let left = c.loop-from.patience.left in
    let now = moment_of (g.S.Shelf.device c.loop-from.shelf) c.loop-from.history.facts in
    let was = c.loop-from.invariant in
    let past : end ≤ from = omega (arith, c.loop-from-test.false, c.from.ensures) in
    let is = sym (c.answer.ensures) in
    let both = all_went {X = Unit {0}} (λ from n. WritesPiece h.run disk (c.args.word + (from - at)) from n) fault.Lost (λ n back done. done) h.run disk at end whole first tt from left now tt c.loop-from.fault was.so_far (λ a b rose. rose) past in
    record {
      goes = subst (λ (r : Result (Unit {0}) RawFault). WritesGo h.run disk at c.args.count c.args.word first now r) is both.0;
      keeps = subst (λ (r : Result (Unit {0}) RawFault). RangeKeeps h.run disk whole left first now r) is both.1;
      rooms = was.rooms;
    }
