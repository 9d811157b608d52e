use Rattle.std.proofs.Common.{◌≡◌, ◌≤◌, ◌<◌, ◌+◌, ◌-◌, [], ℕ, List, None, Result, Ok, IfOk, length, refl, sym, ◌∙◌, ap, subst, arith}
use Rattle.std.proofs.lemmas.Result.{err_from_is_err_and}
use Rattle.lvm_num.specs.Buffer.{Sector}
use Rattle.lvm_vol.specs.Log.{Log}
use Rattle.lvm_steps.specs.Requests.{at as moment_of}
use Rattle.lvm_raw.specs.declared.fault.RawFault.{RawFault}
use Rattle.lvm_raw.specs.declared.fault.RawFault.TheVariants as fault
use Rattle.lvm_raw.specs.Asking.{HasRoomForPieces}
use Rattle.lvm_raw.specs.OnePieceKeeping.{PieceKeeps}
use Rattle.lvm_raw.specs.Keeping.{RangeKeeps}
use Rattle.lvm_raw.specs.OnePiece.{ReadsPiece}
use Rattle.lvm_raw.specs.Pieces.{piece_end, answer_of, ReadsGo, with_front}
use Rattle.lvm_raw.proofs.PiecesLemmas.{SoFar, at_first, one_more_to, all_went, was_broken_at, settled_ended, got_more, got_whole}
use Rattle.lvm_raw.proofs.AskingLemmas.{piece_asked, room_next}
use Rattle.lvm_raw.proofs.pieces.read_pieces.Goals as goal

pub loop-from-init : goal.loop-from-init
loop-from-init g c =
    let h = c.args.history.now in
    let disk = c.args.disk in
    let at = c.args.at in
    let end = at + c.args.count in
    let whole = c.args.patience.now.left in
    let first = moment_of (g.S.Shelf.device c.args.shelf.now) h.facts in
    record {
      so_far = subst (λ (l : List Sector). SoFar (λ from n. ReadsPiece h.run disk from n) fault.ReadFailed with_front h.run disk at end whole first [] at whole first l None) (sym c.requires.empty) (at_first (λ from n. ReadsPiece h.run disk from n) fault.ReadFailed with_front h.run disk at end whole first [] (omega arith) c.requires.none c.requires.ready);
      rooms = refl;
      room = λ within. subst (λ (k : ℕ). HasRoomForPieces h at k) (omega arith) c.requires.may.room;
      bytes = c.requires.room;
      len = omega (arith, c.requires.length);
      got = λ none. ap (length {A = Sector}) c.requires.empty ∙ omega arith;
      blocks = c.requires.blocks;
    }

pub read_piece-how-requires-clause-may : goal.read_piece-how-requires-clause-may
read_piece-how-requires-clause-may g c =
    let was = c.loop-from.invariant in
    let ends = c.piece_end-to.ensures in
    let within : c.loop-from.from < c.args.at + c.args.count = omega (arith, c.loop-from-test.true, c.from.ensures) in
    piece_asked (g.S.Shelf.device c.args.shelf.now) (g.S.Shelf.device c.loop-from.shelf) c.loop-from.history c.args.disk c.args.at c.args.count c.loop-from.from c.piece_end-to.result c.requires.may.inside c.requires.last was.so_far.none was.so_far.shelf.sizes was.so_far.low
    ends.some (omega (arith, ends.within, c.from.ensures)) ends.few ends.group (was.room within)

pub loop-from-preserved : goal.loop-from-preserved
loop-from-preserved g c =
    let h = c.args.history.now in
    let disk = c.args.disk in
    let at = c.args.at in
    let end = at + c.args.count in
    let whole = c.args.patience.now.left in
    let first = moment_of (g.S.Shelf.device c.args.shelf.now) h.facts in
    let from = c.loop-from.from in
    let left = c.loop-from.patience.left in
    let now = moment_of (g.S.Shelf.device c.loop-from.shelf) c.loop-from.history.facts in
    let was = c.loop-from.invariant in
    let to = c.piece_end-to.result in
    let to_is : to ≡ piece_end from end = c.piece_end-to.ensures.is ∙ ap (λ (k : ℕ). piece_end from (at + k)) c.from.ensures in
    let within : from < end = omega (arith, c.loop-from-test.true, c.from.ensures) in
    let new = moment_of (g.S.Shelf.device c.read_piece-how.new.shelf) c.read_piece-how.new.history.facts in
    let how = c.read_piece-how.result in
    let run_is : c.loop-from.history.run ≡ h.run = ap (λ (l : Log). l.run) was.rooms in
    let keeps = subst (λ (r : ℕ). PieceKeeps r disk left c.read_piece-how.new.patience.left now new how) run_is c.read_piece-how.ensures.keeps in
    let piece = subst (λ (r : ℕ). ReadsPiece r disk from (to - from) left now new how) run_is c.read_piece-how.ensures.does in
    let ended = settled_ended fault.ReadFailed how c.loop-from.fault c.settle.new.fault c.in_ok-back.back c.in_ok-back.ensures in
    record {
      so_far = subst (λ (l : List Sector). SoFar (λ from n. ReadsPiece h.run disk from n) fault.ReadFailed with_front h.run disk at end whole first [] to c.read_piece-how.new.patience.left new l c.settle.new.fault) (sym c.keep_got.ensures.items) (one_more_to (λ from n. ReadsPiece h.run disk from n) fault.ReadFailed with_front h.run disk at end whole first [] from left now c.loop-from.blocks.items c.loop-from.fault was.so_far to left c.read_piece-how.new.patience.left new how c.settle.new.fault (Ok c.in_ok-back.back) to_is within piece keeps ended c.in_ok-back.ensures);
      rooms = c.read_piece-how.ensures.takes.rooms ∙ ap (λ (l : Log). record l { facts = c.read_piece-how.new.history.facts }) was.rooms;
      room = λ more. room_next c.loop-from.history c.read_piece-how.new.history from to end to_is within c.piece_end-to.ensures.some (was.room within) (c.read_piece-how.ensures.takes.entries ended) (c.read_piece-how.ensures.takes.bytes ended) more;
      bytes = c.read_piece-how.ensures.room;
      got = λ none.
          let more = got_more fault.ReadFailed (to - from) (from - at) how c.loop-from.fault c.settle.new.fault (Ok c.in_ok-back.back) c.loop-from.blocks.items ended c.keep_got.ensures.front c.in_ok-back.ensures was.got none in
          ap (length {A = Sector}) c.keep_got.ensures.items ∙ more ∙ omega (arith, was.so_far.low, c.piece_end-to.ensures.some);
      len = omega (arith, c.keep_got.ensures.len, was.len, c.piece_end-to.ensures.some, was.so_far.low);
      blocks = omega (arith, c.keep_got.ensures.room, was.blocks);
    }

pub returns-in_err-back : goal.returns-in_err-back
returns-in_err-back g c =
    let h = c.args.history.now in
    let disk = c.args.disk in
    let at = c.args.at in
    let end = at + c.args.count in
    let whole = c.args.patience.now.left in
    let first = moment_of (g.S.Shelf.device c.args.shelf.now) h.facts in
    let from = c.loop-from.from in
    let left = c.loop-from.patience.left in
    let now = moment_of (g.S.Shelf.device c.loop-from.shelf) c.loop-from.history.facts in
    let was = c.loop-from.invariant in
    let to = c.piece_end-to.result in
    let to_is : to ≡ piece_end from end = c.piece_end-to.ensures.is ∙ ap (λ (k : ℕ). piece_end from (at + k)) c.from.ensures in
    let within : from < end = omega (arith, c.loop-from-test.true, c.from.ensures) in
    let new = moment_of (g.S.Shelf.device c.read_piece-how.new.shelf) c.read_piece-how.new.history.facts in
    let how = c.read_piece-how.result in
    let run_is : c.loop-from.history.run ≡ h.run = ap (λ (l : Log). l.run) was.rooms in
    let keeps = subst (λ (r : ℕ). PieceKeeps r disk left c.read_piece-how.new.patience.left now new how) run_is c.read_piece-how.ensures.keeps in
    let piece = subst (λ (r : ℕ). ReadsPiece r disk from (to - from) left now new how) run_is c.read_piece-how.ensures.does in
    let p = err_from_is_err_and c.from_residual.result c.from_residual.ensures.1 in
    let both = was_broken_at (λ from n. ReadsPiece h.run disk from n) fault.ReadFailed with_front h.run disk at end whole first [] from left now c.loop-from.blocks.items c.loop-from.fault was.so_far (λ a b rose. rose) to left c.read_piece-how.new.patience.left new how c.settle.new.fault c.in_err-back.field-0.0 to_is within piece keeps c.in_err-back.ensures in
    let rooms = c.read_piece-how.ensures.takes.rooms ∙ ap (λ (l : Log). record l { facts = c.read_piece-how.new.history.facts }) was.rooms in
    rw (p.1, p.2) (record { got = tt; goes = both.0; keeps = both.1; rooms = rooms })

pub returns : goal.returns
returns g c =
    let h = c.args.history.now in
    let disk = c.args.disk in
    let at = c.args.at in
    let end = at + c.args.count in
    let whole = c.args.patience.now.left in
    let first = moment_of (g.S.Shelf.device c.args.shelf.now) h.facts in
    let from = c.loop-from.from in
    let left = c.loop-from.patience.left in
    let now = moment_of (g.S.Shelf.device c.loop-from.shelf) c.loop-from.history.facts in
    let was = c.loop-from.invariant in
    let past : end ≤ from = omega (arith, c.loop-from-test.false, c.from.ensures) in
    let is = sym (c.answer.ensures ∙ ap (λ (l : List Sector). answer_of l c.loop-from.fault) c.new.ensures) in
    let both = all_went (λ from n. ReadsPiece h.run disk from n) fault.ReadFailed with_front h.run disk at end whole first [] from left now c.loop-from.blocks.items c.loop-from.fault was.so_far (λ a b rose. rose) past in
    record {
      got = subst (λ (r : Result (List Sector) RawFault). IfOk r (λ blocks. length blocks ≡ c.args.count)) is
          (got_whole c.loop-from.blocks.items c.loop-from.fault c.args.count (λ none. was.got none ∙ (let w : from - at ≡ c.args.count = omega (arith, c.loop-from-test.false, c.from.ensures, was.so_far.high) in w)));
      goes = subst (λ (r : Result (List Sector) RawFault). ReadsGo h.run disk at c.args.count first now r) is both.0;
      keeps = subst (λ (r : Result (List Sector) RawFault). RangeKeeps h.run disk whole left first now r) is both.1;
      rooms = was.rooms;
    }
