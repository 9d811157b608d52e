-- The place of a piece in its range, the room that it needs, and its words.
use Rattle.std.proofs.Common.{◌≡◌, ◌≤◌, ◌<◌, ◌-◌, ◌+◌, ◌*◌, ◌/◌, ◌%◌, ◌^◌, ℕ, List, Some, length, slice_get, sym, ◌∙◌, ap, subst, arith}
use Rattle.std.proofs.lemmas.Option.{slice_get_within}
use Rattle.std.proofs.Math.Nat.{mod-add-div, add-mul-mod_self_left}
use Rattle.lvm_num.specs.Buffer.{Sector}
use Rattle.lvm_num.specs.Word.{fill_of}
use Rattle.lvm_disk.specs.Device.{Device}
use Rattle.lvm_disk.specs.Steps.{IsRange}
use Rattle.lvm_vol.specs.Log.{Log, spare_entries, spare_bytes}
use Rattle.lvm_kept.specs.Moments.{Moment}
use Rattle.lvm_steps.specs.Requests.{IsInNoGroup}
use Rattle.lvm_transfer.specs.declared.moves.Moved.{Moved}
use Rattle.lvm_raw.specs.Asking.{IsInData, HasRoomForPieces}
use Rattle.lvm_raw.specs.OnePieceAsking.{MayAskPiece}
use Rattle.lvm_raw.specs.OnePiece.{AreFilled, WritesPiece}
use Rattle.lvm_raw.specs.Pieces.{piece_end, piece_count}

-- a piece of a range within the data of a disk
piece_range : (first now : Device) (disk at count from to : ℕ) → IsInData first disk at count → now.sizes ≡ first.sizes → from < to → to ≤ at + count → to ≤ from + 256 → IsRange now disk from (to - from)
piece_range first now disk at count from to inside same some within most = record {
  there = subst (λ (l : List ℕ). disk < length l) (sym same) (slice_get_within first.sizes disk inside.size inside.is);
  some = omega (arith, some);
  most = omega (arith, most);
  within = λ size is.
      let here : slice_get first.sizes disk ≡ Some size = ap (λ (l : List ℕ). slice_get l disk) (sym same) ∙ is in
      let one : inside.size ≡ size = cc (here, inside.is) in
      omega (arith, one, inside.high, within, some);
}

-- the next piece of a range may be asked for
pub piece_asked : (first now : Device) (log : Log) (disk at count from to : ℕ) → IsInData first disk at count → at + count < 2 ^ 64 → IsInNoGroup now disk → now.sizes ≡ first.sizes → at ≤ from → from < to → to ≤ at + count → to ≤ from + 256
    → from % 256 + (to - from) ≤ 256 → HasRoomForPieces log from ((at + count) - from) → MayAskPiece now log disk from (to - from)
piece_asked first now log disk at count from to inside last none same low some within most group room = record {
  none = none;
  range = piece_range first now disk at count from to inside same some within most;
  area = omega (arith, inside.low, low);
  last = omega (arith, last, some, within);
  group = group;
  entries = omega (arith, room.entries);
  bytes = omega (arith, room.bytes, some, within);
}

-- what is behind it needs one piece less
pub fewer_pieces : (from end : ℕ) → from < end → piece_end from end < end → piece_count from (end - from) ≡ piece_count (piece_end from end) (end - piece_end from end) + 1
fewer_pieces from end within more = omega arith

pub room_next : (log next : Log) (from to end : ℕ) → to ≡ piece_end from end → from < end → from < to → HasRoomForPieces log from (end - from) → spare_entries next + 3 ≡ spare_entries log → spare_bytes next + 512 * (to - from) ≡ spare_bytes log → to < end → HasRoomForPieces next to (end - to)
room_next log next from to end to_is within some room entries bytes more =
    let less : piece_count from (end - from) ≡ piece_count to (end - to) + 1 =
    (let P = λ (t : ℕ). (t < end → piece_count from (end - from) ≡ piece_count t (end - t) + 1) in subst P (sym to_is) (fewer_pieces from end within) more) in
    record { entries = omega (arith, room.entries, entries, less); bytes = omega (arith, room.bytes, bytes, some, more) }

-- words wrap
wraps : (word i : ℕ) → (word % 2 ^ 64 + i) % 2 ^ 64 ≡ (word + i) % 2 ^ 64
wraps word i =
    let whole : word + i ≡ (word % 2 ^ 64 + i) + 2 ^ 64 * (word / 2 ^ 64) = omega (arith, mod-add-div word (2 ^ 64)) in
    sym (ap (λ (k : ℕ). k % 2 ^ 64) whole ∙ add-mul-mod_self_left (word % 2 ^ 64 + i) (2 ^ 64) (word / 2 ^ 64))

pub filled_by : (word first : ℕ) (blocks : List Sector) → first ≡ word % 2 ^ 64 → AreFilled first blocks → AreFilled word blocks
filled_by word first blocks is filled i within = filled i within ∙ ap (λ (k : ℕ). Some (fill_of k)) (ap (λ (k : ℕ). (k + i) % 2 ^ 64) is ∙ wraps word i)

pub written_by : (run disk word first from count patience : ℕ) (old new : Moment) (how : Moved) → first ≡ word % 2 ^ 64 → WritesPiece run disk first from count patience old new how → WritesPiece run disk word from count patience old new how
written_by run disk word first from count patience old new how is writes = record { sent = writes.sent; long = writes.long; filled = filled_by word first _ is writes.filled; shelf = writes.shelf; facts = writes.facts }
