use Rattle.std.proofs.Common.{◌≡◌, ◌≤◌, ◌<◌, ◌+◌, ◌-◌, [], None, length, vec_len, vec_capacity}
use Rattle.lvm_steps.specs.Requests.{at as moment_of}
use Rattle.lvm_raw.specs.declared.fault.RawFault.TheVariants as fault
use Rattle.lvm_raw.specs.Asking.{HasRoomForPieces}
use Rattle.lvm_raw.specs.OnePiece.{ReadsPiece}
use Rattle.lvm_raw.specs.Pieces.{with_front}
use Rattle.lvm_raw.proofs.PiecesLemmas.{SoFar}
use Rattle.lvm_raw.proofs.pieces.read_pieces.Given as goal

abbrev pub invariant-loop-from : goal.invariant-loop-from
invariant-loop-from g l = record {
  so_far : SoFar (λ from n. ReadsPiece l.fn.history.run l.fn.disk from n) fault.ReadFailed with_front l.fn.history.run l.fn.disk l.fn.at (l.fn.at + l.fn.count) l.fn.patience.left (moment_of (g.S.Shelf.device l.fn.shelf) l.fn.history.facts) [] l.from l.patience.left (moment_of (g.S.Shelf.device l.shelf) l.history.facts) l.blocks.items l.fault;
  rooms : l.history ≡ record l.fn.history { facts = l.history.facts };
  room : l.from < l.fn.at + l.fn.count → HasRoomForPieces l.history l.from ((l.fn.at + l.fn.count) - l.from);
  bytes : 131072 ≤ vec_capacity l.bytes;
  len : vec_len l.blocks ≤ l.from - l.fn.at;
  got : l.fault ≡ None → length l.blocks.items ≡ l.from - l.fn.at;
  blocks : l.fn.count ≤ vec_capacity l.blocks;
}

abbrev pub decreases-loop-from : goal.decreases-loop-from
decreases-loop-from g l = (l.fn.at + l.fn.count) - l.from
