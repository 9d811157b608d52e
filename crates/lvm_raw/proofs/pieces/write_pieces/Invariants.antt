use Rattle.std.proofs.Common.{◌≡◌, ◌≤◌, ◌<◌, ◌+◌, ◌-◌, vec_capacity}
use Rattle.lvm_steps.specs.Requests.{at as moment_of}
use Rattle.lvm_raw.specs.declared.fault.RawFault.TheVariants as fault
use Rattle.lvm_raw.specs.Asking.{HasRoomForPieces}
use Rattle.lvm_raw.specs.OnePiece.{WritesPiece}
use Rattle.lvm_raw.proofs.PiecesLemmas.{SoFar}
use Rattle.lvm_raw.proofs.pieces.write_pieces.Given as goal

abbrev pub invariant-loop-from : goal.invariant-loop-from
invariant-loop-from g l = record {
  so_far : SoFar {X = Unit {0}} (λ from n. WritesPiece l.fn.history.run l.fn.disk (l.fn.word + (from - l.fn.at)) from n) fault.Lost (λ n back done. done) l.fn.history.run l.fn.disk l.fn.at (l.fn.at + l.fn.count) l.fn.patience.left (moment_of (g.S.Shelf.device l.fn.shelf) l.fn.history.facts) tt l.from l.patience.left (moment_of (g.S.Shelf.device l.shelf) l.history.facts) tt l.fault;
  rooms : l.history ≡ record l.fn.history { facts = l.history.facts };
  room : l.from < l.fn.at + l.fn.count → HasRoomForPieces l.history l.from ((l.fn.at + l.fn.count) - l.from);
  bytes : 131072 ≤ vec_capacity l.bytes;
}

abbrev pub decreases-loop-from : goal.decreases-loop-from
decreases-loop-from g l = (l.fn.at + l.fn.count) - l.from
