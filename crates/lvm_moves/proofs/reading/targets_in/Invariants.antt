use Rattle.std.proofs.Common.{◌≡◌, map, take}
use Rattle.lvm_session.specs.Fields.{core_of}
use Rattle.lvm_session.specs.State.{state}
use Rattle.lvm_session.specs.Events.{copy_of, target_at}
use Rattle.lvm_moves.proofs.reading.targets_in.Given as goal

abbrev pub invariant-loop-number : goal.invariant-loop-number
invariant-loop-number g l = l.targets.items ≡ map (λ n. target_at (state (g.S.Shelf.device l.shelf) (core_of l.session)) l.ask (copy_of l.copies n)) (take l.number-index l.order)
