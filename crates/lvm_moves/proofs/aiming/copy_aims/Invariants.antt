use Rattle.std.proofs.Common.{◌≡◌, ◌||◌, filter, map, take}
use Rattle.lvm_num.specs.declared.place.Pp.{Pp}
use Rattle.lvm_session.specs.Fields.{core_of}
use Rattle.lvm_session.specs.Judging.{is_caught, is_usable}
use Rattle.lvm_session.specs.State.{state}
use Rattle.lvm_session.specs.Events.{target_at}
use Rattle.lvm_moves.proofs.aiming.copy_aims.Given as goal

abbrev pub invariant-loop-pp : goal.invariant-loop-pp
invariant-loop-pp g l =
    l.targets.items
    ≡ map (target_at (state (g.S.Shelf.device l.shelf) (core_of l.session)) l.ask) (filter (λ (p : Pp). is_usable (core_of l.session) p || is_caught (core_of l.session) l.group p) (take l.pp-index l.copies))
