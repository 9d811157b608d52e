use Rattle.std.proofs.Common.{◌≡◌, ◌-◌}
use Rattle.lvm_session.specs.Fields.{core_of}
use Rattle.lvm_session.specs.Rooms.{SameRooms}
use Rattle.lvm_due.specs.Due.{IsDue}
use Rattle.lvm_moves.proofs.pins.pin_first.Given as goal

abbrev pub invariant-loop-due : goal.invariant-loop-due
invariant-loop-due l = record { same : core_of l.session ≡ core_of l.initial.session; rooms : SameRooms l.initial.session l.session; due : IsDue (core_of l.session) l.due }

abbrev pub decreases-loop-due : goal.decreases-loop-due
decreases-loop-due l = l.due.pinning.to - l.due.pinning.from
