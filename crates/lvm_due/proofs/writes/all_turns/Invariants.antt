use Rattle.std.proofs.Common.{◌≡◌, ◌≤◌, ◌*◌, take}
use Rattle.std.specs.Prelude.{sum_by}
use Rattle.lvm_session.specs.Fields.{core_of}
use Rattle.lvm_session.specs.Left.{turns_of}
use Rattle.lvm_due.proofs.writes.all_turns.Given as goal

abbrev pub invariant-loop-pp : goal.invariant-loop-pp
invariant-loop-pp l = (l.turns ≡ sum_by (turns_of (core_of l.session)) (take l.pp-index l.pps)) × (l.turns ≤ 46 * l.pp-index)
