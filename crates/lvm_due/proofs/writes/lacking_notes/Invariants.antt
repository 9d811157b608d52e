use Rattle.std.proofs.Common.{◌≡◌, ◌≤◌, take}
use Rattle.std.specs.Prelude.{count_by}
use Rattle.lvm_session.specs.Fields.{core_of}
use Rattle.lvm_session.specs.Left.{lacks_note}
use Rattle.lvm_due.proofs.writes.lacking_notes.Given as goal

abbrev pub invariant-loop-target : goal.invariant-loop-target
invariant-loop-target l = (l.lacking ≡ count_by (lacks_note (core_of l.session) l.request) (take l.target-index l.request.targets.items)) × (l.lacking ≤ l.target-index)
