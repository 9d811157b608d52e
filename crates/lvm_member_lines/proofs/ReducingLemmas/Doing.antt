-- What the line does, by the answer of the command.
use Rattle.std.proofs.Common.{◌≡◌, ℕ, List, Some, Result, Ok, Err, refl}
use Rattle.lvm_session.specs.State.{Core, State}
use Rattle.lvm_member_plan.specs.declared.fault.ReduceFault.{ReduceFault}
use Rattle.lvm_reduce.specs.Answers.{is_over}
use Rattle.lvm_volume_lines.specs.passed.GroupLines.{IsOn, ScriptState}
use Rattle.lvm_volume_lines.specs.Volumes.{Drains}
use Rattle.lvm_member_lines.specs.Reducing.{ReducesGroup, ReducevgDoes, ReducevgEnds, ReducevgFails, reduce_reply}

pub reducevg_does : (name disks : List ℕ) (core : Core) (left : ℕ) (mid : State) (given : Result (Unit {0}) ReduceFault) (old new : ScriptState) → old.session ≡ Some core → IsOn name core → Drains core old left mid
    → ReducevgEnds disks given (is_over given) left mid old new → ReducevgDoes name disks old new (reduce_reply given)
reducevg_does name disks core left mid (Ok done) old new its named drains ends = ReducesGroup core left mid its named drains ends refl
reducevg_does name disks core left mid (Err why) old new its named drains ends = ReducevgFails core left mid why its named drains ends refl
