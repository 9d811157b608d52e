-- What the line does, by the answer of the split.
use Rattle.std.proofs.Common.{◌≡◌, ℕ, List, Some, Result, Ok, Err, refl}
use Rattle.lvm_session.specs.State.{Core, State}
use Rattle.lvm_core.specs.Looking.{IsNumberOf}
use Rattle.lvm_volume_lines.specs.passed.VolumePlan.{GroupFault, is_over}
use Rattle.lvm_volume_lines.specs.passed.GroupLines.{ScriptState}
use Rattle.lvm_volume_lines.specs.Volumes.{Drains, volume_reply}
use Rattle.lvm_volume_lines.specs.Splitting.{SplitlvcopyDoes, SplitlvcopyEnds, SplitlvcopyFails, SplitsVolume}

pub splitlvcopy_does : (made name : List ℕ) (copies lv : ℕ) (core : Core) (left : ℕ) (mid : State) (given : Result ℕ GroupFault) (old new : ScriptState) → old.session ≡ Some core → Drains core old left mid
    → IsNumberOf mid.core.descriptor.lvs name lv → SplitlvcopyEnds lv made copies given (is_over given) left mid old new → SplitlvcopyDoes made name copies old new (volume_reply given)
splitlvcopy_does made name copies lv core left mid (Ok number) old new its drains of ends = SplitsVolume core left mid lv number its drains of ends refl
splitlvcopy_does made name copies lv core left mid (Err why) old new its drains of ends = SplitlvcopyFails core left mid lv why its drains of ends refl
