-- What the lines on copies do, by the answer of their commands.
use Rattle.std.proofs.Common.{◌≡◌, ℕ, List, Some, Result, Ok, Err, refl}
use Rattle.lvm_num.specs.declared.place.Pp.{Pp}
use Rattle.lvm_session.specs.State.{Core, State}
use Rattle.lvm_core.specs.Looking.{IsNumberOf}
use Rattle.lvm_volume_lines.specs.passed.VolumePlan.{GroupFault, is_over}
use Rattle.lvm_volume_lines.specs.passed.GroupLines.{ScriptState}
use Rattle.lvm_volume_lines.specs.Volumes.{Drains, volume_reply}
use Rattle.lvm_volume_lines.specs.Copies.{AddsCopies, MklvcopyDoes, MklvcopyEnds, MklvcopyFails, RemovesCopies, RmlvcopyDoes, RmlvcopyEnds, RmlvcopyFails}

pub mklvcopy_does : (name : List ℕ) (copies lv : ℕ) (core : Core) (left : ℕ) (mid : State) (given : Result (List Pp) GroupFault) (old new : ScriptState) → old.session ≡ Some core → Drains core old left mid
    → IsNumberOf mid.core.descriptor.lvs name lv → MklvcopyEnds lv copies given (is_over given) left mid old new → MklvcopyDoes name copies old new (volume_reply given)
mklvcopy_does name copies lv core left mid (Ok added) old new its drains of ends = AddsCopies core left mid lv added its drains of ends refl
mklvcopy_does name copies lv core left mid (Err why) old new its drains of ends = MklvcopyFails core left mid lv why its drains of ends refl

pub rmlvcopy_does : (name : List ℕ) (copies lv : ℕ) (core : Core) (left : ℕ) (mid : State) (given : Result (Unit {0}) GroupFault) (old new : ScriptState) → old.session ≡ Some core → Drains core old left mid
    → IsNumberOf mid.core.descriptor.lvs name lv → RmlvcopyEnds lv copies given (is_over given) left mid old new → RmlvcopyDoes name copies old new (volume_reply given)
rmlvcopy_does name copies lv core left mid (Ok done) old new its drains of ends = RemovesCopies core left mid lv its drains of ends refl
rmlvcopy_does name copies lv core left mid (Err why) old new its drains of ends = RmlvcopyFails core left mid lv why its drains of ends refl
