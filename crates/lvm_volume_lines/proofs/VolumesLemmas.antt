-- What the lines do, by the answer of their commands.
use Rattle.std.proofs.Common.{◌≡◌, ℕ, List, Option, Some, IfSome, Result, Ok, Err, refl, subst}
use Rattle.lvm_session.specs.State.{Core, State}
use Rattle.lvm_core.specs.Looking.{IsNumberOf}
use Rattle.lvm_range_lines.specs.passed.VolumePlan.{GroupFault, NewVolume, is_over}
use Rattle.lvm_range_lines.specs.passed.GroupLines.{IsOn, ScriptState}
use Rattle.lvm_volume_lines.specs.Volumes.{Drains, MklvDoes, MklvEnds, MakesVolume, MklvFails, RmlvDoes, RmlvEnds, RemovesVolume, RmlvFails, volume_reply}

-- what holds of the session that is on
pub on_some : (P : Core → Type 0) (on : Option Core) (core : Core) → IfSome on P → on ≡ Some core → P core
on_some P on core holds is = subst (λ (o : Option Core). IfSome o P) is holds

pub mklv_does : (w : NewVolume) (group : List ℕ) (core : Core) (left : ℕ) (mid : State) (given : Result ℕ GroupFault) (old new : ScriptState) → old.session ≡ Some core → IsOn group core → Drains core old left mid
    → MklvEnds w given (is_over given) left mid old new → MklvDoes w group old new (volume_reply given)
mklv_does w group core left mid (Ok number) old new its on drains ends = MakesVolume core left mid number its on drains ends refl
mklv_does w group core left mid (Err why) old new its on drains ends = MklvFails core left mid why its on drains ends refl

pub rmlv_does : (name : List ℕ) (lv : ℕ) (core : Core) (left : ℕ) (mid : State) (given : Result (Unit {0}) GroupFault) (old new : ScriptState) → old.session ≡ Some core → Drains core old left mid
    → IsNumberOf mid.core.descriptor.lvs name lv → RmlvEnds lv given (is_over given) left mid old new → RmlvDoes name old new (volume_reply given)
rmlv_does name lv core left mid (Ok done) old new its drains of ends = RemovesVolume core left mid lv its drains of ends refl
rmlv_does name lv core left mid (Err why) old new its drains of ends = RmlvFails core left mid lv why its drains of ends refl
