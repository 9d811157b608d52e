-- What the lines do, by the answer of the change.
use Rattle.std.proofs.Common.{◌≡◌, ℕ, Bool, List, Some, Result, Ok, Err, refl}
use Rattle.lvm_session.specs.State.{Core, State}
use Rattle.lvm_volume_lines.specs.passed.Members.{RuleFault, is_over}
use Rattle.lvm_range_lines.specs.passed.GroupLines.{IsOn, ScriptState}
use Rattle.lvm_volume_lines.specs.Volumes.{Drains}
use Rattle.lvm_volume_lines.specs.Changing.{BecomesBig, ChvgBigDoes, ChvgBigEnds, ChvgBigFails, ChvgQuorumDoes, ChvgQuorumEnds, ChvgQuorumFails, SwitchesQuorum, change_reply}

pub chvg_quorum_does : (on : Bool) (name : List ℕ) (core : Core) (left : ℕ) (mid : State) (given : Result (Unit {0}) RuleFault) (old new : ScriptState) → old.session ≡ Some core → IsOn name core → Drains core old left mid
    → ChvgQuorumEnds on given (is_over given) left mid old new → ChvgQuorumDoes on name old new (change_reply given)
chvg_quorum_does on name core left mid (Ok done) old new its named drains ends = SwitchesQuorum core left mid its named drains ends refl
chvg_quorum_does on name core left mid (Err why) old new its named drains ends = ChvgQuorumFails core left mid why its named drains ends refl

pub chvg_big_does : (name : List ℕ) (core : Core) (left : ℕ) (mid : State) (given : Result (Unit {0}) RuleFault) (old new : ScriptState) → old.session ≡ Some core → IsOn name core → Drains core old left mid
    → ChvgBigEnds given (is_over given) left mid old new → ChvgBigDoes name old new (change_reply given)
chvg_big_does name core left mid (Ok done) old new its named drains ends = BecomesBig core left mid its named drains ends refl
chvg_big_does name core left mid (Err why) old new its named drains ends = ChvgBigFails core left mid why its named drains ends refl
