-- A session that a command on copies has left: where it is sound with requests too.
use Rattle.std.specs.Prelude.{◌≡◌, ℕ, List, [], Result, Ok, Err}
use Rattle.lvm_num.specs.declared.place.Pp.{Pp}
use Rattle.lvm_session.specs.State.{State}
use Rattle.lvm_session.specs.Sound.{IsSound}
use Rattle.lvm_tie_commands.specs.passed.VolumePlan.{GroupFault, IfOn}
use Rattle.lvm_volumes.specs.Mirrors.{MklvcopyGives, RmlvcopyGives, to_add, to_take}
use Rattle.lvm_tie_commands.specs.passed.Handover.{IsCommanded, MayServe, StaysSound}

-- It may be handed over with these copies; where there are none, it is sound as it is too.
abbrev pub MayServeWith : List Pp → State → Type 0
MayServeWith added s = MayServe added s × (added ≡ [] → StaysSound s)

-- the copies that were added, by the answer
abbrev pub added_by : Result (List Pp) GroupFault → List Pp
added_by (Ok added) = added
added_by (Err why) = []

-- A sound session may be handed over with them after the addition of copies that leaves it on,
abbrev pub MklvcopyServes : Type 0
MklvcopyServes = (lv copies before after : ℕ) (old new : State) (answer : Result (List Pp) GroupFault)
    → IsSound old → IsCommanded (to_add lv copies old.core) before after old new answer → MklvcopyGives lv copies before old new answer → IfOn answer (MayServeWith (added_by answer) new)

-- and without any after the removal of copies.
abbrev pub RmlvcopyServes : Type 0
RmlvcopyServes = (lv copies before after : ℕ) (old new : State) (answer : Result (Unit {0}) GroupFault)
    → IsSound old → IsCommanded (to_take lv copies old.core) before after old new answer → RmlvcopyGives lv copies before old new answer → IfOn answer (MayServeWith [] new)
