-- Over a command on the copies of a volume, by the contract of its call: what stands on the disks goes on to stand.
use Rattle.std.specs.Prelude.{ℕ, List, Result}
use Rattle.lvm_num.specs.declared.place.Pp.{Pp}
use Rattle.lvm_kept.specs.Moments.{Moment}
use Rattle.lvm_steps.specs.Moments.{Keeps}
use Rattle.lvm_session.specs.State.{State}
use Rattle.lvm_tie_commands.specs.passed.Core.{moment_of}
use Rattle.lvm_tie_commands.specs.passed.VolumePlan.{GroupFault, IfOn}
use Rattle.lvm_volumes.specs.Mirrors.{MklvcopyGives, RmlvcopyGives, to_add, to_take}
use Rattle.lvm_split.specs.Splitting.{SplitGives, to_split}
use Rattle.lvm_tie_commands.specs.passed.Handover.{IsCommanded}
use Rattle.lvm_tie_commands.specs.Commands.{IsLeftStandingSince, MayBeCommanded}

-- A span goes on over the addition of copies, whatever its answer, and where the session does, what stood stands again,
abbrev pub MklvcopyGoesOn : Type 0
MklvcopyGoesOn = (run : ℕ) (first : Moment) (lv copies before after : ℕ) (old new : State) (answer : Result (List Pp) GroupFault)
    → MayBeCommanded run first old → IsCommanded (to_add lv copies old.core) before after old new answer → MklvcopyGives lv copies before old new answer
    → Keeps run first (moment_of new) × IfOn answer (IsLeftStandingSince run first new)

-- and so it is over the removal of copies.
abbrev pub RmlvcopyGoesOn : Type 0
RmlvcopyGoesOn = (run : ℕ) (first : Moment) (lv copies before after : ℕ) (old new : State) (answer : Result (Unit {0}) GroupFault)
    → MayBeCommanded run first old → IsCommanded (to_take lv copies old.core) before after old new answer → RmlvcopyGives lv copies before old new answer
    → Keeps run first (moment_of new) × IfOn answer (IsLeftStandingSince run first new)

-- So it is over the split of a volume, of which some copies become another one.
abbrev pub SplitGoesOn : Type 0
SplitGoesOn = (run : ℕ) (first : Moment) (lv : ℕ) (name : List ℕ) (copies before after : ℕ) (old new : State) (answer : Result ℕ GroupFault)
    → MayBeCommanded run first old → IsCommanded (to_split lv name copies old.core) before after old new answer → SplitGives lv name copies before old new answer
    → Keeps run first (moment_of new) × IfOn answer (IsLeftStandingSince run first new)
