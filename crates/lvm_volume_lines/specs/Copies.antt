-- What the lines do that give a volume of the group that is on more copies, or leave it fewer.
use Rattle.std.specs.Prelude.{◌≡◌, ◌≤◌, ℕ, Bool, false, List, Some, None, Result, Ok, Err}
use Rattle.lvm_num.specs.declared.place.Pp.{Pp}
use Rattle.lvm_session.specs.State.{Core, State}
use Rattle.lvm_core.specs.declared.fault.CommitFault.{CommitFault}
use Rattle.lvm_core.specs.Looking.{IsNumberOf, HasNoVolumeNamed}
use Rattle.lvm_volume_lines.specs.passed.VolumePlan.{GroupFault, ends_session}
use Rattle.lvm_volume_lines.specs.passed.Volumes.{MklvcopyGives, RmlvcopyGives, to_add, to_take}
use Rattle.lvm_volume_lines.specs.passed.GroupLines.{IsRefused, open_in, ScriptState, Reply}
use Rattle.lvm_volume_lines.specs.passed.RefusalVariants as refusal
use Rattle.lvm_volume_lines.specs.passed.ReplyVariants as reply
use Rattle.lvm_volume_lines.specs.Volumes.{Drains, IsDone, IsUndrained, StaysOn, refusal_for}

-- ---- a command

-- `mklvcopy` on the session, at which nothing was under way, was answered so, with so much patience,
abbrev pub MklvcopyEnds : ℕ → ℕ → Result (List Pp) GroupFault → Bool → ℕ → State → ScriptState → ScriptState → Type 0
MklvcopyEnds lv copies given over patience mid old new = IsDone (λ was is. MklvcopyGives lv copies patience was is given) (to_add lv copies) over mid old new

-- so was `rmlvcopy`
abbrev pub RmlvcopyEnds : ℕ → ℕ → Result (Unit {0}) GroupFault → Bool → ℕ → State → ScriptState → ScriptState → Type 0
RmlvcopyEnds lv copies given over patience mid old new = IsDone (λ was is. RmlvcopyGives lv copies patience was is given) (to_take lv copies) over mid old new

-- ---- the lines

-- `mklvcopy`, of the volume that has the name
pub data MklvcopyDoes (name : List ℕ) (copies : ℕ) (old new : ScriptState) (answer : Reply) : Type 0 where
  NoGroupForMklvcopy : old.session ≡ None → IsRefused refusal.NoGroup answer old new → MklvcopyDoes name copies old new answer
  BusyMklvcopy : 1 ≤ open_in old.session → IsRefused refusal.Busy answer old new → MklvcopyDoes name copies old new answer
  UndrainedMklvcopy : (core : Core) (why : CommitFault) → old.session ≡ Some core → IsUndrained core old new why answer → MklvcopyDoes name copies old new answer
  NoVolumeForMklvcopy : (core : Core) (left : ℕ) (mid : State) → old.session ≡ Some core → Drains core old left mid → HasNoVolumeNamed mid.core.descriptor.lvs name → StaysOn mid old new → new.last ≡ old.last
      → answer ≡ reply.Refused refusal.NoVolume → MklvcopyDoes name copies old new answer
  AddsCopies : (core : Core) (left : ℕ) (mid : State) (lv : ℕ) (added : List Pp) → old.session ≡ Some core → Drains core old left mid → IsNumberOf mid.core.descriptor.lvs name lv
      → MklvcopyEnds lv copies (Ok added) false left mid old new → answer ≡ reply.Ok → MklvcopyDoes name copies old new answer
  MklvcopyFails : (core : Core) (left : ℕ) (mid : State) (lv : ℕ) (why : GroupFault) → old.session ≡ Some core → Drains core old left mid → IsNumberOf mid.core.descriptor.lvs name lv
      → MklvcopyEnds lv copies (Err why) (ends_session why) left mid old new → answer ≡ reply.Refused (refusal_for why) → MklvcopyDoes name copies old new answer

-- `rmlvcopy`, of the volume that has the name
pub data RmlvcopyDoes (name : List ℕ) (copies : ℕ) (old new : ScriptState) (answer : Reply) : Type 0 where
  NoGroupForRmlvcopy : old.session ≡ None → IsRefused refusal.NoGroup answer old new → RmlvcopyDoes name copies old new answer
  BusyRmlvcopy : 1 ≤ open_in old.session → IsRefused refusal.Busy answer old new → RmlvcopyDoes name copies old new answer
  UndrainedRmlvcopy : (core : Core) (why : CommitFault) → old.session ≡ Some core → IsUndrained core old new why answer → RmlvcopyDoes name copies old new answer
  NoVolumeForRmlvcopy : (core : Core) (left : ℕ) (mid : State) → old.session ≡ Some core → Drains core old left mid → HasNoVolumeNamed mid.core.descriptor.lvs name → StaysOn mid old new → new.last ≡ old.last
      → answer ≡ reply.Refused refusal.NoVolume → RmlvcopyDoes name copies old new answer
  RemovesCopies : (core : Core) (left : ℕ) (mid : State) (lv : ℕ) → old.session ≡ Some core → Drains core old left mid → IsNumberOf mid.core.descriptor.lvs name lv
      → RmlvcopyEnds lv copies (Ok tt) false left mid old new → answer ≡ reply.Ok → RmlvcopyDoes name copies old new answer
  RmlvcopyFails : (core : Core) (left : ℕ) (mid : State) (lv : ℕ) (why : GroupFault) → old.session ≡ Some core → Drains core old left mid → IsNumberOf mid.core.descriptor.lvs name lv
      → RmlvcopyEnds lv copies (Err why) (ends_session why) left mid old new → answer ≡ reply.Refused (refusal_for why) → RmlvcopyDoes name copies old new answer
