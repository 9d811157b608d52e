-- What the line does that splits a volume of the group that is on.
use Rattle.std.specs.Prelude.{◌≡◌, ◌≤◌, ℕ, Bool, false, List, Some, None, Result, Ok, Err}
use Rattle.lvm_session.specs.State.{Core, State}
use Rattle.lvm_core.specs.declared.fault.CommitFault.{CommitFault}
use Rattle.lvm_core.specs.Looking.{IsNumberOf, HasNoVolumeNamed}
use Rattle.lvm_volume_lines.specs.passed.VolumePlan.{GroupFault, ends_session}
use Rattle.lvm_volume_lines.specs.passed.Splitting.{SplitGives, to_split}
use Rattle.lvm_volume_lines.specs.passed.GroupLines.{IsRefused, open_in, ScriptState, Reply}
use Rattle.lvm_volume_lines.specs.passed.RefusalVariants as refusal
use Rattle.lvm_volume_lines.specs.passed.ReplyVariants as reply
use Rattle.lvm_volume_lines.specs.Volumes.{Drains, IsDone, IsUndrained, StaysOn, refusal_for}

-- the split of the volume of a number on the session, at which nothing was under way, was answered so, with so much patience
abbrev pub SplitlvcopyEnds : ℕ → List ℕ → ℕ → Result ℕ GroupFault → Bool → ℕ → State → ScriptState → ScriptState → Type 0
SplitlvcopyEnds lv made copies given over patience mid old new = IsDone (λ was is. SplitGives lv made copies patience was is given) (to_split lv made copies) over mid old new

-- `splitlvcopy`, of the volume that has the name; the one that is made of the copies behind the first ones has the name that is made
pub data SplitlvcopyDoes (made name : List ℕ) (copies : ℕ) (old new : ScriptState) (answer : Reply) : Type 0 where
  NoGroupForSplitlvcopy : old.session ≡ None → IsRefused refusal.NoGroup answer old new → SplitlvcopyDoes made name copies old new answer
  BusySplitlvcopy : 1 ≤ open_in old.session → IsRefused refusal.Busy answer old new → SplitlvcopyDoes made name copies old new answer
  UndrainedSplitlvcopy : (core : Core) (why : CommitFault) → old.session ≡ Some core → IsUndrained core old new why answer → SplitlvcopyDoes made name copies old new answer
  NoVolumeForSplitlvcopy : (core : Core) (left : ℕ) (mid : State) → old.session ≡ Some core → Drains core old left mid → HasNoVolumeNamed mid.core.descriptor.lvs name → StaysOn mid old new → new.last ≡ old.last
      → answer ≡ reply.Refused refusal.NoVolume → SplitlvcopyDoes made name copies old new answer
  SplitsVolume : (core : Core) (left : ℕ) (mid : State) (lv number : ℕ) → old.session ≡ Some core → Drains core old left mid → IsNumberOf mid.core.descriptor.lvs name lv
      → SplitlvcopyEnds lv made copies (Ok number) false left mid old new → answer ≡ reply.Ok → SplitlvcopyDoes made name copies old new answer
  SplitlvcopyFails : (core : Core) (left : ℕ) (mid : State) (lv : ℕ) (why : GroupFault) → old.session ≡ Some core → Drains core old left mid → IsNumberOf mid.core.descriptor.lvs name lv
      → SplitlvcopyEnds lv made copies (Err why) (ends_session why) left mid old new → answer ≡ reply.Refused (refusal_for why) → SplitlvcopyDoes made name copies old new answer
