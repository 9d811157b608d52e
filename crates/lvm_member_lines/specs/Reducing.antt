-- What the line does by which disks leave the group that is on.
use Rattle.std.specs.Prelude.{◌≡◌, ◌≤◌, ℕ, Bool, false, [], List, Some, Result, Ok, Err, IfSome, IsSome, Vec}
use Rattle.std.specs.declared.alloc.Global.{Global}
use Rattle.lvm_disk.specs.Device.{Device}
use Rattle.lvm_session.specs.State.{Core, State}
use Rattle.lvm_core.specs.declared.fault.CommitFault.{CommitFault}
use Rattle.lvm_core.specs.State.{state_of}
use Rattle.lvm_member_plan.specs.declared.fault.ReduceFault.{ReduceFault}
use Rattle.lvm_member_plan.specs.declared.fault.ReduceFault.TheVariants as fault
use Rattle.lvm_reduce.specs.Answers.{ReduceGives, ends_session, is_over}
use Rattle.lvm_member_plan.specs.Descriptors.{IsReducedBy}
use Rattle.lvm_member_laws.specs.Reducing.{IsReduced}
use Rattle.lvm_volume_lines.specs.passed.Posts.{Post}
use Rattle.lvm_volume_lines.specs.passed.GroupLines.{IsNotOn, IsOn, IsRefused, open_in, ScriptState, Refusal, Reply, Stage}
use Rattle.lvm_volume_lines.specs.passed.RefusalVariants as refusal
use Rattle.lvm_volume_lines.specs.passed.ReplyVariants as reply
use Rattle.lvm_volume_lines.specs.Changing.{IsChangeDone}
use Rattle.lvm_volume_lines.specs.Commands.{IsLeftAs}
use Rattle.lvm_volume_lines.specs.Volumes.{Drains, IsUndrained}

-- ---- what is answered

-- why disks didn't leave, as the refusal of the line
abbrev pub reduce_refusal : ReduceFault → Refusal
reduce_refusal fault.Dark = refusal.Dark
reduce_refusal (fault.WentOff have total) = refusal.WentOff have total
reduce_refusal fault.Busy = refusal.Busy
reduce_refusal (fault.NoDisk disk) = refusal.NoDisk disk
reduce_refusal fault.LastDisk = refusal.LastDisk
reduce_refusal (fault.DiskInUse disk) = refusal.DiskInUse disk
reduce_refusal (fault.NoQuorum have total) = refusal.NoQuorum have total
reduce_refusal fault.HistoryFull = refusal.HistoryFull
reduce_refusal fault.Stuck = refusal.Stuck
reduce_refusal fault.Memory = refusal.Memory

-- the reply
abbrev pub reduce_reply : Result (Unit {0}) ReduceFault → Reply
reduce_reply (Ok done) = reply.Ok
reduce_reply (Err why) = reply.Refused (reduce_refusal why)

-- ---- the command

-- The command was answered so, and left this of the session.
pub record IsReduceCarriedOut {S : Type 0} (device : S → Device) (disks : List ℕ) (before : ℕ) (driver : S × Core) (posts : Vec Post Global) (bytes : Vec ℕ Global) (stage : Stage S) (answer : Reply) : Type 0 where
  pub given : Result (Unit {0}) ReduceFault
  pub left : S × Core
  pub after : ℕ
  pub reduced : IsReduced disks before after (state_of device driver) (state_of device left) given
  pub is : IsLeftAs device (is_over given) [] left posts bytes stage
  pub says : answer ≡ reduce_reply given

-- what it leaves of the session that has come to rest, with so much patience
abbrev pub ReducevgEnds : List ℕ → Result (Unit {0}) ReduceFault → Bool → ℕ → State → ScriptState → ScriptState → Type 0
ReducevgEnds disks given over patience mid old new = IsChangeDone (IsReducedBy disks mid.core.descriptor) [] disks (λ was is. ReduceGives disks patience was is given) over mid old new

-- ---- the line

-- `reducevg`; for the disks that it names no memory may be found, where a group is on
pub data ReducevgDoes (name disks : List ℕ) (old new : ScriptState) (answer : Reply) : Type 0 where
  NoGroupForReducevg : IsNotOn name old.session → IsRefused refusal.NoGroup answer old new → ReducevgDoes name disks old new answer
  NoMemoryForReducevg : IsSome old.session → IsRefused refusal.Memory answer old new → ReducevgDoes name disks old new answer
  BusyReducevg : IfSome old.session (IsOn name) → 1 ≤ open_in old.session → IsRefused refusal.Busy answer old new → ReducevgDoes name disks old new answer
  UndrainedReducevg : (core : Core) (why : CommitFault) → old.session ≡ Some core → IsOn name core → IsUndrained core old new why answer → ReducevgDoes name disks old new answer
  ReducesGroup : (core : Core) (left : ℕ) (mid : State) → old.session ≡ Some core → IsOn name core → Drains core old left mid → ReducevgEnds disks (Ok tt) false left mid old new → answer ≡ reply.Ok
      → ReducevgDoes name disks old new answer
  ReducevgFails : (core : Core) (left : ℕ) (mid : State) (why : ReduceFault) → old.session ≡ Some core → IsOn name core → Drains core old left mid → ReducevgEnds disks (Err why) (ends_session why) left mid old new
      → answer ≡ reply.Refused (reduce_refusal why) → ReducevgDoes name disks old new answer
