-- What `varyoffvg` does.
use Rattle.std.specs.Prelude.{◌≡◌, ◌≤◌, ◌&&◌, ℕ, Bool, true, false, [], List, Option, Some, None, Result, Ok, Err, IfSome, IsTrue, IsFalse, Vec}
use Rattle.std.specs.declared.alloc.Global.{Global}
use Rattle.std.specs.List.{list_any}
use Rattle.lvm_num.specs.declared.descriptor.Descriptor.{Descriptor}
use Rattle.lvm_num.specs.declared.descriptor.LvRow.{LvRow}
use Rattle.lvm_num.specs.declared.status.Status.{Status}
use Rattle.lvm_num.specs.Modes.{is_passive}
use Rattle.lvm_num.specs.Status.{calls_dirty}
use Rattle.lvm_disk.specs.Device.{Device}
use Rattle.lvm_session.specs.State.{Core, State}
use Rattle.lvm_core.specs.declared.fault.CommitFault.{CommitFault}
use Rattle.lvm_core.specs.Leaves.{Leaves}
use Rattle.lvm_core.specs.State.{state_of}
use Rattle.lvm_volumes.specs.Tidying.{TidyGives, to_tidy}
use Rattle.lvm_range_lines.specs.passed.Posts.{Post}
use Rattle.lvm_range_lines.specs.passed.GroupLines.{IsRefused, IsOn, IsNotOn, open_in, ScriptState, Reply, Stage, EndsSession}
use Rattle.lvm_volume_lines.specs.passed.RefusalVariants as refusal
use Rattle.lvm_volume_lines.specs.passed.ReplyVariants as reply
use Rattle.lvm_volume_lines.specs.Commands.{IsLeftOff}
use Rattle.lvm_volume_lines.specs.Volumes.{Drains, IsDone, IsUndrained, drain_refusal}

-- ---- dirty volumes

-- whether one of the volumes is in mode passive and dirty
abbrev pub any_dirty : List LvRow → Status → Bool
any_dirty rows s = list_any (λ (row : LvRow). is_passive row.mode && calls_dirty s row.number) rows

-- so of a group
abbrev pub has_dirty : Descriptor → Status → Bool
has_dirty group s = any_dirty group.lvs s

-- whether one of the group that is on is, by what is committed
abbrev pub is_dirty_on : Option Core → Bool
is_dirty_on None = false
is_dirty_on (Some core) = has_dirty core.descriptor core.status.committed

-- ---- marks that go before a session ends

-- what is answered, by what became of the status without them
abbrev pub tidy_reply : Result (Unit {0}) CommitFault → Reply
tidy_reply (Ok done) = reply.Ok
tidy_reply (Err why) = reply.Refused (drain_refusal why)

-- The marks that aren't needed were dropped, or as far as it went, and the session was closed.
pub record IsTidiedOff {S : Type 0} (device : S → Device) (before : ℕ) (driver : S × Core) (posts : Vec Post Global) (bytes : Vec ℕ Global) (stage : Stage S) (answer : Reply) : Type 0 where
  pub given : Result (Unit {0}) CommitFault
  pub left : S × Core
  pub after : ℕ
  pub gives : TidyGives before (state_of device driver) (state_of device left) given
  pub leaves : Leaves (to_tidy driver.1) before after (state_of device driver) (state_of device left)
  pub is : IsLeftOff device left posts bytes stage
  pub says : answer ≡ tidy_reply given

-- so they were, with so much patience, on the session at which nothing was under way
abbrev pub TidyEnds : Result (Unit {0}) CommitFault → ℕ → State → ScriptState → ScriptState → Type 0
TidyEnds given patience mid old new = IsDone (λ was is. TidyGives patience was is given) to_tidy true mid old new

-- ---- the line

-- `varyoffvg`: where no volume is dirty the session ends as it is; else turns are made first until nothing is under way, and then the marks go that aren't needed.
pub data VaryoffDoes (name : List ℕ) (old new : ScriptState) (answer : Reply) : Type 0 where
  NoVaryoff : IsNotOn name old.session → IsRefused refusal.NoGroup answer old new → VaryoffDoes name old new answer
  BusyVaryoff : IfSome old.session (IsOn name) → 1 ≤ open_in old.session → IsRefused refusal.Busy answer old new → VaryoffDoes name old new answer
  VariesOff : (core : Core) → old.session ≡ Some core → IsOn name core → core.requests ≡ [] → IsFalse (is_dirty_on old.session) → EndsSession old new → answer ≡ reply.Ok → VaryoffDoes name old new answer
  UndrainedVaryoff : (core : Core) (why : CommitFault) → old.session ≡ Some core → IsOn name core → IsTrue (is_dirty_on old.session) → IsUndrained core old new why answer → VaryoffDoes name old new answer
  TidiesOff : (core : Core) (left : ℕ) (mid : State) → old.session ≡ Some core → IsOn name core → IsTrue (is_dirty_on old.session) → Drains core old left mid → TidyEnds (Ok tt) left mid old new
      → answer ≡ reply.Ok → VaryoffDoes name old new answer
  VaryoffFails : (core : Core) (left : ℕ) (mid : State) (why : CommitFault) → old.session ≡ Some core → IsOn name core → IsTrue (is_dirty_on old.session) → Drains core old left mid
      → TidyEnds (Err why) left mid old new → answer ≡ reply.Refused (drain_refusal why) → VaryoffDoes name old new answer
