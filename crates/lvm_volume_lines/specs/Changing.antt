-- What the lines do by which the group that is on changes its rule of votes, or becomes big.
use Rattle.std.specs.Prelude.{◌≡◌, ◌≤◌, ℕ, Bool, false, [], List, Some, Result, Ok, Err, IfSome, Vec}
use Rattle.std.specs.declared.alloc.Global.{Global}
use Rattle.lvm_num.specs.declared.descriptor.Descriptor.{Descriptor}
use Rattle.lvm_disk.specs.Device.{Device, IsReady}
use Rattle.lvm_write.specs.Written.{KeepsShelf}
use Rattle.lvm_session.specs.State.{Core, State, state, is_there}
use Rattle.lvm_core.specs.declared.fault.CommitFault.{CommitFault}
use Rattle.lvm_core.specs.Held.{IsHeld}
use Rattle.lvm_core.specs.Leaves.{FindsOnly}
use Rattle.lvm_core.specs.Settled.{IsSettled}
use Rattle.lvm_core.specs.State.{state_of}
use Rattle.lvm_range_lines.specs.passed.Posts.{Post}
use Rattle.lvm_range_lines.specs.passed.GroupLines.{IsNotOn, IsOn, IsRefused, open_in, ScriptState, Refusal, Reply, Stage}
use Rattle.lvm_volume_lines.specs.passed.Members.{BigGives, IsChangedTo, IsNext, IsOfChange, KeepsMarks, among, RuleFault, RuleGives, as_big, ends_session, is_over, with_quorum}
use Rattle.lvm_volume_lines.specs.passed.RuleFaultVariants as fault
use Rattle.lvm_volume_lines.specs.passed.RefusalVariants as refusal
use Rattle.lvm_volume_lines.specs.passed.ReplyVariants as reply
use Rattle.lvm_volume_lines.specs.Commands.{IsLeftAs}
use Rattle.lvm_volume_lines.specs.Volumes.{Drains, IsLeftEither, IsUndrained}

-- ---- what is answered

-- a fault of a change, as the refusal of its line
abbrev pub change_refusal : RuleFault → Refusal
change_refusal fault.Dark = refusal.Dark
change_refusal (fault.WentOff have total) = refusal.WentOff have total
change_refusal fault.Busy = refusal.Busy
change_refusal (fault.NoQuorum have total) = refusal.NoQuorum have total
change_refusal fault.HistoryFull = refusal.HistoryFull
change_refusal fault.Stuck = refusal.Stuck
change_refusal fault.Memory = refusal.Memory

-- the reply to a change
abbrev pub change_reply : Result (Unit {0}) RuleFault → Reply
change_reply (Ok done) = reply.Ok
change_reply (Err why) = reply.Refused (change_refusal why)

-- ---- a change

-- The change to this descriptor was answered so, and left this of the session.
pub record IsChangeCarriedOut {S : Type 0} (device : S → Device) (next : Descriptor) (Gives : State → State → Result (Unit {0}) RuleFault → Type 0) (before : ℕ) (driver : S × Core)
    (posts : Vec Post Global) (bytes : Vec ℕ Global) (stage : Stage S) (answer : Reply) : Type 0 where
  pub given : Result (Unit {0}) RuleFault
  pub left : S × Core
  pub after : ℕ
  pub gives : Gives (state_of device driver) (state_of device left) given
  pub changed : IsChangedTo next before after (state_of device driver) (state_of device left) given
  pub is : IsLeftAs device (is_over given) [] left posts bytes stage
  pub says : answer ≡ change_reply given

-- The change on the session, at which nothing was under way, was answered so, the clock wasn't asked, and of descriptors none may be found then that might not be
-- before, but one of which N holds. Only statuses of the session and such descriptors were written, to members and disks that join, and zeros at the heads of slots
-- of disks that left; a member became missing only after a transfer to it had failed, and only partitions of copies that were left behind became stale. Where the
-- session goes on it is at rest, and its disks hold what it says, where they did.
pub record IsChangeDone (N : Descriptor → Type 0) (joins erases : List ℕ) (Gives : State → State → Type 0) (over : Bool) (mid : State) (old new : ScriptState) : Type 0 where
  pub left : State
  pub gives : Gives mid left
  pub leaves : IsLeftEither over left old new
  pub finds : FindsOnly N mid (state new.moment.device left.core)
  pub status : KeepsMarks N joins erases mid left
  pub writes : KeepsShelf (among joins (among erases (is_there mid.core))) (IsOfChange N joins erases mid left) mid.device left.device
  pub held : over ≡ false → IsHeld mid.device mid.core → IsHeld left.device left.core
  pub rests : over ≡ false → IsSettled left.core × IsReady left.device
  pub clock : new.last ≡ old.last

-- so quorum checking was switched, with so much patience,
abbrev pub ChvgQuorumEnds : Bool → Result (Unit {0}) RuleFault → Bool → ℕ → State → ScriptState → ScriptState → Type 0
ChvgQuorumEnds on given over patience mid old new =
    IsChangeDone (IsNext (with_quorum on mid.core.descriptor)) [] [] (λ was is. RuleGives (with_quorum on was.core.descriptor) patience was is given) over mid old new

-- and so the group became big
abbrev pub ChvgBigEnds : Result (Unit {0}) RuleFault → Bool → ℕ → State → ScriptState → ScriptState → Type 0
ChvgBigEnds given over patience mid old new = IsChangeDone (IsNext (as_big mid.core.descriptor)) [] [] (λ was is. BigGives patience was is given) over mid old new

-- ---- the lines

-- `chvg -Q`
pub data ChvgQuorumDoes (on : Bool) (name : List ℕ) (old new : ScriptState) (answer : Reply) : Type 0 where
  NoGroupForChvgQuorum : IsNotOn name old.session → IsRefused refusal.NoGroup answer old new → ChvgQuorumDoes on name old new answer
  BusyChvgQuorum : IfSome old.session (IsOn name) → 1 ≤ open_in old.session → IsRefused refusal.Busy answer old new → ChvgQuorumDoes on name old new answer
  UndrainedChvgQuorum : (core : Core) (why : CommitFault) → old.session ≡ Some core → IsOn name core → IsUndrained core old new why answer → ChvgQuorumDoes on name old new answer
  SwitchesQuorum : (core : Core) (left : ℕ) (mid : State) → old.session ≡ Some core → IsOn name core → Drains core old left mid → ChvgQuorumEnds on (Ok tt) false left mid old new → answer ≡ reply.Ok
      → ChvgQuorumDoes on name old new answer
  ChvgQuorumFails : (core : Core) (left : ℕ) (mid : State) (why : RuleFault) → old.session ≡ Some core → IsOn name core → Drains core old left mid → ChvgQuorumEnds on (Err why) (ends_session why) left mid old new
      → answer ≡ reply.Refused (change_refusal why) → ChvgQuorumDoes on name old new answer

-- `chvg -B`
pub data ChvgBigDoes (name : List ℕ) (old new : ScriptState) (answer : Reply) : Type 0 where
  NoGroupForChvgBig : IsNotOn name old.session → IsRefused refusal.NoGroup answer old new → ChvgBigDoes name old new answer
  BusyChvgBig : IfSome old.session (IsOn name) → 1 ≤ open_in old.session → IsRefused refusal.Busy answer old new → ChvgBigDoes name old new answer
  UndrainedChvgBig : (core : Core) (why : CommitFault) → old.session ≡ Some core → IsOn name core → IsUndrained core old new why answer → ChvgBigDoes name old new answer
  BecomesBig : (core : Core) (left : ℕ) (mid : State) → old.session ≡ Some core → IsOn name core → Drains core old left mid → ChvgBigEnds (Ok tt) false left mid old new → answer ≡ reply.Ok
      → ChvgBigDoes name old new answer
  ChvgBigFails : (core : Core) (left : ℕ) (mid : State) (why : RuleFault) → old.session ≡ Some core → IsOn name core → Drains core old left mid → ChvgBigEnds (Err why) (ends_session why) left mid old new
      → answer ≡ reply.Refused (change_refusal why) → ChvgBigDoes name old new answer
