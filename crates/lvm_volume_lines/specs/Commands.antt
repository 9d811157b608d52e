-- How a session comes to rest before a command, and what is left of it.
use Rattle.std.specs.Prelude.{◌≡◌, ◌≢◌, ◌≤◌, ◌-◌, ℕ, Bool, true, false, [], List, Some, None, Result, Vec}
use Rattle.std.specs.declared.alloc.Global.{Global}
use Rattle.lvm_num.specs.declared.place.Pp.{Pp}
use Rattle.lvm_disk.specs.Counts.{RoseBy}
use Rattle.lvm_disk.specs.Device.{Device}
use Rattle.lvm_disk.specs.Paths.{Path}
use Rattle.lvm_transfer.specs.Transfer.{Relights}
use Rattle.lvm_session.specs.State.{Core, State, state}
use Rattle.lvm_session.specs.Sound.{IsSound}
use Rattle.lvm_core.specs.declared.fault.CommitFault.{CommitFault}
use Rattle.lvm_core.specs.Leaves.{Scope}
use Rattle.lvm_core.specs.Settled.{IsSettled}
use Rattle.lvm_core.specs.Sound.{IsSoundAtRest}
use Rattle.lvm_core.specs.State.{state_of}
use Rattle.lvm_range_lines.specs.passed.Driver.{FailsSo, IsAny, IsTurn}
use Rattle.lvm_range_lines.specs.passed.Tie.{RunsOn}
use Rattle.lvm_range_lines.specs.passed.Handover.{IsCommanded, OriginIsMarked}
use Rattle.lvm_range_lines.specs.passed.Posts.{Post}
use Rattle.lvm_range_lines.specs.passed.VolumePlan.{GroupFault, is_over}
use Rattle.lvm_range_lines.specs.passed.GroupLines.{HaveRooms, IsOfKind, history_in, history_of, posts_ended, session_in, session_of, shelf_in, shelf_of, Holder, Reply, Stage}
use Rattle.lvm_volume_lines.specs.Volumes.{volume_reply}

-- ---- before it

-- the session of a holder
abbrev pub session_at : {S : Type 0} → (S → Device) → Holder S → Core → State
session_at device holder core = state (device (shelf_of holder)) core

-- Turns have run the session on, and so much patience is left.
pub record IsTurned {S : Type 0} (device : S → Device) (holder : Holder S) (before after : ℕ) (driver : S × Core) : Type 0 where
  pub core : Core
  pub its : session_of holder ≡ Some core
  pub turns : Path IsTurn IsAny (session_at device holder core) (state_of device driver)
  pub runs : RunsOn (session_at device holder core) (state_of device driver)
  pub sound : IsSound (state_of device driver)
  pub few : after ≤ before
  pub waited : RoseBy (before - after) (device (shelf_of holder)).counts.waits (device driver.0).counts.waits

-- Then nothing is under way; where the group has no volume nothing was.
pub record HasRested {S : Type 0} (device : S → Device) (holder : Holder S) (before after : ℕ) (driver : S × Core) : Type 0 where
  pub turned : IsTurned device holder before after driver
  pub empty : turned.core.descriptor.lvs ≡ [] → state_of device driver ≡ session_at device holder turned.core
  pub settled : IsSettled driver.1
  pub between : IsSoundAtRest (state_of device driver)

-- Or they ended before, for this.
pub record HasBrokenOff {S : Type 0} (device : S → Device) (holder : Holder S) (before after : ℕ) (driver : S × Core) (why : CommitFault) : Type 0 where
  pub turned : IsTurned device holder before after driver
  pub volumes : turned.core.descriptor.lvs ≢ []
  pub fails : FailsSo after (state_of device driver) why

-- ---- after it

-- The session is held again: as it is where its group has no volume, else it takes requests, and these copies count as stale since it began.
pub record IsHeldAgain {S : Type 0} (device : S → Device) (added : List Pp) (driver : S × Core) (by : Holder S) : Type 0 where
  pub core : Core
  pub session : session_of by ≡ Some core
  pub shelf : shelf_of by ≡ driver.0
  pub history : history_of by ≡ driver.1.history
  pub is : core ≡ record driver.1 { origin = core.origin }
  pub empty : driver.1.descriptor.lvs ≡ [] → core ≡ driver.1
  pub served : driver.1.descriptor.lvs ≢ [] → OriginIsMarked added driver.1 core
  pub sound : IsSound (state (device driver.0) core)
  pub kind : IsOfKind by

-- so a stage holds it
pub record IsLeftOn {S : Type 0} (device : S → Device) (added : List Pp) (driver : S × Core) (posts : Vec Post Global) (bytes : Vec ℕ Global) (stage : Stage S) : Type 0 where
  pub by : Holder S
  pub held : IsHeldAgain device added driver by
  pub is : stage ≡ record { holder = by; posts = posts; bytes = bytes }

-- or it is closed, its posts have ended, and the power is on
pub record IsLeftOff {S : Type 0} (device : S → Device) (driver : S × Core) (posts : Vec Post Global) (bytes : Vec ℕ Global) (stage : Stage S) : Type 0 where
  pub session : session_in stage ≡ None
  pub lit : Relights (device driver.0) (device (shelf_in stage))
  pub history : history_in stage ≡ driver.1.history
  pub posted : stage.posts.items ≡ posts_ended (Some driver.1) posts.items
  pub rooms : (entries : ℕ) → HaveRooms entries posts bytes → HaveRooms entries stage.posts stage.bytes
  pub kind : IsOfKind stage.holder

abbrev pub IsLeftAs : {S : Type 0} → (S → Device) → Bool → List Pp → S × Core → Vec Post Global → Vec ℕ Global → Stage S → Type 0
IsLeftAs device true added driver posts bytes stage = IsLeftOff device driver posts bytes stage
IsLeftAs device false added driver posts bytes stage = IsLeftOn device added driver posts bytes stage

-- no copies were added, whatever was answered
abbrev pub none_added : {X : Type 0} → Result X GroupFault → List Pp
none_added given = []

-- The command was answered so, which added these copies, and left this of the session.
pub record IsCarriedOut {S X : Type 0} (device : S → Device) (Gives : State → State → Result X GroupFault → Type 0) (added : Result X GroupFault → List Pp) (scope : Scope) (before : ℕ) (driver : S × Core)
    (posts : Vec Post Global) (bytes : Vec ℕ Global) (stage : Stage S) (answer : Reply) : Type 0 where
  pub given : Result X GroupFault
  pub left : S × Core
  pub after : ℕ
  pub gives : Gives (state_of device driver) (state_of device left) given
  pub commanded : IsCommanded scope before after (state_of device driver) (state_of device left) given
  pub is : IsLeftAs device (is_over given) (added given) left posts bytes stage
  pub says : answer ≡ volume_reply given
