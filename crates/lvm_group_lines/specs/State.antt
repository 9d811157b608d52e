-- What stands between two lines of a script.
use Rattle.std.specs.Prelude.{◌≡◌, ◌≢◌, ◌+◌, ◌≤◌, ℕ, [], List, Option, None, IfSome, IfNone, IsSomeAnd, All, AllPairs}
use Rattle.lvm_disk.specs.Device.{Device, IsReady}
use Rattle.lvm_vol.specs.Facts.{Fact}
pub use Rattle.lvm_vol.specs.Log.{log_with, without_facts}
use Rattle.lvm_kept.specs.Moments.{Moment}
use Rattle.lvm_steps.specs.Moments.{RunBegins}
use Rattle.lvm_tie_commands.specs.passed.Commit.{IsOneFoundOn}
use Rattle.lvm_tie_commands.specs.passed.Posts.{Post, IsLaidOut, AreAnswered, AreHeld}
use Rattle.lvm_status.specs.Members.{HasItsRows}
use Rattle.lvm_session.specs.declared.open.Power.TheVariants as power
use Rattle.lvm_session.specs.State.{Core, state}
use Rattle.lvm_session.specs.Sound.{HasPower, IsSound}
use Rattle.lvm_tie_commands.specs.passed.Tie.{LeavesDescriptors, IsStamped}
use Rattle.lvm_quiesce.specs.passed.Core.{HaveAllLanded, IsSettled as IsSettledCore}
use Rattle.lvm_quiesce.specs.Behind.{IsAheadEach}
use Rattle.lvm_tie_commands.specs.passed.Handover.{AreGone}
use Rattle.lvm_tie_commands.specs.Standing.{StandsAfter}

-- The shelf and what the history has so far, the session of the group that is on, if one is, the posts whose answers aren't taken, and the clock's last moment.
pub record ScriptState : Type 0 where
  pub moment : Moment
  pub session : Option Core
  pub posts : List Post
  pub last : ℕ

-- ---- the posts

-- A post asks for something. While its session is on the table has its requests; once that is gone the history has its answers, which aren't taken, and the
-- table of a later session none of its requests.
pub record IsPosted (facts : List Fact) (on : Option Core) (p : Post) : Type 0 where
  pub laid : IsLaidOut p.asked
  pub some : 1 ≤ p.asked.pieces
  pub held : p.ended ≡ None → IsSomeAnd on (λ core. AreHeld core p.asked)
  pub answered : IfSome p.ended (λ votes. AreAnswered facts p.asked)
  pub gone : IfSome p.ended (λ votes. IfSome on (λ core. AreGone core p.asked))

-- Each is so, and the numbers of their requests rise.
pub record ArePosted (facts : List Fact) (on : Option Core) (posts : List Post) : Type 0 where
  pub each : All (IsPosted facts on) posts
  pub rise : AllPairs (λ a b. a.asked.first + a.asked.pieces ≤ b.asked.first) posts

-- ---- what is under way

-- A session that is on is sound, and has begun, with a row of its first status for each member; no copy is brought up; and where its group has no volume
-- nothing is under way in it.
pub record IsOnBetween (device : Device) (core : Core) : Type 0 where
  pub power : core.power ≡ power.On
  pub sound : IsSound (state device core)
  pub stamped : IsStamped core.status
  pub rows : HasItsRows core.descriptor core.origin.table
  pub copy : core.copy ≡ None
  pub empty : core.descriptor.lvs ≡ [] → IsSettledCore core

-- The power is on, and no buffer was given up; transfers may be out, also of a session that is gone, but to no slot of descriptors. Without a session each
-- request has landed.
pub record IsBetween (moment : Moment) (on : Option Core) (posts : List Post) : Type 0 where
  pub lit : HasPower moment.device
  pub descriptors : LeavesDescriptors moment.device
  pub landed : IfNone on (HaveAllLanded moment.facts)
  pub session : IfSome on (IsOnBetween moment.device)
  pub posted : ArePosted moment.facts on posts

-- nothing is out, or under way in a session, and no post is left
pub record IsAtRest (s : ScriptState) : Type 0 where
  pub ready : IsReady s.moment.device
  pub landed : HaveAllLanded s.moment.facts
  pub session : IfSome s.session IsSettledCore
  pub posts : s.posts ≡ []

-- ---- the clock

-- What stands on the disks, or may after a loss of power, is of sessions up to the clock's last moment, and so is the run and each group that was varied on
-- in it, that of the session among them.
pub record IsTimely (run : ℕ) (s : ScriptState) : Type 0 where
  pub ahead : IsAheadEach run (s.last + 1) s.moment.device s.moment.facts
  pub session : IfSome s.session (λ core. core.status.stamp.epoch ≤ s.last)

-- ---- what stands on the disks

-- Where its group has a volume and no request is open, whatever any disks find is of one group.
abbrev pub StandsAlone : Device → Core → Type 0
StandsAlone device core = core.requests ≡ [] → core.descriptor.lvs ≢ [] → IsOneFoundOn device

-- After each earlier history with which the run may have begun, the disks stand by the session, where its group stands alone.
abbrev pub StandsBy : ℕ → Moment → ScriptState → Type 0
StandsBy run first s = (past : List Fact) → RunBegins run past first → IfSome s.session (λ core. StandsAlone s.moment.device core → StandsAfter past s.moment.device core)
