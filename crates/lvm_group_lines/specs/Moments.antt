-- What holds of the moments of each line.
use Rattle.std.specs.Prelude.{◌≡◌, ◌≤◌, ◌+◌, ℕ, List, true, IfSome, IfNone, length}
use Rattle.lvm_disk.specs.Device.{Device, IsReady}
use Rattle.lvm_kept.specs.Moments.{Moment}
use Rattle.lvm_vol.specs.Facts.{Fact}
use Rattle.lvm_steps.specs.Moments.{ImagesKept, Keeps}
use Rattle.lvm_steps.specs.Behind.{IsAhead}
use Rattle.lvm_tie_commands.specs.passed.Commit.{IsOneFoundOn}
use Rattle.lvm_quiesce.specs.passed.Core.{IsHeld, EntersVolumes, IsSettled as IsSettledCore}
use Rattle.lvm_session.specs.State.{Core}
use Rattle.lvm_group_lines.specs.State.{ScriptState, IsAtRest, IsBetween, IsTimely, StandsAlone, StandsBy}
use Rattle.lvm_group_lines.specs.Replies.{IsStuck, most_refusals}
use Rattle.lvm_group_lines.specs.declared.reply.Refusal.TheVariants as refusal
use Rattle.lvm_group_lines.specs.declared.reply.Reply.{Reply}
use Rattle.lvm_group_lines.specs.declared.reply.Reply.TheVariants as reply

-- what is answered where something that was begun was broken off
abbrev pub IsBrokenOff : Reply → Type 0
IsBrokenOff (reply.Refused refusal.Dark) = Unit {0}
IsBrokenOff (reply.Refused (refusal.WentOff have total)) = Unit {0}
IsBrokenOff (reply.Refused refusal.Stuck) = Unit {0}
IsBrokenOff (reply.Refused (refusal.DiskFailed disk)) = Unit {0}
IsBrokenOff other = ⊥

-- what a line does with the session that is on: nothing, a command on its group, or requests
pub data Role : Type 0 where
  Aside : Role
  OfGroup : Role
  OfRequests : Role

-- it acts on the session
abbrev pub IsActing : Role → Type 0
IsActing Aside = ⊥
IsActing OfGroup = Unit {0}
IsActing OfRequests = Unit {0}

-- it makes requests of it, or turns, and leaves them under way
abbrev pub IsRequesting : Role → Type 0
IsRequesting Aside = ⊥
IsRequesting OfGroup = ⊥
IsRequesting OfRequests = Unit {0}

-- Whatever any disks find is of one group where a volume's making or removal is entered meanwhile; so too where a session is acted on whose group has volumes
-- and which has no open request.
pub record IsAlone (role : Role) (old new : ScriptState) : Type 0 where
  pub enters : EntersVolumes old.moment.facts new.moment.facts → IsOneFoundOn old.moment.device
  pub acts : IsActing role → IfSome old.session (StandsAlone old.moment.device)

-- A span goes on from the one state to the other, and the disks go on standing by the session, unless nothing was heard of a transfer.
abbrev pub KeepsStanding : ℕ → Reply → ScriptState → ScriptState → Type 0
KeepsStanding run answer old new = (first : Moment) → Keeps run first old.moment → StandsBy run first old → Keeps run first new.moment × ((IsStuck answer → ⊥) → StandsBy run first new)

-- A session begins settled, nothing is out, and its disks hold what it says is committed.
pub record HasBegunHeld (device : Device) (core : Core) : Type 0 where
  pub ready : IsReady device
  pub settled : IsSettledCore core
  pub held : IsHeld device core

-- From one state to the next, where this is answered. While the clock is ahead of each crash image, and no other group is found where that is asked, what
-- stood goes on to stand. The clock stays ahead of the disks, and of each crash image unless nothing was heard of a transfer: else the next line may begin, and
-- at rest too, if none of requests was between. A session that begins over disks which kept some history finds on them what it says.
pub record LineGoesOn (run : ℕ) (role : Role) (answer : Reply) (old new : ScriptState) : Type 0 where
  pub keeps : IsTimely run old → IsAlone role old new → KeepsStanding run answer old new
  pub timely : (IsStuck answer → ⊥) → IsTimely run old → IsTimely run new
  pub left : IsTimely run old → IsAhead run (new.last + 1) new.moment.device new.moment.facts
  pub between : (IsStuck answer → ⊥) → IsBetween new.moment new.session new.posts
  pub rests : (IsRequesting role → ⊥) → (IsStuck answer → ⊥) → IsAtRest old → IsAtRest new
  pub begins : IsTimely run old → (kept : List Fact) → ImagesKept old.moment.device kept → IfNone old.session (IfSome new.session (HasBegunHeld new.moment.device))
  pub power : new.moment.device.power ≡ true
  pub waits : old.moment.device.counts.waits ≤ new.moment.device.counts.waits
  pub clock : old.last ≤ new.last
  -- each refusal that it answers but one is that of a post that goes with it
  pub few : most_refusals answer + length new.posts ≤ length old.posts + 1
