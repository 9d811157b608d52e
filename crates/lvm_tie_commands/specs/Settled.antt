-- A settled session, between commands on its group: where it is tied, and what a tied session leaves that is settled again.
use Rattle.std.specs.Prelude.{◌≡◌, ◌<◌, ◌^◌, List, count_by}
use Rattle.lvm_num.specs.Votes.{CanWrite}
use Rattle.lvm_vol.specs.Facts.{Fact}
use Rattle.lvm_vol.specs.Legal.{begins_in}
use Rattle.lvm_disk.specs.Device.{Media, AreSectors, image_of}
use Rattle.lvm_kept.specs.Moments.{Calm, Moment}
use Rattle.lvm_steps.specs.Moments.{RunBegins}
use Rattle.lvm_commit.specs.LawsOfVolumes.{IsOneFoundOn}
use Rattle.lvm_session.specs.State.{State, is_there}
use Rattle.lvm_session.specs.Sound.{IsSound}
use Rattle.lvm_settled.specs.Settled.{IsKnown, IsCarriedOver}
use Rattle.lvm_settled.specs.passed.Core.{IsHeld, NotesAreHome}
use Rattle.lvm_tie.specs.Spares.{SparesDescriptors, SparesOn}
use Rattle.lvm_tie.specs.Tied.{IsGood, IsTied}
use Rattle.lvm_tie.specs.Begins.{IsCoreAtRest, MembersShow}

-- ---- in

-- What a settled session must have besides, so that requests may follow: it is sound as a session with requests is, its media has whole sectors, its stamp's
-- epoch is one of eight bytes, its notes are home, and each member that wasn't missing when it began shows the group and has room for its records.
pub record MayServe (s : State) (media : Media) : Type 0 where
  pub sound : IsSound s
  pub sectors : AreSectors s.device.sizes media
  pub epoch : s.core.status.stamp.epoch < 2 ^ 64
  pub notes : NotesAreHome s.core (image_of s.device.sizes media)
  pub members : MembersShow s media

-- what is known of a settled session, and what it must carry, with this earlier history
pub record IsSettledAfter (past : List Fact) (s : State) (media : Media) : Type 0 where
  pub known : IsKnown past s media
  pub carried : IsCarriedOver past s media known

-- It is tied with an earlier history that has no request of its run.
abbrev pub SettledTies : Type 0
SettledTies = (past : List Fact) (s : State) (media : Media) → IsSettledAfter past s media → MayServe s media
    → count_by (begins_in s.core.history.run) past ≡ 0 → IsTied past s

-- So it is good, where it is settled after each earlier history with which its run may have begun.
abbrev pub SettledServes : Type 0
SettledServes = (first : Moment) (s : State) (media : Media)
    → ((past : List Fact) → RunBegins s.core.history.run past first → IsSettledAfter past s media) → MayServe s media → IsGood s.core.history.run first s

-- ---- out

-- What is asked of a tied session at rest, so that commands may follow: its members that aren't missing have votes enough to write, the next descriptor spares
-- the newest one of each, on each crash image whatever any disks find is of one group, and no write was open before its run.
pub record MayBeLeft (past : List Fact) (s : State) (media : Media) : Type 0 where
  pub resting : IsCoreAtRest s.core
  pub votes : CanWrite s.core.descriptor (is_there s.core)
  pub spare : SparesOn s.core media
  pub only : IsOneFoundOn s.device
  pub calm : Calm past

-- It is settled again, and requests may follow.
abbrev pub TiedSettles : Type 0
TiedSettles = (past : List Fact) (s : State) (tied : IsTied past s) → MayBeLeft past s tied.media → IsSettledAfter past s tied.media × MayServe s tied.media

-- The disks of a tied session at rest hold what it says is committed, also where other groups stand beside its own.
abbrev pub TiedHolds : Type 0
TiedHolds = (past : List Fact) (s : State) → IsTied past s → IsCoreAtRest s.core → CanWrite s.core.descriptor (is_there s.core) → SparesDescriptors s → IsHeld s.device s.core
