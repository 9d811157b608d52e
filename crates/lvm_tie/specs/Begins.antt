-- A session at which nothing is under way, by what its shelf and its history say: where it is tied.
use Rattle.std.specs.Prelude.{◌≡◌, ◌≢◌, ℕ, ◌<◌, ◌^◌, ◌++◌, false, true, List, [], None, Some, IsTrue, count_by}
use Rattle.lvm_num.specs.declared.record.Stamp.{Stamp}
use Rattle.lvm_num.specs.Descriptor.{is_member}
use Rattle.lvm_num.specs.Status.{calls_missing}
use Rattle.lvm_num.specs.Votes.{CanWrite}
use Rattle.lvm_vol.specs.Facts.{Fact}
use Rattle.lvm_vol.specs.Legal.{begins_in}
use Rattle.lvm_vol.specs.Log.{Log}
use Rattle.lvm_disk.specs.Device.{Device, Media, AreSectors, image_of}
use Rattle.lvm_kept.specs.Contents.{Contents, contents_of}
use Rattle.lvm_kept.specs.Group.{is_named}
use Rattle.lvm_kept.specs.Moments.{Calm, Moment, StaysCalm}
use Rattle.lvm_steps.specs.Moments.{HistoryHolds, Keeps}
use Rattle.lvm_tie.specs.passed.Commit.{HoldsCommitted, ShowsCommitted, IsOneFoundOn}
use Rattle.lvm_mwc.specs.Cache.{flight_on, is_named as is_named_by}
use Rattle.lvm_rec.specs.declared.homes.Homes.{Homes}
use Rattle.lvm_session.specs.declared.open.Power.TheVariants as power
use Rattle.lvm_session.specs.State.{Core, State, state, is_there}
use Rattle.lvm_session.specs.Sound.{IsSound}
use Rattle.lvm_session_start.specs.declared.parts.Parts.{Parts}
use Rattle.lvm_session_start.specs.Beginning.{MayBeginSession, first_core}
use Rattle.lvm_even.specs.Members.{members_showing}
use Rattle.lvm_even.specs.Even.{HoldsAtRest, IsEven, MissingAreStale}
use Rattle.lvm_tie.specs.Spares.{SparesDescriptors}
use Rattle.lvm_tie.specs.Tied.{IsGood, IsTied, moment_of}

-- ---- at rest

-- nothing is under way, and what is wanted is committed
pub record IsCoreAtRest (core : Core) : Type 0 where
  pub requests : core.requests ≡ []
  pub copy : core.copy ≡ None
  pub flying : core.flying ≡ []
  pub in_flight : core.status.in_flight ≡ None
  pub committed : core.status.committed ≡ core.status.wanted
  pub notes : (disk : ℕ) → flight_on core.cache disk ≡ None

-- what its disks show where this stands on them
abbrev pub shown_to : State → Media → Contents
shown_to s media = contents_of (image_of s.device.sizes media)

-- the note of each member that isn't missing names the track groups that the session's cache says it does
abbrev pub NotesAreHomeIn : Core → Contents → Type 0
NotesAreHomeIn core c = (d lv group : ℕ) → IsTrue (is_there core d) → is_named c d lv group ≡ is_named_by core.cache d lv group

-- What stands on the disks of a session at rest: they hold what it says is committed, on each crash image whatever any disks find is of one group,
-- notes are home, the usable copies are even, and none is left behind.
pub record StandsAtRest (s : State) (media : Media) : Type 0 where
  pub told : s.device.media ≡ Some media
  pub sectors : AreSectors s.device.sizes media
  pub some_epoch : s.core.status.stamp.epoch ≢ 0
  pub epoch : s.core.status.stamp.epoch < 2 ^ 64
  pub votes : CanWrite s.core.descriptor (is_there s.core)
  pub held : HoldsCommitted (image_of s.device.sizes media) s.core.descriptor s.core.status.committed (is_there s.core) s.core.status.stamp s.core.homes
  pub only : IsOneFoundOn s.device
  pub notes : NotesAreHomeIn s.core (shown_to s media)
  pub even : IsEven (shown_to s media) s.core.descriptor (Some held.shows.stands) (is_there s.core)
  pub behind : MissingAreStale (shown_to s media) s.core.descriptor (Some held.shows.stands) (is_there s.core)

-- With this earlier history each crash image is kept, no write is open, and it has no request of this run.
pub record FollowsOn (past : List Fact) (s : State) : Type 0 where
  pub holds : HistoryHolds past (moment_of s)
  pub calm : Calm (past ++ s.core.history.facts)
  pub own : count_by (begins_in s.core.history.run) past ≡ 0

-- each member that wasn't missing when it began shows the group and has room for its records
abbrev pub MembersShow : State → Media → Type 0
MembersShow s media = (d : ℕ) → is_member s.core.descriptor d ≡ true → calls_missing s.core.origin.table d ≡ false
    → IsTrue (members_showing (shown_to s media) s.core.descriptor d)

-- Then a sound session that is on is tied.
abbrev pub RestTies : Type 0
RestTies = (past : List Fact) (s : State) (media : Media) → IsSound s → s.core.power ≡ power.On → IsCoreAtRest s.core → StandsAtRest s media
    → MembersShow s media → FollowsOn past s → IsTied past s

-- The next descriptor of each member that isn't missing spares the newest one there.
abbrev pub RestSpares : Type 0
RestSpares = (s : State) (media : Media) → StandsAtRest s media → SparesDescriptors s

-- ---- as it begins

-- what a session begins with
pub record Start : Type 0 where
  pub device : Device
  pub parts : Parts
  pub history : Log
  pub stamp : Stamp
  pub homes : Homes
  pub faults : List ℕ

-- the session that begins with it
abbrev pub begun : Start → State
begun b = state b.device (first_core b.parts b.history b.stamp b.homes b.faults)

-- it may, and then is sound
pub record BeginsSound (b : Start) : Type 0 where
  pub may : MayBeginSession b.device b.history b.stamp b.homes b.parts
  pub sound : IsSound (begun b)

-- It is tied with an earlier history that it follows on.
abbrev pub BeginsTied : Type 0
BeginsTied = (past : List Fact) (b : Start) (media : Media) → BeginsSound b → StandsAtRest (begun b) media → FollowsOn past (begun b) → IsTied past (begun b)

-- So it is with each with which its run may have begun, where a span leads to it after which no write is open where none was.
abbrev pub BeginsGood : Type 0
BeginsGood = (first : Moment) (b : Start) (media : Media) → BeginsSound b → StandsAtRest (begun b) media
    → Keeps b.history.run first (moment_of (begun b)) → StaysCalm first (moment_of (begun b)) → IsGood b.history.run first (begun b)

-- ---- and back

-- the disks show what the session says is committed
abbrev pub ShowsIts : State → Media → Type 0
ShowsIts s media = ShowsCommitted (shown_to s media) s.core.descriptor s.core.status.committed (is_there s.core)

-- they keep the history, the usable copies are even, and the notes are home
pub record IsRested (past : List Fact) (s : State) (media : Media) (shows : ShowsIts s media) : Type 0 where
  pub told : s.device.media ≡ Some media
  pub rest : HoldsAtRest (shown_to s media) (past ++ s.core.history.facts) s.core.descriptor (Some shows.stands) (is_there s.core)
  pub notes : NotesAreHomeIn s.core (shown_to s media)

-- So they do where a tied session is at rest, and its members that aren't missing have votes enough to write.
abbrev pub TiedRests : Type 0
TiedRests = (past : List Fact) (s : State) (tied : IsTied past s) → IsCoreAtRest s.core → CanWrite s.core.descriptor (is_there s.core)
    → (shows : ShowsIts s tied.media) × IsRested past s tied.media shows
