-- A session that mkvg or varyon has begun, by what their contracts say: where it is good.
use Rattle.std.specs.Prelude.{false, ◌≡◌, ℕ, ◌<◌, ◌^◌, List, [], Some}
use Rattle.lvm_disk.specs.Device.{Device, Media, AreSectors, image_of}
use Rattle.lvm_vol.specs.Facts.{Fact}
use Rattle.lvm_vol.specs.Log.{Log}
use Rattle.lvm_vol.specs.Order.{Ordered}
use Rattle.lvm_kept.specs.Kept.{Kept}
use Rattle.lvm_kept.specs.Moments.{Moment, StaysCalm}
use Rattle.lvm_steps.specs.Moments.{ImagesKept, Keeps}
use Rattle.lvm_steps.specs.Requests.{at}
use Rattle.lvm_steps.specs.Behind.{ClockIsAhead}
use Rattle.lvm_commit.specs.LawsOfVolumes.{IsOneFoundOn}
use Rattle.lvm_session.specs.State.{State, is_there}
use Rattle.lvm_session_start.specs.Beginning.{AreFaults}
use Rattle.lvm_settled.specs.passed.Core.{Room, BringsOn, IsStarted, NotesAreHome, IsSoundAtRest, IsRoom}
use Rattle.lvm_varyon.specs.Varied.{ComesOn, DirtyAreEqual}
use Rattle.lvm_group.specs.Made.{IsMade}
use Rattle.lvm_group.specs.NewGroup.{NewGroup}
use Rattle.lvm_tie.specs.passed.Even.{IsEven}
use Rattle.lvm_tie.specs.Tied.{IsGood}
use Rattle.lvm_tie.specs.Begins.{ShowsIts, shown_to}

-- ---- what their contracts say

-- What both contracts say of a session that has begun over this shelf and after this history, and what holds of its driver.
pub record IsBegun (was : Log) (moment : ℕ) (room : Room) (old : Device) (s : State) : Type 0 where
  pub before : ℕ
  pub after : ℕ
  pub room_is : IsRoom room
  pub sound : IsSoundAtRest s
  pub started : IsStarted was.run moment old was s
  pub faults : AreFaults s.device s.core.origin.faults
  pub leaves : BringsOn was.run moment before after old s.device was s.core.history

-- The clock was ahead, and a span led to the call, after which no write was open where none had been.
pub record LeadsTo (first : Moment) (was : Log) (moment : ℕ) (old : Device) : Type 0 where
  pub clock : ClockIsAhead was.run moment old was.facts
  pub keeps : Keeps was.run first (at old was.facts)
  pub calm : StaysCalm first (at old was.facts)

-- ---- what they don't say

-- What each shelf that tells its media, and each history give: whole sectors, and entries in their order with room for numbers of four bytes.
pub record IsDriven (s : State) (media : Media) : Type 0 where
  pub told : s.device.media ≡ Some media
  pub sectors : AreSectors s.device.sizes media
  pub ordered : Ordered s.core.history.run [] s.core.history.facts
  pub few : s.core.history.room < 2 ^ 32

-- What recovery leaves: the notes are home, and the usable copies are even.
pub record IsMadeEven (s : State) (media : Media) : Type 0 where
  pub notes : NotesAreHome s.core (image_of s.device.sizes media)
  pub even : (shows : ShowsIts s media) → IsEven (shown_to s media) s.core.descriptor (Some shows.stands) (is_there s.core)

-- So it is where the copies of volumes that are dirty still are equal and the disks kept some history before: once the notes name nothing, what they keep makes the usable copies even.
abbrev pub VariedIsMadeEven : Type 0
VariedIsMadeEven = (past : List Fact) (was : Log) (name : List ℕ) (moment : ℕ) (room : Room) (old : Device) (s : State) (media : Media)
    → ComesOn old s.device was name moment room s.core → IsBegun was moment room old s → ClockIsAhead was.run moment old was.facts → (facts : List Fact) → ImagesKept old facts → s.device.media ≡ Some media
    → DirtyAreEqual s.device s.core → Kept (shown_to s media) past → IsMadeEven s media

-- ---- where it is good

-- Where a varyon has begun it, on each crash image whatever is found is of one group, and its copies are made even.
abbrev pub VariedOnServes : Type 0
VariedOnServes = (first : Moment) (was : Log) (name : List ℕ) (moment : ℕ) (room : Room) (old : Device) (s : State) (media : Media)
    → ComesOn old s.device was name moment room s.core → IsBegun was moment room old s → LeadsTo first was moment old
    → IsDriven s media → IsOneFoundOn s.device → IsMadeEven s media → IsGood was.run first s

-- Where a mkvg has: the group has no volume.
abbrev pub MadeServes : Type 0
MadeServes = (first : Moment) (was : Log) (w : NewGroup) (room : Room) (old : Device) (s : State) (media : Media)
    → IsMade w room was old s.device s.core → IsBegun was w.moment room old s → LeadsTo first was w.moment old
    → IsDriven s media → IsOneFoundOn s.device → IsGood was.run first s

-- Without force whatever is found is of one group on each crash image, since no disk showed one before.
abbrev pub MadeAlone : Type 0
MadeAlone = (was : Log) (w : NewGroup) (room : Room) (old : Device) (s : State) (media : Media)
    → IsMade w room was old s.device s.core → IsBegun was w.moment room old s → ClockIsAhead was.run w.moment old was.facts → (facts : List Fact) → ImagesKept old facts
    → s.device.media ≡ Some media → w.force ≡ false → IsOneFoundOn s.device
