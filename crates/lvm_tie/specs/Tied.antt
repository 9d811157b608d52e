-- The tie of a session and its shelf to a good state of the induction.
use Rattle.std.specs.Prelude.{◌≡◌, ◌⊎◌, ℕ, ◌++◌, ◌∷◌, true, false, List, [], Option, Some, None, IsTrue, count_by}
use Rattle.lvm_num.specs.declared.descriptor.Descriptor.{Descriptor}
use Rattle.lvm_num.specs.declared.place.Pp.{Pp}
use Rattle.lvm_num.specs.declared.status.Status.{Status}
use Rattle.lvm_num.specs.Descriptor.{is_member}
use Rattle.lvm_num.specs.declared.record.Stamp.{Stamp}
use Rattle.lvm_num.specs.Record.{Stamped, stamp_lt}
use Rattle.lvm_num.specs.Status.{calls_missing}
use Rattle.lvm_vol.specs.Facts.{Fact}
use Rattle.lvm_vol.specs.Legal.{begins_in}
use Rattle.lvm_disk.specs.Device.{Image, Media, image_of}
use Rattle.lvm_disk.specs.Paths.{DeviceStep}
use Rattle.lvm_kept.specs.Contents.{Contents, contents_of}
use Rattle.lvm_kept.specs.Moments.{Moment}
use Rattle.lvm_kept.specs.Torn.{RecordWrite}
use Rattle.lvm_status.specs.Update.{Stored, members_there}
use Rattle.lvm_steps.specs.Moments.{RunBegins, SpanGoesOn, Upholds}
use Rattle.lvm_session.specs.declared.bringing.OpenCopy.{OpenCopy}
use Rattle.lvm_session.specs.declared.bringing.Step.TheVariants as step
use Rattle.lvm_session.specs.declared.open.Power.TheVariants as power
use Rattle.lvm_rec.specs.declared.homes.Homes.{Homes}
use Rattle.lvm_session.specs.State.{Core, State}
pub use Rattle.lvm_session.specs.State.{moment_of}
use Rattle.lvm_session.specs.Bringing.{has_row, block_at}
use Rattle.lvm_session.specs.Sound.{IsSound}
use Rattle.lvm_invariant.specs.State.{ModelState}
use Rattle.lvm_invariant.specs.Found.{Votes}
use Rattle.lvm_invariant.specs.Good.{Good}
use Rattle.lvm_crash.specs.Session.{AreVotesOf, Describes}
use Rattle.lvm_even.specs.Members.{members_showing}
use Rattle.lvm_crash.specs.Owned.{OnlyUpdateSince, AllOwned}
use Rattle.lvm_tie.specs.Out.{AreNotes, CarryTheirs, IsWriteOf, MayUpdate}
use Rattle.lvm_tie.specs.Seen.{update_of, Sees}

-- ---- the tie

-- each block of the step of the copy that is open is one of its copy's, and of the copy's from which it is read
abbrev pub IsCopyAimed : Core → ModelState → Type 0
IsCopyAimed core v = (c : OpenCopy) → core.copy ≡ Some c → has_row core c ≡ true
    → IsTrue (v.is_copy c.lv (block_at core c) c.pp) × ((source : Pp) → c.step ≡ step.Reading source → IsTrue (v.is_copy c.lv (block_at core c) source))

-- Each member that isn't missing shows this status, which is the committed one and the group's, and no disk a later one of the group.
pub record ShowsStatus (group : Descriptor) (status : Stored) (c : Contents) : Type 0 where
  pub stands : Stamped Status
  pub committed : stands.value ≡ status.committed
  pub own : stands.value.id ≡ group.id
  pub stated : (d : ℕ) → IsTrue (members_there group status.wanted d) → c.status d ≡ Some stands
  pub last : (d : ℕ) (r : Stamped Status) → c.status d ≡ Some r → r.value.id ≡ group.id → (stamp_lt r.stamp stands.stamp ≡ true) ⊎ (r ≡ stands)

-- Each member that isn't missing shows the group's descriptor, no disk a later one of the group, and while no update is in flight so with the committed status.
pub record ShowsRecords (group : Descriptor) (status : Stored) (c : Contents) : Type 0 where
  pub descriptor : Stamped Descriptor
  pub value : descriptor.value ≡ group
  pub described : (d : ℕ) → IsTrue (members_there group status.wanted d) → c.descriptor d ≡ Some descriptor
  pub latest : (d : ℕ) (r : Stamped Descriptor) → c.descriptor d ≡ Some r → r.value.id ≡ group.id → (stamp_lt r.stamp descriptor.stamp ≡ true) ⊎ (r ≡ descriptor)
  pub settled : status.in_flight ≡ None → ShowsStatus group status c

-- What is under the stamp of the committed status is that status: on the disks, and in flight.
pub record CommittedIsOne (stamp : Stamp) (group : Descriptor) (status : Stored) (c : Contents) : Type 0 where
  pub stands : (d : ℕ) (r : Stamped Status) → c.status d ≡ Some r → r.value.id ≡ group.id → r.stamp ≡ stamp → r.value ≡ status.committed
  pub flies : (u : Stamped Status) → update_of status ≡ Some u → u.stamp ≡ stamp → u.value ≡ status.committed

-- The setting of a tie: the votes are the group's, the shelf tells its media, and the earlier history has no request of this run.
pub record IsSetting (past : List Fact) (run : ℕ) (group : Descriptor) (shown : Option Media) (votes : Votes) (media : Media) : Type 0 where
  pub are_votes : AreVotesOf group votes
  pub told : shown ≡ Some media
  pub own : count_by (begins_in run) past ≡ 0

-- What stands in the records of the disks: the next update may be written, each member that wasn't missing at first shows the group and has room for its records, and
-- the members that aren't missing show what is committed, which has this stamp.
pub record HoldsRecords (stamp : Stamp) (group : Descriptor) (first : Status) (status : Stored) (homes : Homes) (image : Image) : Type 0 where
  pub next : MayUpdate group status homes image
  pub members : (d : ℕ) → is_member group d ≡ true → calls_missing first d ≡ false → IsTrue (members_showing (contents_of image) group d)
  pub records : ShowsRecords group status (contents_of image)
  pub committed : CommittedIsOne stamp group status (contents_of image)

-- What is asked of the driver's session alone: it is on and sound, and its update in flight is written so.
pub record IsOrderly (s : State) (write : Option RecordWrite) : Type 0 where
  pub sound : IsSound s
  pub on : s.core.power ≡ power.On
  pub update : IsWriteOf s.core.status s.core.homes s.core.status.in_flight write

-- After this earlier history a session that is on and sound is seen as a good state, which describes what stands on the media. What is out is written since the
-- update in flight began, a step writes what it has got, and notes fit.
pub record IsTied (past : List Fact) (s : State) : Type 0 where
  pub votes : Votes
  pub media : Media
  pub setting : IsSetting past s.core.history.run s.core.descriptor s.device.media votes media
  pub view : ModelState
  pub sees : Sees past s.core view
  pub good : Good votes view
  pub describes : Describes view view.facts s.core.descriptor (update_of s.core.status) (contents_of (image_of s.device.sizes media))
  pub write : Option RecordWrite
  pub orderly : IsOrderly s write
  pub since : OnlyUpdateSince s.device write (update_of s.core.status)
  pub recorded : HoldsRecords view.committed.stamp s.core.descriptor s.core.origin.table s.core.status s.core.homes (image_of s.device.sizes media)
  pub notes : AreNotes s.core
  pub copy_aimed : IsCopyAimed s.core view
  pub carry : CarryTheirs s.core view s.device.flights s.core.flying

-- So it is, while the session is on, after each earlier history with which the run may have begun.
abbrev pub IsGood : ℕ → Moment → State → Type 0
IsGood run first s = s.core.power ≡ power.On → (past : List Fact) → RunBegins run past first → IsTied past s

-- an event that leaves a tied session sound leaves it tied
abbrev pub Ties : (State → State → Type 0) → Type 0
Ties Event = (past : List Fact) (old new : State) → IsTied past old → IsSound new → Event old new → IsTied past new

-- ---- what follows

-- Each transfer that is out has its owner in the state.
abbrev pub TiedOwns : Type 0
TiedOwns = (past : List Fact) (s : State) (tied : IsTied past s) → AllOwned tied.view s.core.descriptor.mib tied.write s.device.flights

-- The history is legal, and each crash image is kept with it.
abbrev pub GoodUpholds : Type 0
GoodUpholds = (run : ℕ) (first : Moment) (s : State) → s.core.power ≡ power.On → IsGood run first s → Upholds run first (moment_of s)

-- So a span goes on over what changes neither shelf nor history, over a step of the shelf, and over an entry, where the session is good after it.
pub record GoodGoesOn : Type 0 where
  pub still : (run : ℕ) (first : Moment) (old new : State) → new.device ≡ old.device → new.core.history.facts ≡ old.core.history.facts → SpanGoesOn run first (moment_of old) (moment_of new)
  pub steps : (run : ℕ) (first : Moment) (old new : State) → new.core.power ≡ power.On → IsGood run first new → DeviceStep old.device new.device → new.core.history.facts ≡ old.core.history.facts → SpanGoesOn run first (moment_of old) (moment_of new)
  pub enters : (run : ℕ) (first : Moment) (old new : State) (f : Fact) → new.core.power ≡ power.On → IsGood run first new → new.device ≡ old.device → new.core.history.facts ≡ old.core.history.facts ++ f ∷ [] → SpanGoesOn run first (moment_of old) (moment_of new)
