-- How the stamps that stand on disks stay before one, and what follows of records where they do.
use Rattle.std.specs.Prelude.{◌≡◌, ◌⊎◌, ℕ, ◌+◌, ◌-◌, ◌^◌, ◌<◌, ◌≤◌, ◌++◌, [], ◌∷◌, List, map, true, false, Some, None, IfSome}
use Rattle.lvm_num.specs.declared.record.Stamp.{Stamp}
use Rattle.lvm_num.specs.declared.record.Kind.{Kind}
use Rattle.lvm_num.specs.declared.descriptor.Descriptor.{Descriptor}
use Rattle.lvm_num.specs.declared.status.Status.{Status}
use Rattle.lvm_num.specs.Buffer.{Sector}
use Rattle.lvm_num.specs.Geometry.{data_start}
use Rattle.lvm_num.specs.Record.{Frames, Stamped, stamp_lt}
use Rattle.lvm_kept.specs.passed.Rec.{BothBefore}
use Rattle.lvm_kept.specs.passed.Disk.{Media, Image, Flight, Device, SameDisks, image_of, written, IsInFlight, MayLeave, HasSectors, IsWholeImage, LeavesNoMore, BothTold}
use Rattle.lvm_kept.specs.passed.Vol.{Fact, On, Removed, joined, IsLater}
use Rattle.lvm_kept.specs.passed.VolEntryVol.{Disk}
use Rattle.lvm_kept.specs.Contents.{Contents, contents_of, has_records, note_sector}
use Rattle.lvm_kept.specs.Plans.{Plan, ChangesBy, IsUnderWay}
use Rattle.lvm_kept.specs.Raw.{OnlyAdds}
use Rattle.lvm_kept.specs.Torn.{RecordWrite, on_disk, IsOfRecord, IsOutsideSlots}
use Rattle.lvm_kept.specs.Changes.{IsBlank}
use Rattle.lvm_steps.specs.Behind.{StampsBefore, beginning_at, StampsAreEarlier, IsAhead, ClockIsAhead}

-- all stamps on the media, where that is told, are before this one
abbrev pub StandsBefore : Stamp → Device → Type 0
StandsBefore stamp device = IfSome device.media (λ media. StampsBefore stamp (image_of device.sizes media))

-- so are all of each crash image
abbrev pub LeavesBefore : Stamp → Device → Type 0
LeavesBefore stamp device = (image : Image) → MayLeave device image → StampsBefore stamp image

-- ---- later stamps and moments

-- the other stamp isn't before this one: it is later, or the same
abbrev pub IsNoLater : Stamp → Stamp → Type 0
IsNoLater stamp other = stamp_lt other stamp ≡ false

-- What stands before a stamp stands before a later one,
abbrev pub LaterIsAfterToo : Type 0
LaterIsAfterToo = (stamp later : Stamp) (image : Image) → IsNoLater stamp later → StampsBefore stamp image → StampsBefore later image

-- and what is from before a moment is from before a later one.
abbrev pub LaterIsAheadToo : Type 0
LaterIsAheadToo = (moment later : ℕ) (device : Device) → moment ≤ later → StampsAreEarlier moment device → StampsAreEarlier later device

-- No stamp of a session that begins at a moment, or after it, is before those of that moment,
abbrev pub SessionIsFromMoment : Type 0
SessionIsFromMoment = (moment : ℕ) (stamp : Stamp) → moment ≤ stamp.epoch → IsNoLater (beginning_at moment) stamp

-- and each of an earlier session is.
abbrev pub SessionIsBeforeLater : Type 0
SessionIsBeforeLater = (moment : ℕ) (stamp : Stamp) → stamp.epoch < moment → stamp_lt stamp (beginning_at moment) ≡ true

-- So what stands on disks from before a session is before each of its stamps,
abbrev pub BehindIsBefore : Type 0
BehindIsBefore = (stamp : Stamp) (device : Device) → StampsAreEarlier stamp.epoch device → StandsBefore stamp device

-- and what is before one of them is from before each later moment.
abbrev pub BeforeIsBehind : Type 0
BeforeIsBehind = (stamp : Stamp) (moment : ℕ) (device : Device) → stamp.epoch < moment → StandsBefore stamp device → StampsAreEarlier moment device

-- ---- writes

-- as many disks, each as large, and on those with records the sectors below the data are the same
pub record IsSameBelowData (old new : Image) : Type 0 where
  pub same : SameDisks old new
  pub sectors : (d s : ℕ) → has_records old d ≡ true → s < data_start → new.sector d s ≡ old.sector d s

-- A write of data changes no stamp.
abbrev pub DataKeepsBefore : Type 0
DataKeepsBefore = (stamp : Stamp) (old new : Image) → IsSameBelowData old new → StampsBefore stamp old → StampsBefore stamp new

-- the value is that of a sector of a record under a stamp before this one
pub record IsOfEarlier (stamp : Stamp) (d s : ℕ) (value : Sector) : Type 0 where
  pub write : RecordWrite
  pub frames : Frames write.kind write.framed
  pub earlier : stamp_lt write.framed.stamp stamp ≡ true
  pub its : IsOfRecord write d s value

-- The sector is outside the slots of both kinds, as one of a note or of data, whatever its value; or it is one of a record under a stamp before this one.
abbrev pub IsOtherOrEarlier : Stamp → Plan
IsOtherOrEarlier stamp d s value = ((kind : Kind) → IsOutsideSlots kind d s value) ⊎ IsOfEarlier stamp d s value

-- A note and data are outside the slots.
abbrev pub NotesAndDataAreOutside : Type 0
NotesAndDataAreOutside = (kind : Kind) (d s : ℕ) (value : Sector) → (s ≡ note_sector) ⊎ (data_start ≤ s) → IsOutsideSlots kind d s value

-- Writes of these alone leave all stamps before this one, whatever of them has landed,
abbrev pub EarlierKeepBefore : Type 0
EarlierKeepBefore = (stamp : Stamp) (old new : Image) → ChangesBy (IsOtherOrEarlier stamp) old new → StampsBefore stamp old → StampsBefore stamp new

-- so does a write of one such record alone,
abbrev pub RecordKeepsBefore : Type 0
RecordKeepsBefore = (w : RecordWrite) (stamp : Stamp) (old new : Image) → Frames w.kind w.framed → stamp_lt w.framed.stamp stamp ≡ true → ChangesBy (IsOfRecord w) old new → StampsBefore stamp old → StampsBefore stamp new

-- and after a write of a record under a stamp after all, all are before the next one.
abbrev pub RecordIsBeforeNext : Type 0
RecordIsBeforeNext = (w : RecordWrite) (next : Stamp) (old new : Image) → Frames w.kind w.framed → stamp_lt w.framed.stamp next ≡ true → ChangesBy (IsOfRecord w) old new → StampsBefore w.framed.stamp old → StampsBefore next new

-- ---- crash images

-- All stamps of what a crash may leave are before one, where those on the media are, and what is in flight is of these alone,
abbrev pub CrashKeepsBefore : Type 0
CrashKeepsBefore = (stamp : Stamp) (device : Device) → ((d s : ℕ) (value : Sector) → IsInFlight device.flights d s value → IsOtherOrEarlier stamp d s value) → StandsBefore stamp device → LeavesBefore stamp device

-- as where nothing is in flight,
abbrev pub StillKeepsBefore : Type 0
StillKeepsBefore = (stamp : Stamp) (device : Device) → device.flights ≡ [] → StandsBefore stamp device → LeavesBefore stamp device

-- and while these alone are under way.
abbrev pub UnderWayKeepsBefore : Type 0
UnderWayKeepsBefore = (stamp : Stamp) (old : Image) (device : Device) → IsUnderWay (IsOtherOrEarlier stamp) old device → StampsBefore stamp old → LeavesBefore stamp device

-- The media is one of the crash images.
abbrev pub LeftIsBefore : Type 0
LeftIsBefore = (stamp : Stamp) (device : Device) → LeavesBefore stamp device → StandsBefore stamp device

-- ---- disks of a shelf

-- whatever stamp all that stood on the media were before, all that now stand there are
abbrev pub StaysBefore : Device → Device → Type 0
StaysBefore old new = (stamp : Stamp) → StandsBefore stamp old → StandsBefore stamp new

-- So it is where nothing is written,
abbrev pub UnwrittenStaysBefore : Type 0
UnwrittenStaysBefore = (old new : Device) → new.sizes ≡ old.sizes → new.media ≡ old.media → StaysBefore old new

-- as on a still shelf by whatever adds no crash image, a power cut too;
abbrev pub NoMoreStaysBefore : Type 0
NoMoreStaysBefore = (old new : Device) → old.flights ≡ [] → LeavesNoMore old new → StaysBefore old new

-- where data alone is written,
abbrev pub DataStaysBefore : Type 0
DataStaysBefore = (old new : Device) → new.sizes ≡ old.sizes → BothTold old.media new.media (λ was is. (d s : ℕ) → s < data_start → is d s ≡ was d s) → StaysBefore old new

-- as by one transfer that begins on a still shelf, however it ends and if it doesn't.
abbrev pub TransferStaysBefore : Type 0
TransferStaysBefore = (f : Flight) (old new : Device) → old.flights ≡ [] → ((d s : ℕ) → s < data_start → written f d s ≡ None) → OnlyAdds f old new → StaysBefore old new

-- And where notes, data, and records under stamps before this one are written, all stay before it.
abbrev pub EarlierStandsBefore : Type 0
EarlierStandsBefore =
    (stamp : Stamp) (old new : Device) → BothTold old.media new.media (λ was is. ChangesBy (IsOtherOrEarlier stamp) (image_of old.sizes was) (image_of new.sizes is)) → StandsBefore stamp old → StandsBefore stamp new

-- So what is from before a moment stays so: by all that writes no records,
abbrev pub UntouchedStaysBehind : Type 0
UntouchedStaysBehind = (moment : ℕ) (old new : Device) → StaysBefore old new → StampsAreEarlier moment old → StampsAreEarlier moment new

-- and by records of sessions before it.
abbrev pub EarlierStaysBehind : Type 0
EarlierStaysBehind =
    (moment : ℕ) (old new : Device) → BothTold old.media new.media (λ was is. ChangesBy (IsOtherOrEarlier (beginning_at moment)) (image_of old.sizes was) (image_of new.sizes is)) → StampsAreEarlier moment old → StampsAreEarlier moment new

-- ---- the first and the last

-- On disks of zeros each stamp is after all that stand there,
abbrev pub BlankIsBefore : Type 0
BlankIsBefore = (stamp : Stamp) (image : Image) → IsBlank image → StampsBefore stamp image

-- and all is from before each moment.
abbrev pub BlankIsBehind : Type 0
BlankIsBehind = (moment : ℕ) (device : Device) → IfSome device.media (λ media. IsBlank (image_of device.sizes media)) → StampsAreEarlier moment device

-- Whatever stands on disks is from before the end of all moments: an epoch has 64 bits.
abbrev pub AllIsBehindEnd : Type 0
AllIsBehindEnd = (device : Device) → HasSectors device → StampsAreEarlier (2 ^ 64) device

-- ---- records

-- the newest records of each disk have stamps before this one
pub record ShowsBefore (stamp : Stamp) (c : Contents) : Type 0 where
  pub descriptors : (d : ℕ) (r : Stamped Descriptor) → c.descriptor d ≡ Some r → stamp_lt r.stamp stamp ≡ true
  pub statuses : (d : ℕ) (r : Stamped Status) → c.status d ≡ Some r → stamp_lt r.stamp stamp ≡ true

-- What the disks show is before a stamp where all that stand there are.
abbrev pub ShownIsBefore : Type 0
ShownIsBefore = (stamp : Stamp) (image : Image) → IsWholeImage image → StampsBefore stamp image → ShowsBefore stamp (contents_of image)

-- A record under a stamp from there on may go to each disk with records, as far as stamps go,
abbrev pub LaterMayGo : Type 0
LaterMayGo =
    (w : RecordWrite) (stamp : Stamp) (image : Image) (d : ℕ) → IsWholeImage image → StampsBefore stamp image → IsNoLater stamp w.framed.stamp → has_records image d ≡ true
    → BothBefore (on_disk w d) (image.sector d)

-- as one of a session that begins at a moment where all is from before it.
abbrev pub SessionMayGo : Type 0
SessionMayGo =
    (w : RecordWrite) (moment : ℕ) (device : Device) (media : Media) (d : ℕ) → device.media ≡ Some media → HasSectors device → StampsAreEarlier moment device → moment ≤ w.framed.stamp.epoch
    → has_records (image_of device.sizes media) d ≡ true → BothBefore (on_disk w d) (media d)

-- ---- the clock

-- A moment that is later than another one, or both are the last that there is.
abbrev pub HasRisen : ℕ → ℕ → Type 0
HasRisen last moment = (last < moment) ⊎ ((last ≡ 2 ^ 64 - 1) × (moment ≡ 2 ^ 64 - 1))

-- What is ahead of the disks and the history stays so when it rises,
abbrev pub LaterStaysAhead : Type 0
LaterStaysAhead = (run moment later : ℕ) (device : Device) (facts : List Fact) → moment ≤ later → IsAhead run moment device facts → IsAhead run later device facts

-- so that a clock that has risen since all of that was written answers a later moment,
abbrev pub RisenIsAhead : Type 0
RisenIsAhead = (run last moment : ℕ) (device : Device) (facts : List Fact) → IsAhead run (last + 1) device facts → HasRisen last moment → ClockIsAhead run moment device facts

-- and from the next one on all of that is behind, whichever moment it is.
abbrev pub AllIsBehindNext : Type 0
AllIsBehindNext = (run moment : ℕ) (device : Device) (facts : List Fact) → HasSectors device → moment < 2 ^ 64 → ClockIsAhead run moment device facts → StampsAreEarlier (moment + 1) device

-- ---- the moments of a history

-- What is later than the moments of all entries stays so when it rises,
abbrev pub LaterIsLaterToo : Type 0
LaterIsLaterToo = (moment later : ℕ) (facts : List Fact) → moment ≤ later → IsLater facts moment → IsLater facts later

-- and when entries follow that it is later than too,
abbrev pub LaterJoins : Type 0
LaterJoins = (moment : ℕ) (facts more : List Fact) → IsLater facts moment → IsLater more moment → IsLater (facts ++ more) moment

-- as of a group that is varied on at an earlier moment,
abbrev pub OnIsEarlier : Type 0
OnIsEarlier = (moment later : ℕ) (facts : List Fact) → IsLater facts moment → moment < later → IsLater (facts ++ On moment ∷ []) later

-- of disks whose contents are given up,
abbrev pub RemovedStaysLater : Type 0
RemovedStaysLater = (moment : ℕ) (facts : List Fact) (disks : List ℕ) → IsLater facts moment → IsLater (facts ++ map (λ d. Removed (Disk d)) disks) moment

-- and of the next run.
abbrev pub JoinedIsLater : Type 0
JoinedIsLater = (run moment : ℕ) (past facts : List Fact) → run ≤ moment → IsLater past run → IsLater facts moment → IsLater (joined past facts) moment
