-- What holds on after transfers have ended, and of stamps on crash images.
use Rattle.std.specs.Prelude.{◌≡◌, ◌≤◌, ℕ, [], List}
use Rattle.lvm_disk.specs.Device.{Device}
use Rattle.lvm_disk.specs.Images.{LeavesNoMore}
use Rattle.lvm_vol.specs.Facts.{Fact}
use Rattle.lvm_kept.specs.Moments.{Moment}
use Rattle.lvm_steps.specs.Moments.{StaysKept, Keeps}
use Rattle.lvm_steps.specs.Requests.{at}
use Rattle.lvm_steps.specs.Behind.{StampsAreEarlier, ClockIsAhead}
use Rattle.lvm_core.specs.passed.Commit.{IsOneFoundOn}
use Rattle.lvm_quiesce.specs.Behind.{IsBehindEach, ClockIsAheadEach}
use Rattle.lvm_quiesce.specs.Ends.{Quiesces, QuiesceGives, StartsNothing}
use Rattle.lvm_quiesce.specs.declared.ends.Quiesced.{Quiesced}
use Rattle.lvm_quiesce.specs.declared.ends.Quiesced.TheVariants as quiesced

-- this holds of the shelf before transfers are ended and after it, however they ended
abbrev pub OverEnds : (Device → Device → Type 0) → Type 0
OverEnds P = (patience : ℕ) (old new : Device) (how : Quiesced) → QuiesceGives patience old new how → P old new

-- No crash image is added,
abbrev pub EndsLeaveNoMore : Type 0
EndsLeaveNoMore = OverEnds LeavesNoMore

-- whatever each was kept with it stays kept with,
abbrev pub EndsStayKept : Type 0
EndsStayKept = OverEnds StaysKept

-- a span goes on with it, as one of nothing does,
abbrev pub EndsGoOn : Type 0
EndsGoOn = OverEnds (λ old new. (run : ℕ) (first : Moment) (facts : List Fact) → Keeps run first (at old facts) → Keeps run first (at new facts))

-- the stamps on each stay before a moment,
abbrev pub EndsStayBehind : Type 0
EndsStayBehind = OverEnds (λ old new. (moment : ℕ) → IsBehindEach moment old → IsBehindEach moment new)

-- and what any disks find stays of one group.
abbrev pub EndsStayOne : Type 0
EndsStayOne = OverEnds (λ old new. IsOneFoundOn old → IsOneFoundOn new)

-- Nothing is started,
abbrev pub EndsStartNothing : Type 0
EndsStartNothing = OverEnds StartsNothing

-- and where nothing was out all have ended, and nothing has changed.
abbrev pub StillIsAtRest : Type 0
StillIsAtRest = (patience : ℕ) (old new : Device) (how : Quiesced) → old.flights ≡ [] → QuiesceGives patience old new how → (how ≡ quiesced.Ended) × (new ≡ old)

-- ---- stamps

-- Where nothing is out, what stands on the media stands on each crash image,
abbrev pub StillIsBehindEach : Type 0
StillIsBehindEach = (moment : ℕ) (device : Device) → device.flights ≡ [] → StampsAreEarlier moment device → IsBehindEach moment device

-- and always the other way round.
abbrev pub EachIsBehind : Type 0
EachIsBehind = (moment : ℕ) (device : Device) → IsBehindEach moment device → StampsAreEarlier moment device

-- What is from before a moment is from before a later one.
abbrev pub LaterIsBehindEach : Type 0
LaterIsBehindEach = (moment later : ℕ) (device : Device) → moment ≤ later → IsBehindEach moment device → IsBehindEach later device

-- So a clock that is ahead of disks at rest is ahead of each crash image,
abbrev pub StillIsAheadEach : Type 0
StillIsAheadEach = (run moment : ℕ) (device : Device) (facts : List Fact) → device.flights ≡ [] → ClockIsAhead run moment device facts → ClockIsAheadEach run moment device facts

-- and one that is ahead of each is so of what stands on the disks once all transfers have ended.
abbrev pub QuietIsAhead : Type 0
QuietIsAhead = (run moment : ℕ) (old new : Device) (facts : List Fact) → Quiesces old new → ClockIsAheadEach run moment old facts → ClockIsAhead run moment new facts
