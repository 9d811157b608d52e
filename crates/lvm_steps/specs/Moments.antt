-- Moments of a run at which each crash image is kept with the history, disks of groups and disks in no group alike.
use Rattle.std.specs.Prelude.{◌≡◌, ◌≤◌, ℕ, ◌++◌, List, [], ◌∷◌, map, Some, IsSome, count_by}
use Rattle.lvm_kept.specs.passed.Disk.{Media, Image, Device, image_of, MayLeave, LeavesNoMore, DeviceStep, Path}
use Rattle.lvm_vol.specs.declared.entry.Vol.TheVariants.{Disk}
use Rattle.lvm_vol.specs.Facts.{Fact, Removed, On, joined}
use Rattle.lvm_vol.specs.Legal.{Legal, Fits, IsLater, begins_in}
use Rattle.lvm_kept.specs.Contents.{contents_of}
use Rattle.lvm_kept.specs.Kept.{Kept}
use Rattle.lvm_kept.specs.Changes.{IsBlank}
use Rattle.lvm_kept.specs.Moments.{Moment, Step, Calm, StaysCalm}

-- what each crash image of the shelf shows keeps the history
abbrev pub ImagesKept : Device → List Fact → Type 0
ImagesKept device facts = (image : Image) → MayLeave device image → Kept (contents_of image) facts

-- What the earlier history and the shelf are to each other before a run, or a span of it, of this number: the shelf tells its media, the joined
-- history is legal, the earlier one names no request of this run and no moment from it on, no write is open, and each crash image is kept.
pub record RunBegins (run : ℕ) (past : List Fact) (m : Moment) : Type 0 where
  pub told : IsSome m.device.media
  pub legal : Legal (past ++ m.facts)
  pub own : count_by (begins_in run) past ≡ 0
  pub moments : IsLater past run
  pub calm : Calm (past ++ m.facts)
  pub kept : ImagesKept m.device (past ++ m.facts)

-- the joined history is legal, and each crash image is kept with it
pub record HistoryHolds (past : List Fact) (m : Moment) : Type 0 where
  pub legal : Legal (past ++ m.facts)
  pub kept : ImagesKept m.device (past ++ m.facts)

-- Whatever was told before: where it fits the first moment, this one is as it should be.
abbrev pub Upholds : ℕ → Moment → Moment → Type 0
Upholds run first m = (past : List Fact) → RunBegins run past first → HistoryHolds past m

-- from the one moment to the other step by step, and each moment between is as it should be
abbrev pub Keeps : ℕ → Moment → Moment → Type 0
Keeps run first last = Path Step (Upholds run first) first last

-- A span that leads to the one moment goes on to the other.
abbrev pub SpanGoesOn : ℕ → Moment → Moment → Moment → Type 0
SpanGoesOn run first old new = Keeps run first old → Keeps run first new

-- whatever the crash images of the first shelf are kept with, those of the second are
abbrev pub StaysKept : Device → Device → Type 0
StaysKept old new = (facts : List Fact) → ImagesKept old facts → ImagesKept new facts

-- What is asked of an earlier history and of the shelf at a run's entry: the shelf tells its media, the history is legal,
-- names no request of this run and no moment from it on, and each crash image is kept with it.
pub record IsEarlier (run : ℕ) (device : Device) (past : List Fact) : Type 0 where
  pub told : IsSome device.media
  pub legal : Legal past
  pub own : count_by (begins_in run) past ≡ 0
  pub moments : IsLater past run
  pub kept : ImagesKept device past

-- A run from this entry to this exit: whatever was told before, the joined history is legal, and each crash image at the exit is kept with it. The exit tells
-- its media where the entry did.
pub record IsUpheld (run : ℕ) (entry exit : Device) (facts : List Fact) : Type 0 where
  pub told : IsSome entry.media → IsSome exit.media
  pub legal : (past : List Fact) → IsEarlier run entry past → Legal (joined past facts)
  pub kept : (past : List Fact) → IsEarlier run entry past → ImagesKept exit (joined past facts)

-- ---- laws

-- Steps of the shelf that keep what was kept go on with a span,
abbrev pub StepsGoOn : Type 0
StepsGoOn = (run : ℕ) (first : Moment) (old new : Device) (facts : List Fact) → Keeps run first (record { device = old; facts = facts }) → Path DeviceStep (StaysKept old) old new → Keeps run first (record { device = new; facts = facts })

-- as all do that add no crash image;
abbrev pub FewerStayKept : Type 0
FewerStayKept = (old new : Device) → LeavesNoMore old new → StaysKept old new

-- an entry goes on with it that may follow, and with which each crash image stays kept;
abbrev pub EntryGoesOn : Type 0
EntryGoesOn =
    (run : ℕ) (first : Moment) (device : Device) (facts : List Fact) (f : Fact) → Keeps run first (record { device = device; facts = facts })
    → ((past : List Fact) → RunBegins run past first → HistoryHolds past (record { device = device; facts = facts }) → Fits (past ++ facts) f)
    → ((past : List Fact) → RunBegins run past first → HistoryHolds past (record { device = device; facts = facts }) → (image : Image) → MayLeave device image → Kept (contents_of image) ((past ++ facts) ++ f ∷ []))
    → Keeps run first (record { device = device; facts = facts ++ f ∷ [] })

-- a group is on from a moment that is later than all before, in this run and earlier;
abbrev pub GroupGoesOn : Type 0
GroupGoesOn = (run : ℕ) (first : Moment) (device : Device) (facts : List Fact) (moment : ℕ) → Keeps run first (record { device = device; facts = facts }) → run ≤ moment → IsLater facts moment
    → Keeps run first (record { device = device; facts = facts ++ On moment ∷ [] })

-- the contents of disks are given up, as of those of which a group is made;
abbrev pub DisksGoOut : Type 0
DisksGoOut = (run : ℕ) (first : Moment) (device : Device) (facts : List Fact) (disks : List ℕ) → Keeps run first (record { device = device; facts = facts })
    → Keeps run first (record { device = device; facts = facts ++ map (λ d. Removed (Disk d)) disks })

-- one span may follow another after which no write is open where none was;
abbrev pub SpansJoin : Type 0
SpansJoin = (run : ℕ) (first mid last : Moment) → Keeps run first mid → StaysCalm first mid → Keeps run mid last → Keeps run first last

-- and a span from a run's entry upholds what was told before.
abbrev pub SpanUpholds : Type 0
SpanUpholds = (run : ℕ) (entry exit : Device) (facts : List Fact) → Keeps run (record { device = entry; facts = [] }) (record { device = exit; facts = facts }) → IsUpheld run entry exit facts

-- What a run leaves may stand before the next run, where that has a name of its own, later than all moments at which a group was varied on,
abbrev pub RunsFollow : Type 0
RunsFollow = (run next : ℕ) (entry exit : Device) (past facts : List Fact) → IsEarlier run entry past → IsUpheld run entry exit facts → count_by (begins_in next) (joined past facts) ≡ 0 → IsLater (joined past facts) next
    → IsEarlier next exit (joined past facts)

-- and before any run on still disks of zeros the empty history may stand.
abbrev pub BlankIsEarlier : Type 0
BlankIsEarlier = (run : ℕ) (device : Device) (media : Media) → device.media ≡ Some media → device.flights ≡ [] → IsBlank (image_of device.sizes media) → IsEarlier run device []
