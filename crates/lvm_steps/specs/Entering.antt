-- Entries as parts of spans, so that whoever makes them looks at no image but for what it shows.
use Rattle.std.specs.Prelude.{◌≡◌, ◌++◌, ◌∷◌, ℕ, Bool, List, [], IsFalse}
use Rattle.lvm_num.specs.declared.record.Kind.TheVariants as kind
use Rattle.lvm_num.specs.declared.descriptor.Mode.{Mode}
use Rattle.lvm_num.specs.declared.descriptor.Descriptor.{Descriptor}
use Rattle.lvm_num.specs.Buffer.{Sector}
use Rattle.lvm_num.specs.DescriptorBytes.{descriptor_of}
use Rattle.lvm_vol.specs.declared.entry.Vol.TheVariants.{Lv}
use Rattle.lvm_vol.specs.declared.entry.Outcome.{Outcome}
use Rattle.lvm_vol.specs.Facts.{Request, Fact, Making, Made, Removing, Removed, Begun}
use Rattle.lvm_vol.specs.Legal.{Fits}
use Rattle.lvm_vol.specs.Standing.{Open, volumes_in}
use Rattle.lvm_kept.specs.passed.Disk.{Image, Device, image_of, MayLeave}
use Rattle.lvm_kept.specs.Contents.{contents_of}
use Rattle.lvm_kept.specs.Changes.{IsFoundByAll, IsFoundByNone}
use Rattle.lvm_kept.specs.Moments.{Moment, StaysCalm}
use Rattle.lvm_kept.specs.Torn.{RecordWrite, MayWriteAll, written as as_read, Alone}
use Rattle.lvm_steps.specs.Entries.{LeavesEachBlock}
use Rattle.lvm_steps.specs.Moments.{RunBegins, HistoryHolds, Keeps}
use Rattle.lvm_steps.specs.Requests.{at, answered, darkened}
use Rattle.lvm_steps.specs.Making.{IsWritten}
use Rattle.lvm_steps.specs.Committing.{MayCommit}

-- A quiet entry that may follow goes on with a span.
abbrev pub QuietGoesOn : Type 0
QuietGoesOn = (run : ℕ) (first : Moment) (device : Device) (facts : List Fact) (f : Fact) → Keeps run first (at device facts) → LeavesEachBlock f
    → ((past : List Fact) → RunBegins run past first → HistoryHolds past (at device facts) → Fits (past ++ facts) f) → Keeps run first (at device (facts ++ f ∷ []))

-- the entry opens no write: only the beginning of one does
abbrev pub OpensNone : Fact → Type 0
OpensNone (Begun r) = IsFalse r.write
OpensNone _ = Unit {0}

-- After such an entry no write is open where none was.
abbrev pub CalmGoesOn : Type 0
CalmGoesOn = (first : Moment) (device : Device) (facts : List Fact) (f : Fact) → StaysCalm first (at device facts) → OpensNone f → StaysCalm first (at device (facts ++ f ∷ []))

-- Nor is one after all the entries of a request that was answered,
abbrev pub AnsweredStaysCalm : Type 0
AnsweredStaysCalm = (first : Moment) (device : Device) (facts : List Fact) (r : Request) (how : Outcome) (got : List Sector) → StaysCalm first (at device facts) → StaysCalm first (at device (answered facts r how got))

-- or was cut off.
abbrev pub DarkenedStaysCalm : Type 0
DarkenedStaysCalm = (first : Moment) (device : Device) (facts : List Fact) (r : Request) (started : Bool) → StaysCalm first (at device (darkened facts r started))

-- ---- volumes

-- A volume that no quorum of any crash image finds may be in the making,
abbrev pub BeginsInSpan : Type 0
BeginsInSpan = (run : ℕ) (first : Moment) (device : Device) (facts : List Fact) (lv blocks : ℕ) (mode : Mode) → Keeps run first (at device facts)
    → ((image : Image) → MayLeave device image → IsFoundByNone (contents_of image) lv) → Keeps run first (at device (facts ++ Making lv blocks mode ∷ []))

-- is made once each quorum finds it,
abbrev pub MadeInSpan : Type 0
MadeInSpan = (run : ℕ) (first : Moment) (device : Device) (facts : List Fact) (lv : ℕ) → Keeps run first (at device facts)
    → ((past : List Fact) → (volumes_in (past ++ facts) lv).standing ≡ Open) → ((image : Image) → MayLeave device image → IsFoundByAll (contents_of image) lv)
    → Keeps run first (at device (facts ++ Made lv ∷ []))

-- may be removed at any time,
abbrev pub GoesInSpan : Type 0
GoesInSpan = (run : ℕ) (first : Moment) (device : Device) (facts : List Fact) (lv : ℕ) → Keeps run first (at device facts) → Keeps run first (at device (facts ++ Removing (Lv lv) ∷ []))

-- and is gone once none finds it.
abbrev pub GoneInSpan : Type 0
GoneInSpan = (run : ℕ) (first : Moment) (device : Device) (facts : List Fact) (lv : ℕ) → Keeps run first (at device facts)
    → ((image : Image) → MayLeave device image → IsFoundByNone (contents_of image) lv) → Keeps run first (at device (facts ++ Removed (Lv lv) ∷ []))

-- Meanwhile the descriptor is committed.
abbrev pub CommitsInSpan : Type 0
CommitsInSpan = (run : ℕ) (first : Moment) (group : Descriptor) (lv : ℕ) (w : RecordWrite) (next : Descriptor) (old new : Device) (facts : List Fact) (written : IsWritten (Alone w) old new)
    → Keeps run first (at old facts) → w.kind ≡ kind.Descriptor → MayWriteAll Descriptor descriptor_of w next (image_of old.sizes written.media)
    → ((past : List Fact) → RunBegins run past first → HistoryHolds past (at old facts) → MayCommit (contents_of (image_of old.sizes written.media)) (past ++ facts) group lv w.targets (as_read w next))
    → Keeps run first (at new facts)
