-- One run after another.
use Rattle.std.specs.Prelude.{◌≡◌, ◌<◌, ℕ, [], List, Some, codes, count_by}
use Rattle.lvm_disk.specs.Device.{Device}
use Rattle.lvm_steps.specs.Moments.{ImagesKept, IsEarlier}
use Rattle.lvm_vol.specs.Facts.{Fact, joined}
use Rattle.lvm_vol.specs.Legal.{Legal, begins_in}
use Rattle.lvm_steps.specs.Behind.{StampsAreEarlier}
use Rattle.lvm_top.specs.declared.status.ExitStatus.TheVariants as ended
use Rattle.lvm_top.specs.Run.{Run, Promises, RanAlone}
use Rattle.lvm_top.specs.Clock.{Clocked}
use Rattle.lvm_top.specs.Script.{facts_of}
use Rattle.lvm_top.specs.Blank.{IsToldBlank}
use Rattle.lvm_top.specs.Left.{IsLeftOf}
use Rattle.lvm_parse.specs.Forced.{HasNowhere}
use Rattle.lvm_top.specs.Plain.{FindsOneGroup, HoldsOneGroup}

-- With whatever a loss of power leaves of what a run has left, the next one may begin at a moment that is later than the first one's last, unless nothing was heard
-- of a transfer, where what was told before the first names no request of the next.
abbrev pub NextMayBegin : Type 0
NextMayBegin = (asked : Clocked) (next : ℕ) (r : Run) (later : Device) (past : List Fact) (did : Promises asked r)
    → IsEarlier r.named r.entry past → StampsAreEarlier r.named r.entry → (r.status ≡ ended.Stuck → ⊥) → count_by (begins_in next) past ≡ 0 → r.last < next → RanAlone did.does → IsLeftOf r.exit later
    → IsEarlier next later (joined past (facts_of r.history)) × StampsAreEarlier next later

-- So of two runs, the first over disks of zeros and the second over such a remainder, both histories together are legal, and each crash image that the disks may
-- leave at the end is kept with them.
abbrev pub TwoRunsUphold : Type 0
TwoRunsUphold = (asked again : Clocked) (first second : Run) (did : Promises asked first) (does : Promises again second)
    → IsToldBlank first.entry → (first.status ≡ ended.Stuck → ⊥) → IsLeftOf first.exit second.entry → first.last < second.named → RanAlone did.does → RanAlone does.does
    → Legal (joined (joined [] (facts_of first.history)) (facts_of second.history))
    × ImagesKept second.exit (joined (joined [] (facts_of first.history)) (facts_of second.history))

-- What a loss of power leaves has no group more than might be found before it.
abbrev pub LeftFindsNoMore : Type 0
LeftFindsNoMore = (old new : Device) → IsLeftOf old new → FindsOneGroup old → FindsOneGroup new

-- So the premise of the plain promise comes back: what a run leaves whose script has nowhere `-f`, over disks that hold one group at most, holds one group at most
-- for the next one, unless nothing was heard of a transfer.
abbrev pub PlainRunsFollow : Type 0
PlainRunsFollow = (asked : Clocked) (next : ℕ) (r : Run) (later : Device) (past : List Fact) (bytes : List ℕ) → Promises asked r
    → r.input.before.content ≡ Some bytes → HasNowhere (codes "-f") bytes → HoldsOneGroup r.named r.entry → IsEarlier r.named r.entry past
    → (r.status ≡ ended.Stuck → ⊥) → count_by (begins_in next) past ≡ 0 → r.last < next → IsLeftOf r.exit later
    → HoldsOneGroup next later × IsEarlier next later (joined past (facts_of r.history))
