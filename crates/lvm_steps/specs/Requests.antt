-- Requests on a disk that is in no group, where other disks may be in one.
use Rattle.std.specs.Prelude.{◌≡◌, ◌<◌, ◌≤◌, ◌+◌, ◌++◌, ◌∷◌, ℕ, Bool, true, false, List, [], Some, None, IfSome, count_by, length, take}
use Rattle.lvm_num.specs.Buffer.{Buffer, Sector}
use Rattle.lvm_num.specs.Geometry.{data_start}
use Rattle.lvm_kept.specs.passed.Disk.{Media, Image, Flight, Device, image_of, written, MayLeave, LeavesNoMore, BothTold, Puts, PutsSome, ReadsRange, IsRange, DeviceStep, Path}
use Rattle.lvm_vol.specs.declared.entry.Outcome.{Outcome}
use Rattle.lvm_vol.specs.declared.entry.Outcome.TheVariants as outcome
use Rattle.lvm_vol.specs.Facts.{Request, Fact, Begun, Landed, Taken, Cut}
use Rattle.lvm_vol.specs.Legal.{begins_in}
use Rattle.lvm_kept.specs.Contents.{descriptor_on}
use Rattle.lvm_kept.specs.Changes.{IsBlank}
use Rattle.lvm_kept.specs.Moments.{Moment}
use Rattle.lvm_kept.specs.Raw.{raw_request, CarriesRequest, OnlyAdds, HasNothingOut, next_write}
use Rattle.lvm_steps.specs.Moments.{Keeps}

-- ---- disks in no group

-- on no crash image does the disk show a descriptor
abbrev pub IsInNoGroup : Device → ℕ → Type 0
IsInNoGroup device d = (image : Image) → MayLeave device image → descriptor_on image d ≡ None

-- where nothing is in flight, that is so as soon as it shows none as it stands, which is what a survey reads;
abbrev pub StillShowsNone : Type 0
StillShowsNone = (device : Device) (media : Media) (d : ℕ) → device.media ≡ Some media → device.flights ≡ [] → descriptor_on (image_of device.sizes media) d ≡ None → IsInNoGroup device d

-- as none does of zeros.
abbrev pub BlankIsInNoGroup : Type 0
BlankIsInNoGroup = (device : Device) (media : Media) (d : ℕ) → device.media ≡ Some media → device.flights ≡ [] → IsBlank (image_of device.sizes media) → IsInNoGroup device d

-- the flight brings nothing to the sectors of records
abbrev pub IsOfData : Flight → Type 0
IsOfData f = (d s : ℕ) → s < data_start → written f d s ≡ None

-- A disk in no group stays in none while data alone is written.
abbrev pub StaysInNoGroup : Type 0
StaysInNoGroup = (f : Flight) (old new : Device) (d : ℕ) → IsOfData f → OnlyAdds f old new → IsInNoGroup old d → IsInNoGroup new d

-- ---- requests

-- a request begins, lands and is taken
abbrev pub answered : List Fact → Request → Outcome → List Sector → List Fact
answered facts r how got = ((facts ++ Begun r ∷ []) ++ Landed r how true got ∷ []) ++ Taken r ∷ []

-- it begins, the power is cut, and it lands so
abbrev pub darkened : List Fact → Request → Bool → List Fact
darkened facts r started = (((facts ++ Begun r ∷ []) ++ Cut ∷ []) ++ Landed r outcome.Dark started [] ∷ []) ++ Taken r ∷ []

abbrev pub at : Device → List Fact → Moment
at device facts = record { device = device; facts = facts }

-- A write of a disk in no group, under the run's next number, whose flight carries its blocks and adds the only crash images on the way.
pub record IsRawWrite (facts : List Fact) (r : Request) (f : Flight) (old new : Device) (run disk first count : ℕ) (blocks : List Sector) : Type 0 where
  pub is : r ≡ next_write run facts disk first count blocks
  pub none : IsInNoGroup old disk
  pub low : data_start ≤ first
  pub carries : CarriesRequest r f
  pub path : Path DeviceStep (OnlyAdds f old) old new

-- At each moment of it the history is legal and each crash image is kept with it, whether all its sectors stand when it has landed,
abbrev pub WriteDoneKeeps : Type 0
WriteDoneKeeps = (facts : List Fact) (r : Request) (f : Flight) (old new : Device) (run disk first count : ℕ) (blocks : List Sector)
    → IsRawWrite facts r f old new run disk first count blocks → HasNothingOut old new → BothTold old.media new.media (Puts f) → Keeps run (at old facts) (at new (answered facts r outcome.Done []))

-- some of them,
abbrev pub WriteLostKeeps : Type 0
WriteLostKeeps = (facts : List Fact) (r : Request) (f : Flight) (old new : Device) (run disk first count : ℕ) (blocks : List Sector)
    → IsRawWrite facts r f old new run disk first count blocks → HasNothingOut old new → BothTold old.media new.media (PutsSome f) → Keeps run (at old facts) (at new (answered facts r outcome.Lost []))

-- the power was cut and is put on again,
abbrev pub WriteDarkKeeps : Type 0
WriteDarkKeeps = (facts : List Fact) (r : Request) (f : Flight) (old dark new : Device) (run disk first count : ℕ) (blocks : List Sector) (started : Bool)
    → IsRawWrite facts r f old dark run disk first count blocks → Path DeviceStep (LeavesNoMore dark) dark new → Keeps run (at old facts) (at new (darkened facts r started))

-- or nothing more is heard of it.
abbrev pub WriteStuckKeeps : Type 0
WriteStuckKeeps = (facts : List Fact) (r : Request) (f : Flight) (old new : Device) (run disk first count : ℕ) (blocks : List Sector)
    → IsRawWrite facts r f old new run disk first count blocks → Keeps run (at old facts) (at new (facts ++ Begun r ∷ []))

-- the flight of a read
abbrev pub read_flight : ℕ → ℕ → ℕ → ℕ → Buffer → Flight
read_flight ticket disk first count buf = record { ticket = ticket; disk = disk; first = first; count = count; write = false; buf = buf }

abbrev pub next_read : ℕ → List Fact → ℕ → ℕ → ℕ → Request
next_read run facts disk first count = raw_request run (count_by (begins_in run) facts + 1) disk first count false []

-- So it is of a read of a disk in no group, which gets what stands there,
abbrev pub ReadGotKeeps : Type 0
ReadGotKeeps = (facts : List Fact) (old new : Device) (run disk first count ticket : ℕ) (sent back : Buffer)
    → Path DeviceStep (OnlyAdds (read_flight ticket disk first count sent) old) old new → IsInNoGroup old disk → data_start ≤ first → IsRange old disk first count
    → HasNothingOut old new → BothTold old.media new.media (Puts (read_flight ticket disk first count sent)) → IfSome old.media (λ m. ReadsRange m (read_flight ticket disk first count sent) back) → count ≤ length back.sectors
    → Keeps run (at old facts) (at new (answered facts (next_read run facts disk first count) outcome.Got (take count back.sectors)))

-- fails,
abbrev pub ReadFailedKeeps : Type 0
ReadFailedKeeps = (facts : List Fact) (old new : Device) (run disk first count ticket : ℕ) (sent : Buffer)
    → Path DeviceStep (OnlyAdds (read_flight ticket disk first count sent) old) old new → Keeps run (at old facts) (at new (answered facts (next_read run facts disk first count) outcome.ReadFailed []))

-- is cut off,
abbrev pub ReadDarkKeeps : Type 0
ReadDarkKeeps = (facts : List Fact) (old dark new : Device) (run disk first count ticket : ℕ) (sent : Buffer) (started : Bool)
    → Path DeviceStep (OnlyAdds (read_flight ticket disk first count sent) old) old dark → Path DeviceStep (LeavesNoMore dark) dark new → Keeps run (at old facts) (at new (darkened facts (next_read run facts disk first count) started))

-- or isn't heard of.
abbrev pub ReadStuckKeeps : Type 0
ReadStuckKeeps = (facts : List Fact) (old new : Device) (run disk first count ticket : ℕ) (sent : Buffer)
    → Path DeviceStep (OnlyAdds (read_flight ticket disk first count sent) old) old new → Keeps run (at old facts) (at new (facts ++ Begun (next_read run facts disk first count) ∷ []))
