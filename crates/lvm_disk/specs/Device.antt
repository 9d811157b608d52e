-- What a shelf of disks is to contracts.
use Rattle.std.specs.Prelude.{◌≡◌, ◌⊎◌, ℕ, ◌+◌, ◌-◌, ◌<◌, ◌&&◌, ◌==◌, Bool, true, List, [], ◌∷◌, length, Option, Some, None, if◌then◌else◌, nat_le, nat_lt, slice_get, slice_index_or, IsSomeAnd, IfSome}
use Rattle.lvm_num.specs.Buffer.{Buffer, Sector, IsSector}
use Rattle.lvm_disk.specs.declared.shelf.Arrange.{Arrange}
use Rattle.lvm_disk.specs.Counts.{Counts}

-- what stands at each sector of each disk
abbrev pub Media : Type 0
Media = ℕ → ℕ → Sector

-- The disks that there are, how many sectors each has, and what stands there. Past the disks and past their ends there are no sectors, and nothing is meant.
pub record Image : Type 0 where
  pub disks : ℕ
  pub size : ℕ → ℕ
  pub sector : Media

-- a transfer that was started and has not ended; a write carries the first count sectors of its buffer, a read will fill them
pub record Flight : Type 0 where
  pub ticket : ℕ
  pub disk : ℕ
  pub first : ℕ
  pub count : ℕ
  pub write : Bool
  pub buf : Buffer

-- a run of sectors of a disk
pub record Range : Type 0 where
  pub disk : ℕ
  pub first : ℕ
  pub count : ℕ

-- Of a shelf that does nothing but what it is ordered: how often its power was cut, how often a disk was ordered to fail, and for each disk whether an
-- arrangement lets it fail now.
pub record Ordered : Type 0 where
  pub cuts : ℕ
  pub fails : ℕ
  pub failing : List Bool

-- How many arrangements were made, the last of them, and what they made of a shelf that heeds them alone. Of any other nothing is told: its disks may fail, its power may go and its reaps may end nothing, by themselves.
pub record Orders : Type 0 where
  pub made : ℕ
  pub last : Option Arrange
  pub alone : Option Ordered

-- A shelf at one moment. The content of the media is told or not; the list of the write ranges that were started may stop being told.
pub record Device : Type 0 where
  pub sizes : List ℕ
  pub media : Option Media
  pub flights : List Flight
  pub freed : List Buffer
  pub power : Bool
  pub counts : Counts
  pub arranges : Bool
  pub orders : Orders
  pub wrote : Option (List Range)

-- no flight is out, no buffer is left to free, and the power is on
pub record IsReady (device : Device) : Type 0 where
  pub flights : device.flights ≡ []
  pub freed : device.freed ≡ []
  pub power : device.power ≡ true

-- what a flight would write at sector s of disk d
abbrev pub written : Flight → ℕ → ℕ → Option Sector
written f d s = if f.write && (f.disk == d) && nat_le f.first s && nat_lt s (f.first + f.count) then slice_get f.buf.sectors (s - f.first) else None

-- one of the flights would write this there
abbrev pub IsInFlight : List Flight → ℕ → ℕ → Sector → Type 0
IsInFlight [] d s sector = ⊥
IsInFlight (f ∷ flights) d s sector = (written f d s ≡ Some sector) ⊎ IsInFlight flights d s sector

-- each sector is the media's, or that of a write flight that covers it
abbrev pub IsTorn : Media → List Flight → Media → Type 0
IsTorn media flights left = (d s : ℕ) → (left d s ≡ media d s) ⊎ IsInFlight flights d s (left d s)

-- as many disks, each as large
pub record SameDisks (a b : Image) : Type 0 where
  pub disks : b.disks ≡ a.disks
  pub size : (d : ℕ) → b.size d ≡ a.size d

-- the media as an image
abbrev pub image_of : List ℕ → Media → Image
image_of sizes media = record { disks = length sizes; size = λ d. slice_index_or sizes d 0; sector = media }

-- what a loss of power may leave of the media while these flights are out
pub record IsCrashImage (media : Image) (flights : List Flight) (image : Image) : Type 0 where
  pub same : SameDisks media image
  pub each : IsTorn media.sector flights image.sector

-- what a loss of power at this moment may leave; where the media is not told, nothing is known to be left
abbrev pub MayLeave : Device → Image → Type 0
MayLeave device image = IsSomeAnd device.media (λ media. IsCrashImage (image_of device.sizes media) device.flights image)

-- the sectors of the disks are 512 bytes each
abbrev pub IsWholeImage : Image → Type 0
IsWholeImage image = (d s : ℕ) → s < image.size d → IsSector (image.sector d s)

-- so are those of disks of these sizes
abbrev pub AreSectors : List ℕ → Media → Type 0
AreSectors sizes media = IsWholeImage (image_of sizes media)

-- where the media is told, it has such sectors
abbrev pub HasSectors : Device → Type 0
HasSectors device = IfSome device.media (λ media. AreSectors device.sizes media)
