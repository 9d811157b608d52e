-- Disks that are in no group, and requests on them.
use Rattle.std.specs.Prelude.{◌≡◌, ◌<◌, ◌≤◌, ◌++◌, ◌∷◌, ◌+◌, ℕ, Bool, true, false, List, [], Some, None, count_by}
use Rattle.lvm_disk.specs.passed.Num.{data_start}
use Rattle.lvm_disk.specs.Device.{Image, Flight, Device, written, MayLeave}
use Rattle.lvm_disk.specs.Images.{DiffersBy}
use Rattle.lvm_vol.specs.declared.entry.Vol.TheVariants.{Disk}
use Rattle.lvm_vol.specs.Facts.{Request, Fact, Cut, is_over, block_of}
use Rattle.lvm_vol.specs.Legal.{begins_in}
use Rattle.lvm_vol.specs.May.{known, May}

-- Each block of each disk has a value that it may have once the power has gone off, whatever group the disk may be in.
pub record RawKept (image : Image) (facts : List Fact) : Type 0 where
  pub raw : (d b : ℕ) → d < image.disks → data_start ≤ b → b < image.size d → May (known (facts ++ Cut ∷ []) (Disk d) b) (image.sector d b)

-- a request of client 1 on a raw disk
abbrev pub raw_request : ℕ → ℕ → ℕ → ℕ → ℕ → Bool → List (List ℕ) → Request
raw_request run id disk at count write blocks = record { run = run; id = id; client = 1; vol = Disk disk; at = at; count = count; write = write; blocks = blocks }

-- a write with the next number of its run
abbrev pub next_write : ℕ → List Fact → ℕ → ℕ → ℕ → List (List ℕ) → Request
next_write run facts disk at count blocks = raw_request run (count_by (begins_in run) facts + 1) disk at count true blocks

-- the flight writes the request's blocks at their sectors, and nothing else
pub record CarriesRequest (r : Request) (f : Flight) : Type 0 where
  pub write : r.write ≡ true
  pub there : (d s : ℕ) → is_over r (Disk d) s ≡ true → written f d s ≡ Some (block_of r.blocks r.at s)
  pub elsewhere : (d s : ℕ) → is_over r (Disk d) s ≡ false → written f d s ≡ None

-- each crash image is one that the first device may leave, but for sectors that the flight writes
abbrev pub OnlyAdds : Flight → Device → Device → Type 0
OnlyAdds f first device = (image : Image) → MayLeave device image → (before : Image) × MayLeave first before × DiffersBy f before image

-- nothing is out, and the disks are as large as before
pub record HasNothingOut (old new : Device) : Type 0 where
  pub flights : new.flights ≡ []
  pub sizes : new.sizes ≡ old.sizes
