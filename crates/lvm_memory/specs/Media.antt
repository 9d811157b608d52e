-- Disks in memory, and which sectors a broken write leaves there.
use Rattle.std.specs.Prelude.{◌≡◌, ℕ, ◌+◌, ◌-◌, ◌/◌, ◌%◌, ◌<◌, ◌≤◌, ◌&&◌, ◌==◌, Bool, List, [], ◌∷◌, ◌++◌, length, map, replicate, drop, Option, Some, None, if◌then◌else◌, nat_le, nat_lt, slice_get, slice_index_or, unwrap_or, vec_capacity}
use Rattle.std.specs.Global.{Vec}
use Rattle.std.specs.Int.{bit_at}
use Rattle.std.specs.Simd.{first_chunks}
use Rattle.lvm_num.specs.Buffer.{Buffer, Sector, zero_sector, IsSector}
use Rattle.lvm_disk.specs.Device.{AreSectors, Media, Flight, written}
use Rattle.lvm_memory.specs.Flights.{flights_of, writes}
use Rattle.lvm_memory.specs.declared.flying.Flying.{Flying}

-- what stands at each sector of disks that are lists of sectors
abbrev pub media_of : List (List Sector) → Media
media_of disks d s = slice_index_or (slice_index_or disks d []) s []

-- how many sectors each has
abbrev pub sizes_of : List (List Sector) → List ℕ
sizes_of disks = map length disks

-- the disks have as many sectors as before, each of 512 bytes
pub record KeepsDisks (old new : List (List Sector)) : Type 0 where
  pub sizes : sizes_of new ≡ sizes_of old
  pub sectors : AreSectors (sizes_of new) (media_of new)

-- disks of zeros, of these numbers of sectors
abbrev pub blank_disks_of : List ℕ → List (List Sector)
blank_disks_of sizes = map (λ count. replicate count zero_sector) sizes

-- bytes as sectors, 512 by 512
abbrev pub sectors_in : List ℕ → List Sector
sectors_in bytes = first_chunks 512 (length bytes / 512) bytes

-- each sector of the list is 512 bytes
abbrev pub AllSectors : List Sector → Type 0
AllSectors sectors = (s : ℕ) → s < length sectors → IsSector (slice_index_or sectors s [])

-- what the first sectors of a buffer bring to sector s, from sector first on
abbrev pub put_at : ℕ → ℕ → List Sector → ℕ → Option Sector
put_at first count sectors s = if nat_le first s && nat_lt s (first + count) then slice_get sectors (s - first) else None

-- sector s after those sectors of a buffer were put on a disk, from sector first on, that p picks
abbrev pub put_by : (ℕ → Bool) → ℕ → ℕ → List Sector → List Sector → ℕ → Sector
put_by p first count sectors old s = if p (s - first) then unwrap_or (put_at first count sectors s) (slice_index_or old s []) else slice_index_or old s []

-- the first sectors of a buffer are a disk's, from sector first on, and the rest of it stays
pub record FilledFrom (disk : List Sector) (first count : ℕ) (old new : Buffer) : Type 0 where
  pub number : new.number ≡ old.number
  pub long : length new.sectors ≡ length old.sectors
  pub found : (i : ℕ) → i < count → slice_get new.sectors i ≡ Some (slice_index_or disk (first + i) [])
  pub rest : drop count new.sectors ≡ drop count old.sectors

-- whether the word picks the k-th sector: its bit k mod 64 is 1
abbrev pub picks : ℕ → ℕ → Bool
picks word k = bit_at word (k % 64) == 1

-- the media after those of a write's sectors have been written that the word picks, the first of them counted as k
abbrev pub written_by : ℕ → ℕ → Flight → Media → Media
written_by word k f media d s = if picks word (k + (s - f.first)) then unwrap_or (written f d s) (media d s) else media d s

-- the media after a cut by a word: the sectors are counted over the write flights in order of their starts, from k on
abbrev pub cut_by : ℕ → ℕ → List Flight → Media → Media
cut_by word k [] media = media
cut_by word k (f ∷ flights) media = cut_by word (k + writes f) flights (written_by word k f media)

-- no transfer is under way any more, their buffers stand behind those that were given back before, and neither list has lost room
pub record GiveBack (flights flights1 : Vec Flying) (freed freed1 : Vec Buffer) : Type 0 where
  pub none : flights1.items ≡ []
  pub buffers : freed1.items ≡ freed.items ++ map (λ f. f.buf) (flights_of flights.items)
  pub room : vec_capacity freed ≤ vec_capacity freed1
  pub flights_room : vec_capacity flights ≤ vec_capacity flights1
