-- What a sector and a buffer are to contracts.
use Rattle.std.specs.Prelude.{◌≡◌, ℕ, ◌<◌, List, length, replicate, slice_index}

-- 512 bytes
abbrev pub Sector : Type 0
Sector = List ℕ

-- a sector is 512 bytes
pub record IsSector (sector : Sector) : Type 0 where
  pub long : length sector ≡ 512
  pub bytes : (i : ℕ) → slice_index sector i < 256

-- 512 bytes of 0
abbrev pub zero_sector : Sector
zero_sector = replicate 512 0

-- a buffer's number and its 256 sectors
pub record Buffer : Type 0 where
  pub number : ℕ
  pub sectors : List (List ℕ)
