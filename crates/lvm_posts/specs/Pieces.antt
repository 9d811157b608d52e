-- The pieces of a range of a volume.
use Rattle.std.specs.Prelude.{ℕ, zero, suc, ◌≤◌, ◌<◌, ◌+◌, ◌*◌, ◌/◌, ◌%◌, ◌^◌, ◌++◌, List, []}
use Rattle.lvm_num.specs.Geometry.{partition_of}
use Rattle.lvm_num.specs.Word.{fill_of}
use Rattle.lvm_posts.specs.declared.asked.Asked.{Asked}

-- so many blocks of a range from this one on, the range's first filled with this word, and each other with the next, wrapping
abbrev pub filled : ℕ → ℕ → ℕ → List ℕ
filled word skip zero = []
filled word skip (suc k) = filled word skip k ++ fill_of ((word + (skip + k)) % 2 ^ 64)

-- where the piece of this index begins, from 0: the first one where the range does, each other at a multiple of 256 blocks
abbrev pub piece_start : ℕ → ℕ → ℕ
piece_start at zero = at
piece_start at (suc k) = 256 * (at / 256 + suc k)

-- the logical partition in which it lies, from 0
abbrev pub piece_lp : Asked → ℕ → ℕ
piece_lp asked k = partition_of asked.mib (piece_start asked.at k)

-- its blocks lie in a volume, and its requests have numbers
pub record IsLaidOut (asked : Asked) : Type 0 where
  pub mib : 1 ≤ asked.mib
  pub pieces : asked.pieces ≤ 1024
  pub fits : asked.at < 2 ^ 40
  pub last : asked.first + asked.pieces ≤ 2 ^ 64
