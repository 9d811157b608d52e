-- A range of a volume, cut into the requests of its pieces.
use Rattle.std.specs.Prelude.{ℕ, ◌+◌, ◌-◌, ◌<◌, List, Option, Some, None}
use Rattle.lvm_path.specs.declared.ask.Ask.{Ask}
use Rattle.lvm_path.specs.declared.ask.Ask.TheVariants.{Read, Write}
use Rattle.lvm_posts.specs.passed.Raw.{piece_end}
use Rattle.lvm_session.specs.Calls.{submitted}
use Rattle.lvm_session.specs.State.{Core}
use Rattle.lvm_posts.specs.Pieces.{filled}

-- the request for a piece: a write where the range is filled from a word on, and else a read
abbrev pub piece_ask : Option ℕ → ℕ → ℕ → ℕ → Ask
piece_ask None lv from count = Read lv from count
piece_ask (Some word) lv from count = Write lv from count

-- the bytes that it writes
abbrev pub piece_bytes : Option ℕ → ℕ → ℕ → ℕ → Option (List ℕ)
piece_bytes None at from count = None
piece_bytes (Some word) at from count = Some (filled word (from - at) count)

-- a piece of the range that begins at `at` is submitted, by client 1
abbrev pub with_piece : Option ℕ → ℕ → ℕ → ℕ → ℕ → Core → Core
with_piece write lv at from count core = submitted core 1 (piece_ask write lv from count) (piece_bytes write at from count)

-- The pieces of a range from its first block to this one have been submitted, so many, one after the other; the core then.
pub data Submits (write : Option ℕ) (lv at end : ℕ) (first : Core) : ℕ → ℕ → Core → Type 0 where
  NoPiece : Submits write lv at end first at 0 first
  OnePiece : {from n : ℕ} {core : Core} → Submits write lv at end first from n core → from < end
      → Submits write lv at end first (piece_end from end) (n + 1) (with_piece write lv at from (piece_end from end - from) core)
