-- How a range of blocks of a disk is moved in pieces.
use Rattle.std.specs.Prelude.{◌≡◌, ◌<◌, ◌+◌, ◌-◌, ◌*◌, ◌/◌, ◌++◌, ℕ, List, [], Option, None, Some, unwrap_or, min, take, Result, Ok, Err}
use Rattle.lvm_num.specs.Buffer.{Buffer, Sector}
use Rattle.lvm_kept.specs.Moments.{Moment}
use Rattle.lvm_transfer.specs.declared.moves.Moved.{Moved}
use Rattle.lvm_transfer.specs.declared.moves.Moved.TheVariants as moved
use Rattle.lvm_raw.specs.Requests.{WasAnswered}
use Rattle.lvm_raw.specs.OnePiece.{WritesPiece, ReadsPiece}
use Rattle.lvm_raw.specs.declared.fault.RawFault.{RawFault}
use Rattle.lvm_raw.specs.declared.fault.RawFault.TheVariants as fault

-- a piece from this block on ends where the range does, or at the next multiple of 256
abbrev pub piece_end : ℕ → ℕ → ℕ
piece_end from end = min end (256 * (from / 256 + 1))

-- how many pieces a range of at least one block has
abbrev pub piece_count : ℕ → ℕ → ℕ
piece_count at count = (at + count - 1) / 256 - at / 256 + 1

-- ---- one piece more

-- The answer once one piece more has ended so. The first that didn't end well decides, but for one of which nothing was heard.
abbrev pub answer_after : {X : Type 0} → RawFault → (Buffer → X → X) → Moved → Result X RawFault → Result X RawFault
answer_after failed more moved.Stuck answer = Err fault.Stuck
answer_after failed more (moved.Done back) (Ok x) = Ok (more back x)
answer_after failed more (moved.Done back) (Err why) = Err why
answer_after failed more (moved.Failed back) (Ok x) = Err failed
answer_after failed more (moved.Failed back) (Err why) = Err why
answer_after failed more (moved.Dark started) (Ok x) = Err fault.Dark
answer_after failed more (moved.Dark started) (Err why) = Err why

-- the answer so far: what was got, if nothing has failed
abbrev pub answer_of : {X : Type 0} → X → Option RawFault → Result X RawFault
answer_of x None = Ok x
answer_of x (Some why) = Err why

-- what has been got, with what one piece more got
abbrev pub grown : {X : Type 0} → (Buffer → X → X) → Moved → X → X
grown more (moved.Done back) x = more back x
grown more (moved.Failed back) x = x
grown more (moved.Dark started) x = x
grown more moved.Stuck x = x

-- how a piece that ended so is settled: its buffer comes back, and the first failure is noted; or the answer is given
abbrev pub SettlesPiece : RawFault → Moved → Option RawFault → Option RawFault → Result Buffer RawFault → Type 0
SettlesPiece failed (moved.Done back) old new given = (given ≡ Ok back) × (new ≡ old)
SettlesPiece failed (moved.Failed back) old new given = (given ≡ Ok back) × (new ≡ Some (unwrap_or old failed))
SettlesPiece failed (moved.Dark started) old new given = (given ≡ Err (unwrap_or old fault.Dark)) × (new ≡ old)
SettlesPiece failed moved.Stuck old new given = (given ≡ Err fault.Stuck) × (new ≡ old)

-- the answer to writes after one more, and that to reads, with the blocks that were got
abbrev pub write_answer : ℕ → Moved → Result (Unit {0}) RawFault → Result (Unit {0}) RawFault
write_answer count how answer = answer_after fault.Lost (λ back done. done) how answer

abbrev pub with_front : ℕ → Buffer → List Sector → List Sector
with_front count back blocks = blocks ++ take count back.sectors

abbrev pub read_answer : ℕ → Moved → Result (List Sector) RawFault → Result (List Sector) RawFault
read_answer count how answer = answer_after fault.ReadFailed (with_front count) how answer

-- ---- one after the other

-- Pieces of a range, from its first block to this one, each begun once the disk had answered the one before; the moment then, and the answer so far.
pub data PiecesGo {X : Type 0} (Piece : ℕ → ℕ → ℕ → Moment → Moment → Moved → Type 0) (answer : ℕ → Moved → X → X) (at end : ℕ) (first : Moment) (none : X) : ℕ → Moment → X → Type 0 where
  NoPiece : PiecesGo Piece answer at end first none at first none
  OnePiece : {from patience : ℕ} {old new : Moment} {x : X} {how : Moved} → PiecesGo Piece answer at end first none from old x → from < end → Piece from (piece_end from end - from) patience old new how → WasAnswered how
      → PiecesGo Piece answer at end first none (piece_end from end) new (answer (piece_end from end - from) how x)

-- All pieces of the range go so, or up to one that the disk didn't answer.
pub data RangeGoes {X : Type 0} (Piece : ℕ → ℕ → ℕ → Moment → Moment → Moved → Type 0) (answer : ℕ → Moved → X → X) (at end : ℕ) (first : Moment) (none : X) (last : Moment) (given : X) : Type 0 where
  WentThrough : PiecesGo Piece answer at end first none end last given → RangeGoes Piece answer at end first none last given
  WasBroken : {from patience : ℕ} {old : Moment} {x : X} {how : Moved} → PiecesGo Piece answer at end first none from old x → from < end → Piece from (piece_end from end - from) patience old last how → (WasAnswered how → ⊥)
      → given ≡ answer (piece_end from end - from) how x → RangeGoes Piece answer at end first none last given

-- how the writes of a range go, its first block filled with this word, and how the reads of one do
abbrev pub WritesGo : ℕ → ℕ → ℕ → ℕ → ℕ → Moment → Moment → Result (Unit {0}) RawFault → Type 0
WritesGo run disk at count word old new answer = RangeGoes (λ from n. WritesPiece run disk (word + (from - at)) from n) write_answer at (at + count) old (Ok tt) new answer

abbrev pub ReadsGo : ℕ → ℕ → ℕ → ℕ → Moment → Moment → Result (List Sector) RawFault → Type 0
ReadsGo run disk at count old new answer = RangeGoes (λ from n. ReadsPiece run disk from n) read_answer at (at + count) old (Ok []) new answer
