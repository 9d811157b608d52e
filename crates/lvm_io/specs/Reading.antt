-- What is read of a source and not yet given out as lines.
use Rattle.std.specs.Prelude.{◌≡◌, ◌≤◌, ◌<◌, ◌+◌, ◌-◌, ◌++◌, [], ◌∷◌, ℕ, List, Option, Some, None, Result, Ok, Err, false, length}
use Rattle.lvm_num.specs.declared.Memory.{Memory}
use Rattle.lvm_io.specs.Stream.{WhereTold}
use Rattle.lvm_io.specs.Lines.{TakesFirst, has_feed}
use Rattle.lvm_io.specs.declared.stream.Got.{Got}
use Rattle.lvm_io.specs.declared.stream.Got.TheVariants as got
use Rattle.lvm_io.specs.declared.lines.NextLine.{NextLine}
use Rattle.lvm_io.specs.declared.lines.NextLine.TheVariants as next

-- the front of the next line, the bytes of the last read that follow it, and how many bytes the source gave in all
pub record Reading : Type 0 where
  pub front : List ℕ
  pub block : List ℕ
  pub given : ℕ

-- the bytes that are still to come: those that were read and not given out, and those that the source has left
abbrev pub to_come : Reading → Option (List ℕ) → Option (List ℕ)
to_come reading None = None
to_come reading (Some left) = Some (reading.front ++ (reading.block ++ left))

-- the first line of the bytes that are to come, or nothing is taken of them; memory is wanted only where there are some
abbrev pub NextGives : Option (List ℕ) → Option (List ℕ) → NextLine → Type 0
NextGives old new (next.Line line) = WhereTold old new (TakesFirst line)
NextGives old new next.End = WhereTold old new (λ a b. (a ≡ []) × (b ≡ []))
NextGives old new next.Failed = WhereTold old new (λ a b. b ≡ a)
NextGives old new next.TooLong = WhereTold old new (λ a b. b ≡ a)
NextGives old new next.Memory = WhereTold old new (λ a b. (b ≡ a) × (a ≡ [] → ⊥))

-- where a read failed, nothing is left of what was read but the front of a line; where too much was read or no memory was found, that and at most what the last read gave
abbrev pub LeavesFront : Reading → NextLine → Type 0
LeavesFront new (next.Line line) = Unit {0}
LeavesFront new next.End = Unit {0}
LeavesFront new next.Failed = (has_feed new.front ≡ false) × (new.block ≡ [])
LeavesFront new next.TooLong = (has_feed new.front ≡ false) × (length new.block ≤ 65536)
LeavesFront new next.Memory = (has_feed new.front ≡ false) × (length new.block ≤ 65536)

-- a line that has begun counts once
abbrev pub begun : List ℕ → ℕ
begun [] = 0
begun (byte ∷ front) = 1

-- how many lines may still be given out at most: the limit, which a last read may pass by its length, ends them
abbrev pub lines_left : Reading → ℕ
lines_left reading = (16842752 - reading.given) + length reading.block + begun reading.front

-- each line leaves fewer to be given out
abbrev pub LeavesFewer : Reading → Reading → NextLine → Type 0
LeavesFewer old new (next.Line line) = lines_left new < lines_left old
LeavesFewer old new _ = lines_left new ≤ lines_left old

-- the count of the bytes that were given is right
abbrev pub CountsGiven : Reading → Reading → Option (List ℕ) → Option (List ℕ) → Type 0
CountsGiven old new before left = WhereTold before left (λ a b. length a + old.given ≡ length b + new.given)

-- the line that ends in the block is taken, or the block goes behind the front where none ends in it
abbrev pub TakesLine : Reading → Reading → Result (Option (List ℕ)) Memory → Type 0
TakesLine old new (Ok (Some line)) = (tail : List ℕ) × (old.block ≡ tail ++ 10 ∷ new.block) × (line ≡ old.front ++ tail) × (has_feed line ≡ false) × (new ≡ record { front = []; block = new.block; given = old.given })
TakesLine old new (Ok None) = (has_feed new.front ≡ false) × (new ≡ record { front = old.front ++ old.block; block = []; given = old.given })
TakesLine old new (Err want) = (new ≡ old) × (old.block ≡ [] → ⊥)

-- the next block is read
abbrev pub Refills : Reading → Reading → Option (List ℕ) → Option (List ℕ) → Got → Type 0
Refills old new before left (got.Bytes n) = (1 ≤ n) × (n ≤ 65536) × (n ≡ length new.block) × (new ≡ record { front = old.front; block = new.block; given = old.given + n }) × WhereTold before left (λ a b. a ≡ new.block ++ b)
Refills old new before left got.End = (new ≡ old) × WhereTold before left (λ a b. (a ≡ []) × (b ≡ []))
Refills old new before left got.Failed = (new ≡ old) × WhereTold before left (λ a b. b ≡ a)

-- the line that lacks its line feed is taken, if there is one
abbrev pub TakesLast : Reading → Reading → NextLine → Type 0
TakesLast old new (next.Line line) = (line ≡ old.front) × (0 < length line) × (new ≡ record { front = []; block = old.block; given = old.given })
TakesLast old new next.End = (old.front ≡ []) × (new ≡ old)
TakesLast old new answer = ⊥
