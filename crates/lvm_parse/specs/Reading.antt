-- How the words of a line are read from the left.
use Rattle.std.specs.Prelude.{ℕ, ◌==◌, nat_lt, Bool, true, false, ◌&&◌, not, if◌then◌else◌, List, [], ◌∷◌, ◌++◌, length, Option, Some, None, is_some, Result, Ok, Err, bytes_eq}
use Rattle.std.specs.List.{list_any}
use Rattle.lvm_parse.specs.declared.range.BlockRange.{BlockRange}
use Rattle.lvm_parse.specs.declared.rest.Misfit.{Misfit}
use Rattle.lvm_parse.specs.Line.{WordAt, Left}
use Rattle.lvm_parse.specs.Words.{only, number_in, count_in, disk_in}

-- the words from a column on don't fit
abbrev pub misfit : {T : Type 0} → ℕ → Result T Misfit
misfit column = Err (record { column = column })

-- what follows in a line that fits so far
abbrev pub then_ : {A B : Type 0} → Result A Misfit → (A → Result B Misfit) → Result B Misfit
then_ (Ok value) next = next value
then_ (Err e) next = Err e

-- the column of the next word, or behind the line where none is left
abbrev pub column_of : List WordAt → ℕ → ℕ
column_of [] end = end
column_of (w ∷ words) end = w.column

abbrev pub next_column : Left → ℕ
next_column l = column_of l.words l.end

-- a value, or else a fault at this column
abbrev pub or_misfit : {T : Type 0} → Option T → ℕ → Result T Misfit
or_misfit (Some value) column = Ok value
or_misfit None column = misfit column

-- an operand: the next word by what it means, and what is left behind it
abbrev pub operand_of : {T : Type 0} → (List ℕ → Option T) → List WordAt → ℕ → Result (T × Left) Misfit
operand_of meaning [] end = misfit end
operand_of meaning (w ∷ words) end = then_ (or_misfit (meaning w.bytes) w.column) (λ value. Ok (value, record { words = words; end = end }))

unfoldable pub operand : {T : Type 0} → (List ℕ → Option T) → Left → Result (T × Left) Misfit
operand meaning l = operand_of meaning l.words l.end

-- whether the next word is this option, and what is left behind it
abbrev pub option_of : List ℕ → List WordAt → ℕ → Bool × Left
option_of name [] end = (false, record { words = []; end = end })
option_of name (w ∷ words) end = if bytes_eq w.bytes name then (true, record { words = words; end = end }) else (false, record { words = w ∷ words; end = end })

unfoldable pub option : List ℕ → Left → Bool × Left
option name l = option_of name l.words l.end

-- no word is left
abbrev pub ends_of : {T : Type 0} → List WordAt → T → Result T Misfit
ends_of [] value = Ok value
ends_of (w ∷ words) value = misfit w.column

unfoldable pub ends : {T : Type 0} → Left → T → Result T Misfit
ends l value = ends_of l.words value

-- the operand with which the line ends
abbrev pub last : {T : Type 0} → (List ℕ → Option T) → Left → Result T Misfit
last meaning l = then_ (operand meaning l) (λ value. ends value.1 value.0)

-- whether the next word means something of this kind
abbrev pub is_next_of : {T : Type 0} → (List ℕ → Option T) → List WordAt → Bool
is_next_of meaning [] = false
is_next_of meaning (w ∷ words) = is_some (meaning w.bytes)

unfoldable pub is_next : {T : Type 0} → (List ℕ → Option T) → Left → Bool
is_next meaning l = is_next_of meaning l.words

-- ---- blocks

-- BLOCK COUNT: a range of blocks, and what is left behind it
unfoldable pub blocks : Left → Result (BlockRange × Left) Misfit
blocks l = then_ (operand number_in l) (λ at. then_ (operand count_in at.1) (λ count. Ok (record { at = at.0; count = count.0 }, count.1)))

-- the range with which the line ends
abbrev pub last_blocks : Left → Result BlockRange Misfit
last_blocks l = then_ (blocks l) (λ range. ends range.1 range.0)

-- ---- options in any order

-- what a word is where an option may stand, with the options that the line has then
pub data Choice (O : Type 0) : Type 0 where
  -- no option, or one that stood before
  NoOption : Choice O
  -- an option without a value
  Alone : O → Choice O
  -- an option whose value is the next word
  Valued : (List ℕ → Option O) → Choice O

-- the word is this option, which didn't stand before
unfoldable pub is_new : List ℕ → List ℕ → Bool → Bool
is_new word name stood = bytes_eq word name && not stood

-- the options at the front, each at most once, and what is left behind them
abbrev pub options_of : {O : Type 0} → (O → List ℕ → Choice O) → O → List WordAt → ℕ → Result (O × Left) Misfit
options_of choice o [] end = Ok (o, record { words = []; end = end })
options_of choice o (w ∷ []) end = elim (choice o w.bytes) [
  | NoOption ↦ Ok (o, record { words = w ∷ []; end = end })
  | Alone with ↦ Ok (with, record { words = []; end = end })
  | Valued read ↦ misfit end
]
options_of choice o (w ∷ v ∷ words) end = elim (choice o w.bytes) [
  | NoOption ↦ Ok (o, record { words = w ∷ v ∷ words; end = end })
  | Alone with ↦ options_of choice with (v ∷ words) end
  | Valued read ↦ then_ (or_misfit (read v.bytes) v.column) (λ with. options_of choice with words end)
]

unfoldable pub options : {O : Type 0} → (O → List ℕ → Choice O) → O → Left → Result (O × Left) Misfit
options choice o l = options_of choice o l.words l.end

-- an option that must stand: where it doesn't, the first word behind the options doesn't fit
abbrev pub required : {T : Type 0} → Option T → Left → Result T Misfit
required value l = or_misfit value (next_column l)

-- ---- disks

-- a disk that isn't among these, of which there are at most 127
abbrev pub is_further : List ℕ → ℕ → Bool
is_further disks disk = not (list_any (λ other. other == disk) disks) && nat_lt (length disks) 128

-- the disk that the word is, if it is a further one
abbrev pub further_disk : List ℕ → List ℕ → Option ℕ
further_disk disks word = only (is_further disks) (disk_in word)

-- one disk or more
abbrev pub one_or_more : List ℕ → ℕ → Result (List ℕ) Misfit
one_or_more [] end = misfit end
one_or_more (d ∷ disks) end = Ok (d ∷ disks)

-- these disks and those that the words name, all different, to the end of the line
abbrev pub disks_of : List ℕ → List WordAt → ℕ → Result (List ℕ) Misfit
disks_of before [] end = one_or_more before end
disks_of before (w ∷ words) end = then_ (or_misfit (further_disk before w.bytes) w.column) (λ disk. disks_of (before ++ disk ∷ []) words end)

unfoldable pub disks : List ℕ → Left → Result (List ℕ) Misfit
disks before l = disks_of before l.words l.end
