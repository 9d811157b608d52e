-- What the code's rest of a line stands for.
use Rattle.std.specs.Prelude.{◌≡◌, ℕ, ◌<◌, List, ◌∷◌, length, Option, Some, None, Result, Ok, Err, MatchOption, MatchResult}
use Rattle.lvm_parse.specs.declared.rest.Misfit.{Misfit}
use Rattle.lvm_parse.specs.declared.rest.Rest.{Rest}
use Rattle.lvm_parse.specs.declared.rest.Word.{Word}
use Rattle.lvm_parse.specs.Line.{WordAt, Left, left_at}
use Rattle.lvm_parse.specs.Reading.{Choice, options}

-- the words of a rest, and the column behind it
abbrev pub left : Rest → Left
left rest = left_at rest.column rest.bytes.now

abbrev pub word_at : Word → WordAt
word_at word = record { column = word.column; bytes = word.bytes.now }

-- these words with one in front
abbrev pub with_word : WordAt → Left → Left
with_word w l = record { words = w ∷ l.words; end = l.end }

-- a value and what follows it, or else a fault at the column
abbrev pub fitted : {T : Type 0} → Option T → ℕ → Rest → Result (T × Rest) Misfit
fitted (Some value) column rest = Ok (value, rest)
fitted None column rest = Err (record { column = column })

-- the code reads what the definition reads, and goes on where it does
abbrev pub ReadsAlike : {T : Type 0} → Result (T × Left) Misfit → Result (T × Rest) Misfit → Type 0
ReadsAlike read result = MatchResult result (λ r. read ≡ Ok (r.0, left r.1)) (λ misfit. read ≡ Err misfit)

-- an option was read into the others, where one is next; or none is, and the options end here; or it
-- doesn't fit
abbrev pub ReadsOption : {O : Type 0} → (O → List ℕ → Choice O) → O → O → Left → Result (Option Rest) Misfit → Type 0
ReadsOption choice old new l result = MatchResult result
    (λ read. MatchOption read ((new ≡ old) × (options choice old l ≡ Ok (old, l))) (λ rest. (options choice old l ≡ options choice new (left rest)) × (length (left rest).words < length l.words)))
    (λ misfit. options choice old l ≡ Err misfit)

-- all options at the front were read into the others
abbrev pub ReadsOptions : {O : Type 0} → (O → List ℕ → Choice O) → O → O → Left → Result Rest Misfit → Type 0
ReadsOptions choice old new l result = MatchResult result
    (λ rest. options choice old l ≡ Ok (new, left rest))
    (λ misfit. options choice old l ≡ Err misfit)
