-- The words of a line, with the columns at which they begin.
use Rattle.std.specs.Prelude.{ℕ, ◌+◌, ◌-◌, ◌==◌, if◌then◌else◌, List, [], ◌∷◌, ◌++◌, length}

-- a word of a line: the column at which it begins, counted from 1, and its bytes
pub record WordAt : Type 0 where
  pub column : ℕ
  pub bytes : List ℕ

-- what is left of a line: its words, and the column behind its last byte
pub record Left : Type 0 where
  pub words : List WordAt
  pub end : ℕ

-- a word that ends before this column, if it has begun, in front of the others
abbrev pub finished : ℕ → List ℕ → List WordAt → List WordAt
finished column [] words = words
finished column (b ∷ word) words = record { column = column - length (b ∷ word); bytes = b ∷ word } ∷ words

-- the words of the line from a column on, where one has begun with these bytes
abbrev pub words_from : ℕ → List ℕ → List ℕ → List WordAt
words_from column word [] = finished column word []
words_from column word (b ∷ line) = if b == 32 then finished column word (words_from (column + 1) [] line) else words_from (column + 1) (word ++ b ∷ []) line

-- the bytes from a column on as their words, which blanks separate, and the column behind them
abbrev pub left_at : ℕ → List ℕ → Left
left_at column bytes = record { words = words_from column [] bytes; end = column + length bytes }
