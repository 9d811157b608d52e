-- The lines of a text.
use Rattle.std.specs.Prelude.{◌≡◌, ◌==◌, ◌<◌, ◌⊎◌, ◌++◌, [], ◌∷◌, ℕ, List, Bool, false, if◌then◌else◌, length, All}
use Rattle.std.specs.List.{list_any}

-- a line feed
abbrev pub is_feed : ℕ → Bool
is_feed byte = byte == 10

abbrev pub has_feed : List ℕ → Bool
has_feed bytes = list_any is_feed bytes

-- a last line without a line feed
abbrev pub last_line : List ℕ → List (List ℕ)
last_line [] = []
last_line (byte ∷ front) = (byte ∷ front) ∷ []

-- the lines of what follows these bytes of one; each ends with a line feed, which the last may lack
abbrev pub lines_from : List ℕ → List ℕ → List (List ℕ)
lines_from front [] = last_line front
lines_from front (byte ∷ bytes) = if is_feed byte then front ∷ lines_from [] bytes else lines_from (front ++ byte ∷ []) bytes

abbrev pub lines_of : List ℕ → List (List ℕ)
lines_of bytes = lines_from [] bytes

-- it is the first line of the bytes: its line feed comes behind it, or it is all of them, without one
abbrev pub TakesFirst : List ℕ → List ℕ → List ℕ → Type 0
TakesFirst line bytes rest = (has_feed line ≡ false) × ((bytes ≡ line ++ 10 ∷ rest) ⊎ ((bytes ≡ line) × (rest ≡ []) × (0 < length line)))

-- lines, each with its line feed
abbrev pub joined : List (List ℕ) → List ℕ
joined [] = []
joined (line ∷ lines) = line ++ 10 ∷ joined lines

-- the text is these lines, but that the last lacks its line feed, and then it has bytes
pub record LacksLast (text : List ℕ) (lines : List (List ℕ)) : Type 0 where
  pub ended : List (List ℕ)
  pub last : List ℕ
  pub are : lines ≡ ended ++ last ∷ []
  pub is : text ≡ joined ended ++ last
  pub some : 0 < length last

-- these are the lines of the text: no line feed stands in them, and with a line feed after each but maybe the last they are the text
pub record AreLinesOf (text : List ℕ) (lines : List (List ℕ)) : Type 0 where
  pub clean : All (λ line. has_feed line ≡ false) lines
  pub whole : (text ≡ joined lines) ⊎ LacksLast text lines

abbrev pub LinesLaw : Type 0
LinesLaw = (text : List ℕ) → AreLinesOf text (lines_of text)
