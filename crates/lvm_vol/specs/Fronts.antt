-- What a value with a history tells, whose an entry is, and how histories and counts grow.
use Rattle.std.specs.Prelude.{◌≡◌, ℕ, ◌==◌, ◌≤◌, Bool, false, List, [], ◌∷◌, ◌++◌, filter}
use Rattle.lvm_vol.specs.Facts.{Fact, Begun, Taken}

-- what a value tells of itself: its history, numbers that never change and counts that never fall
pub record Told : Type 0 where
  pub entries : List Fact
  pub fixed : List ℕ
  pub counts : List ℕ

-- the entry begins a request of this client, or takes its answer
abbrev pub is_own : ℕ → Fact → Bool
is_own client (Begun r) = r.client == client
is_own client (Taken r) = r.client == client
is_own client _ = false

-- the client's own entries, in their order
abbrev pub own : ℕ → List Fact → List Fact
own client entries = filter (is_own client) entries

-- the first list begins the second
abbrev pub IsPrefixOf : {X : Type 0} → List X → List X → Type 0
IsPrefixOf {X} xs ys = (rest : List X) × (ys ≡ xs ++ rest)

-- no count fell from the first list to the second, and none was left out
abbrev pub NoneFell : List ℕ → List ℕ → Type 0
NoneFell [] ys = Unit {0}
NoneFell (x ∷ xs) [] = ⊥
NoneFell (x ∷ xs) (y ∷ ys) = (x ≤ y) × NoneFell xs ys
