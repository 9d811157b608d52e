-- What a pass knows, and how two passes are made of one and one of two.
use Rattle.std.specs.Prelude.{◌≡◌, ℕ, zero, suc, ◌+◌, ◌<◌, ◌≤◌, ◌==◌, ◌⊎◌, ltb, Bool, true, false, not, if◌then◌else◌, Option, None, List, [], ◌∷◌, ◌++◌, map, filter, length, max}
use Rattle.atomic_table.specs.Seated.{TableId}
use Rattle.lvm_num.specs.Buffer.{Sector}
use Rattle.lvm_vol.specs.Facts.{Fact}
use Rattle.lvm_vol.specs.Fronts.{Told, own}

-- a client, with its own entries of the history
pub record Client : Type 0 where
  pub number : ℕ
  pub own : List Fact

-- what never changes of a value: its fixed numbers, and what the disks under it held when its run began
pub record Fixed : Type 0 where
  pub numbers : List ℕ
  pub past : Option (List (List Sector))

-- What a pass knows: its clients, the history and the counts as it saw them last, and what never changes.
-- The number is what it read or wrote last in the word of the turn. It is inside while the value is lent to it.
pub record View : Type 0 where
  pub clients : List Client
  pub front : List Fact
  -- what a pass had seen that was taken in, until the two fronts are compared
  pub also : List Fact
  pub fixed : Fixed
  pub counts : List ℕ
  pub number : ℕ
  pub inside : Bool
  -- the slot is out with the pass, for a moment of a call
  pub hand : Bool
  -- another pass has taken this one in
  pub spent : Bool

-- a pass, as contracts see it: at which turn it stands, and what it knows
pub record Standing : Type 0 where
  pub table : TableId
  pub knows : View

-- the client is among these, with these entries as its own
abbrev pub Owns : List Client → ℕ → List Fact → Type 0
Owns [] c l = ⊥
Owns (x ∷ xs) c l = ((x.number ≡ c) × (x.own ≡ l)) ⊎ Owns xs c l

-- the client is among these
abbrev pub HoldsClient : List Client → ℕ → Type 0
HoldsClient xs c = (l : List Fact) × Owns xs c l

-- there is a client
abbrev pub HoldsSome : List Client → Type 0
HoldsSome xs = (c : ℕ) × HoldsClient xs c

-- each client from 1 to n is among these
abbrev pub HoldsAll : ℕ → List Client → Type 0
HoldsAll n xs = (c : ℕ) → 0 < c → c ≤ n → HoldsClient xs c

abbrev pub numbers : List Client → List ℕ
numbers xs = map (λ x. x.number) xs

-- the numbers 1 to n
abbrev pub counted : ℕ → List ℕ
counted zero = []
counted (suc n) = counted n ++ suc n ∷ []

-- the clients 1 to n, the highest first, without any entries
abbrev pub up_to : ℕ → List Client
up_to zero = []
up_to (suc n) = record { number = suc n; own = [] } ∷ up_to n

-- the clients with the entries that they have in this history
abbrev pub renewed : List Fact → List Client → List Client
renewed history xs = map (λ x. record { number = x.number; own = own x.number history }) xs

abbrev pub without : ℕ → List Client → List Client
without c xs = filter (λ x. not (x.number == c)) xs

abbrev pub only : ℕ → List Client → List Client
only c xs = filter (λ x. x.number == c) xs

-- the longer of two lists
abbrev pub longer : {X : Type 0} → List X → List X → List X
longer xs ys = if ltb (length xs) (length ys) then ys else xs

-- each count, or the one that the second list has in its place where that is greater
abbrev pub greater : List ℕ → List ℕ → List ℕ
greater [] ys = ys
greater (x ∷ xs) [] = x ∷ xs
greater (x ∷ xs) (y ∷ ys) = max x y ∷ greater xs ys

-- the pass that another has taken in
abbrev pub nobody : View
nobody = record { clients = []; front = []; also = []; fixed = record { numbers = []; past = None }; counts = []; number = 0; inside = false; hand = false; spent = true }

-- the pass after a client went over to another, and that other
abbrev pub without_client : ℕ → View → View
without_client c v = record v { clients = without c v.clients }

abbrev pub with_client_alone : ℕ → View → View
with_client_alone c v = record v { clients = only c v.clients }

-- what the pass v knows once it has taken w in, before the two fronts are compared
abbrev pub met : View → View → View
met v w = record v { clients = v.clients ++ w.clients; also = w.front; counts = greater v.counts w.counts; number = max v.number w.number }

-- and once they are compared
abbrev pub settled : View → View
settled v = record v { front = longer v.front v.also; also = [] }

abbrev pub joined : View → View → View
joined v w = settled (met v w)

-- the pass read this number in the word of the turn
abbrev pub reads : ℕ → View → View
reads n v = record v { number = n }

-- the pass goes inside with this number, where it finds a value that tells this
abbrev pub enters : Told → ℕ → View → View
enters told n v = record v { front = told.entries; counts = told.counts; number = n; inside = true }

-- the pass leaves a value that tells this
abbrev pub leaves : Told → View → View
leaves told v = record v { clients = renewed told.entries v.clients; front = told.entries; counts = told.counts; number = v.number + 1; inside = false }

-- the first pass, before any value is there: it is inside, holds the clients 1 to n and has seen nothing
abbrev pub opener : ℕ → Fixed → View
opener n fixed = record { clients = up_to n; front = []; also = []; fixed = fixed; counts = []; number = 1; inside = true; hand = false; spent = false }
