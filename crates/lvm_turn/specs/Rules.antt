-- The rule of the turn, which holds between any two steps. Word 0 is even while the turn is free, word 1 is
-- the length of the history, and the one slot has the value.
use Rattle.std.specs.Prelude.{◌≡◌, ℕ, ◌+◌, ◌%◌, ◌^◌, ◌<◌, ◌≤◌, ◌⊎◌, true, false, Option, Some, None, List, [], ◌∷◌, length, if◌then◌else◌}
use mathlib.Core.Option.{some, none}
use lib.ListN.{get_elem?}
use Rattle.atomic_table.specs.Table.{State}
use Rattle.lvm_num.specs.Buffer.{Sector}
use Rattle.lvm_vol.specs.Facts.{Fact}
use Rattle.lvm_vol.specs.Fronts.{Told, own, IsPrefixOf, NoneFell}
use Rattle.lvm_turn.specs.Views.{View, Fixed, Owns, HoldsClient, HoldsSome}

-- What the pass in a seat knows fits the one history, the greatest counts and word 0. Each client that it
-- holds has its seat here alone, and its own entries are exactly those of the history.
pub record Fits (history : List Fact) (root : Fixed) (best : List ℕ) (turn n : ℕ) (seat_of : ℕ → ℕ) (j : ℕ) (v : View) : Type 0 where
  pub front : IsPrefixOf v.front history
  pub also : IsPrefixOf v.also history
  pub counts : NoneFell v.counts best
  pub number : v.number ≤ turn
  pub fixed : v.spent ≡ false → v.fixed ≡ root
  pub clients : (c : ℕ) (l : List Fact) → Owns v.clients c l → (j ≡ seat_of c) × (0 < c) × (c ≤ n) × (own c history ≡ l)

-- the pass that is inside has seen all, has word 0 as its number, and holds a client
pub record IsInside (history : List Fact) (best : List ℕ) (turn : ℕ) (v : View) : Type 0 where
  pub inside : v.inside ≡ true
  pub number : v.number ≡ turn
  pub front : v.front ≡ history
  pub counts : v.counts ≡ best
  pub client : HoldsSome v.clients

abbrev pub NoneInside : List View → Type 0
NoneInside views = (j : ℕ) (v : View) → get_elem? views j ≡ some v → v.inside ≡ false

-- what never changes of a value
abbrev pub fixed_of : {V : Type 0} → (V → Told) → (V → Option (List (List Sector))) → V → Fixed
fixed_of tells past y = record { numbers = (tells y).fixed; past = past y }

module _ {V : Type 0} (tells : V → Told) (past : V → Option (List (List Sector))) (always : V → Type 0) where
  -- the value that is at home tells this
  pub record IsHome (history : List Fact) (root : Fixed) (best : List ℕ) (y : V) : Type 0 where
    pub entries_are : (tells y).entries ≡ history
    pub fixed_are : fixed_of tells past y ≡ root
    pub counts_are : (tells y).counts ≡ best
    pub always_holds : always y

  -- the turn is free: nobody is inside, and the value is at home
  pub record IsFree (history : List Fact) (root : Fixed) (best : List ℕ) (turn : ℕ) (s : State (Option V) View) : Type 0 where
    pub even : turn % 2 ≡ 0
    pub nobody_inside : NoneInside s.views
    pub value : V
    pub homes : s.homes ≡ some (Some value) ∷ []
    pub home : IsHome history root best value

  -- the turn is taken: one pass alone is inside, and the slot is empty or out with it
  pub record TurnIsTaken (history : List Fact) (best : List ℕ) (turn : ℕ) (s : State (Option V) View) : Type 0 where
    pub odd : turn % 2 ≡ 1
    pub seat : ℕ
    pub view : View
    pub there : get_elem? s.views seat ≡ some view
    pub holder : IsInside history best turn view
    pub alone : (j : ℕ) (w : View) → get_elem? s.views j ≡ some w → w.inside ≡ true → j ≡ seat
    pub homes : s.homes ≡ (if view.hand then none else some None) ∷ []

  -- The rule: one history and the greatest counts, which all passes fit, each client from 1 to n in one of
  -- them, and a turn that is free or taken. Word 0 stays below its type's last number.
  pub record TurnRule (n : ℕ) (root : Fixed) (s : State (Option V) View) : Type 0 where
    pub history : List Fact
    pub best : List ℕ
    pub turn : ℕ
    pub seat_of : ℕ → ℕ
    pub words : s.words ≡ turn ∷ length history ∷ []
    pub low : turn + 1 < 2 ^ 64
    pub each : (j : ℕ) (v : View) → get_elem? s.views j ≡ some v → Fits history root best turn n seat_of j v
    pub placed : (c : ℕ) → 0 < c → c ≤ n → (v : View) × (get_elem? s.views (seat_of c) ≡ some v) × HoldsClient v.clients c
    pub place : IsFree history root best turn s ⊎ TurnIsTaken history best turn s
