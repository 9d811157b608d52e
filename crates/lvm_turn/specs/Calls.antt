-- What the calls of a turn ask and promise.
use Rattle.std.specs.Prelude.{◌≡◌, ℕ, ◌-◌, ◌%◌, ◌^◌, ◌<◌, ◌≤◌, ◌⊎◌, false, Option, List, []}
use Rattle.atomic_table.specs.Seated.{TableId}
use Rattle.lvm_num.specs.Buffer.{Sector}
use Rattle.lvm_vol.specs.Facts.{Fact}
use Rattle.lvm_vol.specs.Fronts.{Told, own, IsPrefixOf, NoneFell}
use Rattle.lvm_turn.specs.Views.{Standing, numbers, View, Owns, HoldsClient, up_to, renewed, reads, enters}
use Rattle.lvm_turn.specs.Rules.{fixed_of}

-- a pass at this turn that is outside and holds the clients of these numbers
pub record IsIdlePass (table : TableId) (clients : List ℕ) (p : Standing) : Type 0 where
  pub at : p.table ≡ table
  pub outside : p.knows.inside ≡ false
  pub holds : numbers p.knows.clients ≡ clients

-- The pass v was lent a value that tells this, and is w since. The turn was free and went over to it.
pub record HasEntered (v : View) (told : Told) (w : View) : Type 0 where
  pub view : w ≡ enters told w.number v
  pub odd : w.number % 2 ≡ 1
  pub later : v.number < w.number

-- The try of the pass v gave nothing, and it is w since. Another pass held the turn when it last looked, or
-- has entered since, or the turn's numbers are used up.
pub record WasMissed (v w : View) : Type 0 where
  pub view : w ≡ reads w.number v
  pub later : v.number ≤ w.number
  pub cause : (w.number % 2 ≡ 1) ⊎ (v.number < w.number) ⊎ (w.number ≡ 2 ^ 64 - 2)

-- The first pass has seen the value, and holds the clients 1 to n with their entries of its history.
abbrev pub first_view : {V : Type 0} → (V → Told) → (V → Option (List (List Sector))) → ℕ → V → View
first_view tells past n y =
    record { clients = renewed (tells y).entries (up_to n); front = (tells y).entries; also = []; fixed = fixed_of tells past y; counts = (tells y).counts; number = 2; inside = false; hand = false; spent = false }

module _ {V : Type 0} (tells : V → Told) (past : V → Option (List (List Sector))) (always : V → Type 0) where
  -- A value that a pass which knows v is handed: its history begins with what the pass had seen, and each of
  -- the pass's clients has there exactly the entries that are its own.
  pub record Continues (v : View) (y : V) : Type 0 where
    pub front : IsPrefixOf v.front (tells y).entries
    pub own_entries : (c : ℕ) (l : List Fact) → Owns v.clients c l → own c (tells y).entries ≡ l
    pub fixed_same : fixed_of tells past y ≡ v.fixed
    pub none_fell : NoneFell v.counts (tells y).counts
    pub always_holds : always y

  -- A value that a pass which knows v may leave: its history goes on, and nothing of a client was added that
  -- the pass doesn't hold.
  pub record MayLeave (v : View) (y : V) : Type 0 where
    pub front : IsPrefixOf v.front (tells y).entries
    pub own_only : (c : ℕ) → ¬ HoldsClient v.clients c → own c (tells y).entries ≡ own c v.front
    pub fixed_same : fixed_of tells past y ≡ v.fixed
    pub none_fell : NoneFell v.counts (tells y).counts
    pub always_holds : always y

  -- The same, where only the clients 1 to n count: the first value may have entries of others.
  pub record MayPut (n : ℕ) (v : View) (y : V) : Type 0 where
    pub front : IsPrefixOf v.front (tells y).entries
    pub own_only : (c : ℕ) → 0 < c → c ≤ n → ¬ HoldsClient v.clients c → own c (tells y).entries ≡ own c v.front
    pub fixed_same : fixed_of tells past y ≡ v.fixed
    pub none_fell : NoneFell v.counts (tells y).counts
    pub always_holds : always y
