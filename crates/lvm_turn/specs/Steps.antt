-- What each atomic step tells the pass that makes it.
use Rattle.std.specs.Prelude.{◌≡◌, ◌≢◌, ℕ, ◌+◌, ◌^◌, ◌<◌, ◌≤◌, true, false, Option, Some, None, List, [], ◌∷◌}
use mathlib.Core.Option.{some}
use Rattle.atomic_table.specs.Table.{Me, Step}
use Rattle.lvm_num.specs.Buffer.{Sector}
use Rattle.lvm_vol.specs.Fronts.{Told, IsPrefixOf}
use Rattle.lvm_turn.specs.Views.{View, HoldsSome, renewed, settled, reads, enters}
use Rattle.lvm_turn.specs.Calls.{Continues}

-- a pass that may take the turn
pub record IsOutsidePass (v : View) : Type 0 where
  pub outside : v.inside ≡ false
  pub hand : v.hand ≡ false
  pub live : v.spent ≡ false
  pub client : HoldsSome v.clients

-- a pass that is inside, with the value lent to it
abbrev pub IsLent : View → Type 0
IsLent v = (v.inside ≡ true) × (v.hand ≡ false) × (v.spent ≡ false)

module _ {V : Type 0} (tells : V → Told) (past : V → Option (List (List Sector))) (always : V → Type 0) where
  -- what the pass knows, and the slots that it has out
  abbrev Mine : Type 0
  Mine = Me (Option V) View

  abbrev Stepped : Type 0
  Stepped = Step (Option V)

  -- a look at word 0, which was n
  abbrev pub looked : Stepped → Mine → ℕ → Mine → Type 0
  looked st m n m' = (n + 1 < 2 ^ 64) × (m.0.number ≤ n) × (m' ≡ (reads n m.0, m.1))

  -- the pass is inside with the next number, and has the slot with a value that continues what it knew
  abbrev pub Won : Mine → ℕ → Mine → Type 0
  Won m n m' = (y : V) × (m' ≡ (record (enters (tells y) (n + 1) m.0) { hand = true }, (0, Some y) ∷ m.1)) × Continues tells past always m.0 y

  -- a try, which is won where word 0 was as expected
  abbrev pub tried : Stepped → Mine → ℕ → Mine → Type 0
  tried st m n m' = (n + 1 < 2 ^ 64) × (m.0.number ≤ n) × (n ≡ st.first → Won m n m') × (n ≢ st.first → m' ≡ (reads n m.0, m.1))

  -- the empty slot went home
  abbrev pub stowed : Stepped → Mine → ℕ → Mine → Type 0
  stowed st m n m' = m' ≡ (record m.0 { hand = false }, [])

  -- the pass told the length of the history that it leaves, and has the empty slot
  abbrev pub told : Stepped → Mine → ℕ → Mine → Type 0
  told st m n m' = (y : V) → st.said ≡ some (Some y)
      → m' ≡ (record m.0 { clients = renewed (tells y).entries m.0.clients; front = (tells y).entries; counts = (tells y).counts; hand = true }, (0, None) ∷ [])

  -- both fronts begin the one that the pass knows from now on
  abbrev pub compared : Stepped → Mine → ℕ → Mine → Type 0
  compared st m n m' = (m' ≡ (settled m.0, m.1)) × IsPrefixOf m.0.front m'.0.front × IsPrefixOf m.0.also m'.0.front

  -- the slot with the value went home, and the pass outside
  abbrev pub released : Stepped → Mine → ℕ → Mine → Type 0
  released st m n m' = (m.0.number + 2 < 2 ^ 64) × (m' ≡ (record m.0 { number = m.0.number + 1; inside = false; hand = false }, []))
