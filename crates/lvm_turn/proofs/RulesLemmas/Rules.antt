-- The rule of the turn, where views change.
use Rattle.std.proofs.Common.{◌≡◌, ℕ, ◌<◌, ◌≤◌, ◌⊎◌, true, Option, None, List, [], ◌∷◌, sym, ap, ◌∙◌, subst}
use Rattle.std.specs.Prelude.{if◌then◌else◌}
use mathlib.Core.Option.{some, none, some-injective}
use lib.ListN.{get_elem?}
use Rattle.atomic_table.specs.Table.{State}
use Rattle.lvm_num.specs.Buffer.{Sector}
use Rattle.lvm_vol.specs.Facts.{Fact}
use Rattle.lvm_vol.specs.Fronts.{Told}
use Rattle.lvm_turn.specs.Views.{Fixed, View, HoldsClient}
use Rattle.lvm_turn.specs.Rules.{Fits, IsInside, IsFree, TurnIsTaken, TurnRule}

module _ {V : Type 0} (tells : V → Told) (past : V → Option (List (List Sector))) (always : V → Type 0) where
  -- the pass that is inside has another view
  pub still_taken : (history : List Fact) (best : List ℕ) (turn : ℕ) (s : State (Option V) View) (taken : TurnIsTaken tells past always history best turn s) (words : List ℕ) (views : List View) (id : ℕ) (v w : View)
      → taken.seat ≡ id → get_elem? s.views id ≡ some v → get_elem? views id ≡ some w → w.hand ≡ v.hand → (IsInside history best turn v → IsInside history best turn w)
      → ((j : ℕ) (u : View) → get_elem? views j ≡ some u → u.inside ≡ true → j ≡ id)
      → TurnIsTaken tells past always history best turn record { words = words; homes = s.homes; views = views }
  still_taken history best turn s taken words views id v w here at there hand inside alone =
      let same : taken.view ≡ v = some-injective taken.view v (sym taken.there ∙ ap (λ k. get_elem? s.views k) here ∙ at) in
      record {
        odd = taken.odd;
        seat = id;
        view = w;
        there = there;
        holder = inside (subst (λ (u : View). IsInside history best turn u) same taken.holder);
        alone = alone;
        homes = taken.homes ∙ ap (λ b. (if b then none else some None) ∷ []) (ap (λ (u : View). u.hand) same ∙ sym hand);
      }

  -- other views keep it, where the history, the counts and the turn stay
  pub over_views : (n : ℕ) (root : Fixed) (s : State (Option V) View) (r : TurnRule tells past always n root s) (views : List View) (seat_of : ℕ → ℕ)
      → ((j : ℕ) (v : View) → get_elem? views j ≡ some v → Fits r.history root r.best r.turn n seat_of j v)
      → ((c : ℕ) → 0 < c → c ≤ n → (v : View) × (get_elem? views (seat_of c) ≡ some v) × HoldsClient v.clients c)
      → IsFree tells past always r.history root r.best r.turn (record s { views = views }) ⊎ TurnIsTaken tells past always r.history r.best r.turn (record s { views = views })
      → TurnRule tells past always n root (record s { views = views })
  over_views n root s r views seat_of each placed place =
      record { history = r.history; best = r.best; turn = r.turn; seat_of = seat_of; words = r.words; low = r.low; each = each; placed = placed; place = place }
