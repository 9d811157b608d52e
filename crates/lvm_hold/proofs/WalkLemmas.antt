-- A walk along the chain of a row.
use Rattle.std.proofs.Common.{◌≡◌, ◌+◌, ◌<◌, ◌≤◌, [], ◌∷◌, ℕ, zero, suc, List, Option, Some, None, true, false, refl, sym, ◌∙◌, ap, arith, length, drop, get_or, length-drop}
use Rattle.std.specs.List.{All}
use Rattle.std.proofs.lemmas.List.{get_or-drop, drop-drop}
use Rattle.std.proofs.lemmas.List.Elements.{All-drop}
use Rattle.lvm_hold.specs.declared.queue.Row.{Row}
use Rattle.lvm_hold.specs.Conflicts.{conflicts, IsInGroup}
use Rattle.lvm_hold.specs.Order.{first_conflict}
use Rattle.lvm_hold.specs.Chains.{head_of, first_of, nexts_of, place_in, IsChained}
use Rattle.lvm_hold.proofs.PlaceLemmas.{place_within}
use Rattle.lvm_hold.proofs.ChainLemmas.{Steps, steps, none_in_chain, first_is_there, ascending_drop}

-- the next row of the chain of `this` stands from this place on, and none before is in the way
pub record IsOnTheWay (rows : List Row) (this : Row) (from : ℕ) (next : Option ℕ) : Type 0 where
  pub within : from ≤ length rows
  pub next_is : next ≡ first_of (head_of this.ask) (drop from rows)
  pub same : first_conflict rows this ≡ first_conflict (drop from rows) this

nexts_drop : (from : ℕ) (rows : List Row) → nexts_of (drop from rows) ≡ drop from (nexts_of rows)
nexts_drop zero rows = refl
nexts_drop (suc n) [] = refl
nexts_drop (suc n) (row ∷ rows) = nexts_drop n rows

module _ (rows : List Row) (nexts heads : List (Option ℕ)) (this : Row) (all : IsChained rows nexts heads) (group : IsInGroup this.ask) (from : ℕ) where
  groups_from : All (λ (row : Row). IsInGroup row.ask) (drop from rows)
  groups_from = All-drop (λ (row : Row). IsInGroup row.ask) from rows all.groups

  -- at the end of the chain
  pub walk_ends : IsOnTheWay rows this from None → first_conflict rows this ≡ None
  walk_ends way = way.same ∙ none_in_chain (drop from rows) this groups_from group (sym way.next_is)

  module _ (id : ℕ) (way : IsOnTheWay rows this from (Some id)) where
    -- the next of the chain is there
    pub walk_finds : place_in id (drop from rows) ≡ None → ⊥
    walk_finds none = first_is_there (head_of this.ask) id (drop from rows) (sym way.next_is) none

    module _ (k : ℕ) (at : place_in id (drop from rows) ≡ Some k) where
      its_step : Steps (drop from rows) this id k
      its_step = steps (drop from rows) this id k (ascending_drop from rows all.ascending) groups_from group (sym way.next_is) at

      pub walk_within : from + k < length rows
      walk_within = omega (arith, place_within (drop from rows) id k at, length-drop from rows, way.within)

      pub walk_stops : this.id ≤ id → first_conflict rows this ≡ None
      walk_stops past = way.same ∙ its_step.stop past

      pub walk_hits : (d : Row) → id < this.id → conflicts (get_or rows (from + k) d).ask this.ask ≡ true → first_conflict rows this ≡ Some id
      walk_hits d less conflict = way.same ∙ its_step.hit d less (ap (λ (r : Row). conflicts r.ask this.ask) (get_or-drop from rows k d) ∙ conflict)

      pub walk_goes : (d : Row) → conflicts (get_or rows (from + k) d).ask this.ask ≡ false → IsOnTheWay rows this (from + k + 1) (get_or nexts (from + k) None)
      walk_goes d free =
          let behind : drop (suc k) (drop from rows) ≡ drop (from + k + 1) rows = drop-drop (suc k) from rows ∙ ap (λ n. drop n rows) (let e : from + suc k ≡ from + k + 1 = omega arith in e) in
          let link : get_or nexts (from + k) None ≡ first_of (head_of this.ask) (drop (suc k) (drop from rows)) =
          ap (λ (ns : List (Option ℕ)). get_or ns (from + k) None) all.nexts_are ∙ sym (get_or-drop from (nexts_of rows) k None)
          ∙ ap (λ (ns : List (Option ℕ)). get_or ns k None) (sym (nexts_drop from rows)) ∙ its_step.next in
          record {
            within = omega (arith, walk_within);
            next_is = link ∙ ap (λ (rs : List Row). first_of (head_of this.ask) rs) behind;
            same = way.same ∙ its_step.go d (ap (λ (r : Row). conflicts r.ask this.ask) (get_or-drop from rows k d) ∙ free) ∙ ap (λ (rs : List Row). first_conflict rs this) behind;
          }

past_cases : (rows : List Row) (nexts heads : List (Option ℕ)) (this : Row) (from id : ℕ) (o : Option ℕ) → IsChained rows nexts heads → IsInGroup this.ask → IsOnTheWay rows this from (Some id) → place_in id (drop from rows) ≡ o → this.id ≤ id → first_conflict rows this ≡ None
past_cases rows nexts heads this from id (Some k) all group way at past = walk_stops rows nexts heads this all group from id way k at past
past_cases rows nexts heads this from id None all group way at past = absurd (walk_finds rows nexts heads this all group from id way at)

-- the next of the chain isn't earlier
pub walk_past : (rows : List Row) (nexts heads : List (Option ℕ)) (this : Row) (from id : ℕ) → IsChained rows nexts heads → IsInGroup this.ask → IsOnTheWay rows this from (Some id) → this.id ≤ id → first_conflict rows this ≡ None
walk_past rows nexts heads this from id all group way past = past_cases rows nexts heads this from id (place_in id (drop from rows)) all group way refl past

pub walk_begins : (rows : List Row) (nexts heads : List (Option ℕ)) (this : Row) (head : ℕ) → IsChained rows nexts heads → head ≡ head_of this.ask → head < 2048 → IsOnTheWay rows this 0 (get_or heads head None)
walk_begins rows nexts heads this head all its within = record {
  within = omega arith;
  next_is = all.heads_are head within ∙ ap (λ h. first_of h rows) its;
  same = refl;
}
