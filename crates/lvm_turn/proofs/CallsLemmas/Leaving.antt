-- What a pass may leave, and what is its own afterwards.
use Rattle.std.proofs.Common.{◌≡◌, ℕ, Option, List, [], ◌++◌, ap, sym, subst, ◌∙◌}
use Rattle.std.proofs.lemmas.List.{append-nil}
use Rattle.lvm_num.specs.Buffer.{Sector}
use Rattle.lvm_vol.specs.Facts.{Fact}
use Rattle.lvm_vol.specs.Fronts.{Told, own, NoneFell}
use Rattle.lvm_vol.proofs.FrontsLemmas.{own-append}
use Rattle.lvm_turn.specs.Views.{View, Owns, HoldsClient}
use Rattle.lvm_turn.specs.Rules.{fixed_of}
use Rattle.lvm_turn.specs.Calls.{HasEntered, Continues, MayLeave}

module _ {V : Type 0} (tells : V → Told) (past : V → Option (List (List Sector))) (always : V → Type 0) where
  -- The pass v was lent y, and is w since. What y has become may be left, where only entries of the pass's
  -- own clients, or of none, were added.
  pub may_leave : (v w : View) (y z : V) (more : List Fact) → HasEntered v (tells y) w → Continues tells past always v y
      → (tells z).entries ≡ (tells y).entries ++ more → ((c : ℕ) → ¬ HoldsClient v.clients c → own c more ≡ [])
      → fixed_of tells past z ≡ fixed_of tells past y → NoneFell (tells y).counts (tells z).counts → always z → MayLeave tells past always w z
  may_leave v w y z more entered lent grew others fixed_same none_fell holds =
      subst (λ u. MayLeave tells past always u z) (sym entered.view) record {
        front = (more, grew);
        own_only = λ c absent. ap (own c) grew ∙ own-append c (tells y).entries more ∙ ap (λ l. own c (tells y).entries ++ l) (others c absent) ∙ append-nil (own c (tells y).entries);
        fixed_same = fixed_same ∙ lent.fixed_same;
        none_fell = none_fell;
        always_holds = holds;
      }

  -- what is a client's own in the value that is left: what was its own before, and what was added of it
  pub own_left : (v : View) (y z : V) (more : List Fact) (c : ℕ) (l : List Fact) → Continues tells past always v y → (tells z).entries ≡ (tells y).entries ++ more
      → Owns v.clients c l → own c (tells z).entries ≡ l ++ own c more
  own_left v y z more c l lent grew owns = ap (own c) grew ∙ own-append c (tells y).entries more ∙ ap (λ (xs : List Fact). xs ++ own c more) (lent.own_entries c l owns)
