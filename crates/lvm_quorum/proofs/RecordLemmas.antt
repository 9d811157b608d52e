-- The newest of one more, and of none.
use Rattle.std.proofs.Common.{◌≡◌, ℕ, zero, suc, ◌+◌, Bool, true, false, Option, Some, None, refl, sym, ap, ◌∙◌, add-one}
use Rattle.std.specs.Prelude.{if◌then◌else◌}
use Rattle.lvm_num.specs.Record.{Stamped, newer, newest_below}

pub newest_more : {X : Type 0} (at : ℕ → Option (Stamped X)) (i : ℕ) (now next : Option (Stamped X)) → now ≡ newest_below at i → next ≡ newer now (at i) → next ≡ newest_below at (i + 1)
unfolding newest_below
newest_more at i now next was is = is ∙ ap (λ o. newer o (at i)) was ∙ ap (newest_below at) (sym (add-one i))

pub newest_none : {X : Type 0} (at : ℕ → Option (Stamped X)) (n : ℕ) → ((d : ℕ) → at d ≡ None) → newest_below at n ≡ None
unfolding newest_below
newest_none at zero none = refl
newest_none at (suc n) none = ap (λ o. newer o (at n)) (newest_none at n none) ∙ none n

pub newer_none : {X : Type 0} (o : Option (Stamped X)) → newer o None ≡ o
newer_none None = refl
newer_none (Some r) = refl

pub picked : {X : Type 0} (b : Bool) (x y : X) → b ≡ true → (if b then x else y) ≡ x
picked true x y e = refl
picked false x y e = absurd cc

pub left_out : {X : Type 0} (b : Bool) (x y : X) → b ≡ false → (if b then x else y) ≡ y
left_out true x y e = absurd cc
left_out false x y e = refl
