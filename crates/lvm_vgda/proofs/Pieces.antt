-- Bytes that are written one piece after the other.
use Rattle.std.proofs.Common.{◌≡◌, ℕ, ◌+◌, ◌<◌, List, ◌++◌, append_assoc, length, get_or, take, sym, ap, ◌∙◌, arith}
use Rattle.std.specs.Prelude.{flat_map}
use Rattle.lvm_num.proofs.Lists.{pieces-more}

pub written-more : {X : Type 0} (f : X → List ℕ) (xs : List X) (k : ℕ) (x : X) (front out new last : List ℕ) → k < length xs
    → out ≡ front ++ flat_map f (take k xs) → new ≡ out ++ last → last ≡ f x → x ≡ get_or xs k x → new ≡ front ++ flat_map f (take (k + 1) xs)
written-more f xs k x front out new last lt before here is item =
    let piece : last ≡ f (get_or xs k x) = is ∙ ap f item in
    let old : new ≡ (front ++ flat_map f (take k xs)) ++ last = here ∙ ap (λ (l : List ℕ). l ++ last) before in
    let assoc : new ≡ front ++ (flat_map f (take k xs) ++ last) = old ∙ append_assoc front (flat_map f (take k xs)) last in
    let more : flat_map f (take k xs) ++ last ≡ flat_map f (take (k + 1) xs) = ap (λ (l : List ℕ). flat_map f (take k xs) ++ l) piece ∙ sym (pieces-more f xs k x lt) in
    assoc ∙ ap (λ (l : List ℕ). front ++ l) more
