-- What options keep that are read one after another.
use Rattle.std.proofs.Common.{◌≡◌, ◌∷◌, [], ℕ, List, Bool, true, false, Option, Some, None, Result, Ok, if◌then◌else◌, refl, subst}
use Rattle.std.specs.Option.{option_map}
use Rattle.lvm_parse.specs.declared.rest.Misfit.{Misfit}
use Rattle.lvm_parse.specs.Line.{WordAt, Left}
use Rattle.lvm_parse.specs.Reading.{misfit, then_, or_misfit, Choice, NoOption, Alone, Valued, options_of}

-- a value that is made of what was found
pub mapped : {X Y : Type 0} (P : Y → Type 0) (f : X → Y) (found : Option X) (after : Y) → ((x : X) → found ≡ Some x → P (f x)) → option_map f found ≡ Some after → P after
mapped {X} {Y} P f (Some x) after holds is = let e : f x ≡ after = cc (is) in subst P e (holds x refl)
mapped P f None after holds is = absurd (cc (is))

module _ {O : Type 0} (P : O → Type 0) where
  -- the option makes such options of such ones
  abbrev pub Keeping : Choice O → Type 0
  Keeping NoOption = Unit {0}
  Keeping (Alone o) = P o
  Keeping (Valued read) = (word : List ℕ) (o : O) → read word ≡ Some o → P o

  pub keeping_if : (b : Bool) (x y : Choice O) → Keeping x → Keeping y → Keeping (if b then x else y)
  keeping_if true x y fx fy = fx
  keeping_if false x y fx fy = fy

  module _ (choice : O → List ℕ → Choice O) (keeps : (o : O) (word : List ℕ) → P o → Keeping (choice o word)) where
    pub options_keep : (o : O) (words : List WordAt) (end : ℕ) (v : O × Left) → P o → options_of choice o words end ≡ Ok v → P v.0
    options_keep o [] end v holds is = let e : ◌≡◌ {A = O × Left} (o, record { words = []; end = end }) v = cc (is) in subst (λ (x : O × Left). P x.0) e holds
    options_keep o (w ∷ []) end v holds is = go (choice o w.bytes) (keeps o w.bytes holds) is
      where
        go : (c : Choice O) → Keeping c → ◌≡◌ {A = Result (O × Left) Misfit} (elim c [ NoOption ↦ Ok (o, record { words = w ∷ []; end = end }) | Alone with ↦ Ok (with, record { words = []; end = end }) | Valued read ↦ misfit end ]) (Ok v) → P v.0
        go NoOption fits same = let e : ◌≡◌ {A = O × Left} (o, record { words = w ∷ []; end = end }) v = cc (same) in subst (λ (x : O × Left). P x.0) e holds
        go (Alone with) fits same = let e : ◌≡◌ {A = O × Left} (with, record { words = []; end = end }) v = cc (same) in subst (λ (x : O × Left). P x.0) e fits
        go (Valued read) fits same = absurd (cc (same))
    options_keep o (w ∷ x ∷ words) end v holds is = go (choice o w.bytes) (keeps o w.bytes holds) (λ next fits. options_keep next (x ∷ words) end v fits) (λ next fits. options_keep next words end v fits) is
      where
        go : (c : Choice O) → Keeping c → ((next : O) → P next → options_of choice next (x ∷ words) end ≡ Ok v → P v.0) → ((next : O) → P next → options_of choice next words end ≡ Ok v → P v.0)
            → ◌≡◌ {A = Result (O × Left) Misfit} (elim c [ NoOption ↦ Ok (o, record { words = w ∷ x ∷ words; end = end }) | Alone with ↦ options_of choice with (x ∷ words) end | Valued read ↦ then_ (or_misfit (read x.bytes) x.column) (λ with. options_of choice with words end) ]) (Ok v)
            → P v.0
        go NoOption fits one two same = let e : ◌≡◌ {A = O × Left} (o, record { words = w ∷ x ∷ words; end = end }) v = cc (same) in subst (λ (y : O × Left). P y.0) e holds
        go (Alone with) fits one two same = one with fits same
        go (Valued read) fits one two same = of_value (read x.bytes) refl same
          where
            of_value : (found : Option O) → read x.bytes ≡ found → then_ (or_misfit found x.column) (λ with. options_of choice with words end) ≡ Ok v → P v.0
            of_value (Some with) found rest = two with (fits x.bytes with found) rest
            of_value None found rest = absurd (cc (rest))
