-- How many requests a worker's own entries begin.
use Rattle.std.proofs.Common.{◌≡◌, ⊎_elim, inl, inr, ◌+◌, ℕ, List, [], ◌∷◌, ◌++◌, length, length-append, refl, ap, ◌∙◌, arith}
use Rattle.std.proofs.lemmas.List.Elements.{filter_map-append}
use Rattle.rand_pcg.specs.Lcg.{Lcg}
use Rattle.lvm_vol.specs.Facts.{Request, Fact, Begun, Taken, begun, begun_by}
use Rattle.lvm_workers.specs.declared.words.Draw.{Draw}
use Rattle.lvm_workers.specs.Making.{HasMade, Made, AllAnswered, OneWaits, Served, NoneServed, OnePassed, OneServed}

begun_more : (own more : List Fact) (n : ℕ) → length (begun more) ≡ 1 → length (begun own) ≡ n → length (begun (own ++ more)) ≡ n + 1
begun_more own more n one so_far =
    ap length (filter_map-append begun_by own more) ∙ length-append (begun own) (begun more) ∙ (let a = one in let b = so_far in omega arith)

module _ (asks : ℕ → Draw → Request → Type 0) (g : Lcg) where
  pub served_begun : (n b : ℕ) (own : List Fact) → Served asks g n b own → length (begun own) ≡ b
  served_begun n b own NoneServed = refl
  served_begun n b own (OnePassed so_far) = served_begun _ _ _ so_far
  served_begun n b own (OneServed {own = before} so_far r t is same) = begun_more before (Begun r ∷ Taken t ∷ []) _ refl (served_begun _ _ _ so_far)

  pub made_begun : (n b : ℕ) (own : List Fact) → Made asks g n b own → length (begun own) ≡ b
  made_begun n b own (AllAnswered so_far) = served_begun n b own so_far
  made_begun n b own (OneWaits {own = before} so_far r is) = begun_more before (Begun r ∷ []) _ refl (served_begun _ _ _ so_far)

-- whatever lets a client end early that lets this one
pub made_for : (asks : ℕ → Draw → Request → Type 0) (A B : Type 0) → (A → B) → (seed requests b : ℕ) (own : List Fact) → HasMade asks A seed requests b own → HasMade asks B seed requests b own
made_for asks A B to seed requests b own made = record {
  drawn = made.drawn;
  most = made.most;
  whole = ⊎_elim (λ (e : made.drawn ≡ requests). inl e) (λ (a : A). inr (to a)) made.whole;
  made = made.made;
}

pub has_begun : (asks : ℕ → Draw → Request → Type 0) (Ended : Type 0) (seed requests b : ℕ) (own : List Fact) → HasMade asks Ended seed requests b own → length (begun own) ≡ b
has_begun asks Ended seed requests b own made = made_begun asks _ made.drawn b own made.made
