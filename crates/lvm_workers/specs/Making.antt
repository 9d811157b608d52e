-- What a worker makes, by the entries that are its client's own.
use Rattle.std.specs.Prelude.{◌≡◌, ◌⊎◌, ◌≤◌, ◌+◌, ℕ, ◌++◌, List, [], ◌∷◌}
use Rattle.rand_pcg.specs.Lcg.{Lcg}
use Rattle.lvm_vol.specs.Facts.{Request, Fact, Begun, Taken}
use Rattle.lvm_workers.specs.declared.words.Draw.{Draw}
use Rattle.lvm_workers.specs.Draws.{after_draws, draw_at, seeded}

module _ (asks : ℕ → Draw → Request → Type 0) (g : Lcg) where
  -- So many requests were drawn, and so many of them have begun, each once, in the order in which they were drawn, and behind each its answer was taken.
  pub data Served : ℕ → ℕ → List Fact → Type 0 where
    NoneServed : Served 0 0 []
    OnePassed : {n b : ℕ} {own : List Fact} → Served n b own → Served (n + 1) b own
    OneServed : {n b : ℕ} {own : List Fact} → Served n b own → (r t : Request) → asks n (draw_at (after_draws n g)) r → t.id ≡ r.id → Served (n + 1) (b + 1) (own ++ Begun r ∷ Taken t ∷ [])

  -- the answer of the last one may not be taken
  pub data Made : ℕ → ℕ → List Fact → Type 0 where
    AllAnswered : {n b : ℕ} {own : List Fact} → Served n b own → Made n b own
    OneWaits : {n b : ℕ} {own : List Fact} → Served n b own → (r : Request) → asks n (draw_at (after_draws n g)) r → Made (n + 1) (b + 1) (own ++ Begun r ∷ [])

-- These are the client's own entries that makes so many requests, drawn from the seed, or fewer where it may end early; and of them so many have begun.
pub record HasMade (asks : ℕ → Draw → Request → Type 0) (MayEnd : Type 0) (seed requests begun : ℕ) (own : List Fact) : Type 0 where
  pub drawn : ℕ
  pub most : drawn ≤ requests
  pub whole : (drawn ≡ requests) ⊎ MayEnd
  pub made : Made asks (seeded seed) drawn begun own
