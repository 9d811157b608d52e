-- The places of the table at which an event of a kind may be due.
use Rattle.std.specs.Prelude.{◌≡◌, ◌≤◌, ◌<◌, ◌+◌, ℕ, Bool, true, false, ◌&&◌, nat_le, nat_lt, List, Option, Some, None, length, slice_get}
use Rattle.lvm_due.specs.passed.Session.{Event, Open}
use Rattle.lvm_due.specs.declared.span.Span.{Span}

-- it is one of these places
abbrev pub is_in : Span → ℕ → Bool
is_in s k = nat_le s.from k && nat_lt k s.to

-- No request at another place makes an event of this kind.
pub record Spans (make : ℕ → Open → Option Event) (requests : List Open) (s : Span) : Type 0 where
  pub within : s.to ≤ length requests
  pub none : (k : ℕ) (o : Open) → slice_get requests k ≡ Some o → is_in s k ≡ false → make k o ≡ None

-- a place is added, and no other behind it
pub record Adds (place : ℕ) (old new : Span) : Type 0 where
  pub wider : (k : ℕ) → is_in old k ≡ true → is_in new k ≡ true
  pub has : is_in new place ≡ true
  pub within : (n : ℕ) → old.to ≤ n → place < n → new.to ≤ n

-- each place but one is there still, and no other behind them
pub record Skips (place : ℕ) (old new : Span) : Type 0 where
  pub others : (k : ℕ) → (k ≡ place → ⊥) → is_in old k ≡ true → is_in new k ≡ true
  pub within : new.to ≡ old.to

-- each place is there still, and the one before each, but those behind so many
pub record Shifts (len : ℕ) (old new : Span) : Type 0 where
  pub same : (k : ℕ) → k < len → is_in old k ≡ true → is_in new k ≡ true
  pub before : (k : ℕ) → k < len → is_in old (k + 1) ≡ true → is_in new k ≡ true
  pub within : new.to ≤ len
