-- Tickets that are used again.
use Rattle.std.specs.Prelude.{◌≡◌, ℕ, ◌<◌, ◌==◌, Bool, true, false, List}
use Rattle.std.specs.Int.{bit_at}
use Rattle.std.specs.List.{list_any}
use Rattle.lvm_disk.specs.Device.{Flight}
use Rattle.lvm_memory.specs.declared.flying.Flying.{Flying}

-- one of the flights has this ticket
abbrev pub has_ticket : ℕ → List Flight → Bool
has_ticket ticket flights = list_any (λ f. f.ticket == ticket) flights

-- the least ticket that none of the flights has
pub record IsLeastFree (ticket : ℕ) (flights : List Flight) : Type 0 where
  pub free : has_ticket ticket flights ≡ false
  pub least : (t : ℕ) → t < ticket → has_ticket t flights ≡ true

-- some transfer has each ticket below n
abbrev pub AllTaken : ℕ → List Flying → Type 0
AllTaken n flights = (t : ℕ) → t < n → list_any (λ (f : Flying). f.ticket == t) flights ≡ true

-- of each ticket below 64 its bit of the word tells whether some transfer has it
abbrev pub AreBitsOf : List Flying → ℕ → Type 0
AreBitsOf flights word = (t : ℕ) → t < 64 → list_any (λ (f : Flying). f.ticket == t) flights ≡ (bit_at word t == 1)
