-- The requests of clients, counted by client.
use Rattle.std.specs.Prelude.{◌≤◌, ◌+◌, ℕ, zero, suc, List, [], ◌∷◌, length}
use Rattle.lvm_vol.specs.Facts.{Fact, Begun, begun}
use Rattle.lvm_vol.specs.Fronts.{own}

-- the entry begins no request, or one of the clients 1 to n
abbrev pub IsOfClients : ℕ → Fact → Type 0
IsOfClients n (Begun r) = (1 ≤ r.client) × (r.client ≤ n)
IsOfClients n _ = Unit {0}

-- so does each
abbrev pub AreOfClients : ℕ → List Fact → Type 0
AreOfClients n [] = Unit {0}
AreOfClients n (f ∷ facts) = IsOfClients n f × AreOfClients n facts

-- the sum over the clients 1 to n
abbrev pub sum_to : (ℕ → ℕ) → ℕ → ℕ
sum_to f zero = 0
sum_to f (suc n) = sum_to f n + f (suc n)

-- how many requests a client began
abbrev pub begun_of : List Fact → ℕ → ℕ
begun_of facts c = length (begun (own c facts))
