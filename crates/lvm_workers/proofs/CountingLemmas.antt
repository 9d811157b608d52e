-- The requests of clients, counted by client.
use Rattle.std.proofs.Common.{◌≡◌, ◌≤◌, ◌<◌, ◌+◌, ◌==◌, ℕ, zero, suc, Bool, true, false, cond, List, [], ◌∷◌, ◌++◌, length, refl, sym, ap, ◌∙◌, inl, inr, arith, eq-eqb, ne_eqb}
use mathlib.Core.Logic.{dite}
use native.Mathlib.Decide.{ℕ_discrete}
use Rattle.lvm_vol.specs.Facts.{Fact, Making, Made, Split, Removing, Removed, Begun, Landed, Taken, Cut, On, begun}
use Rattle.lvm_vol.specs.Fronts.{own}
use Rattle.lvm_turn.specs.Views.{Client, Owns, counted, numbers}
use Rattle.lvm_workers.specs.Counting.{AreOfClients, IsOfClients, begun_of, sum_to}
use Rattle.lvm_workers.specs.Crews.{begun_over}

-- ---- sums

sum_plus : (f g : ℕ → ℕ) (n : ℕ) → sum_to (λ c. f c + g c) n ≡ sum_to f n + sum_to g n
sum_plus f g zero = omega arith
sum_plus f g (suc n) = let rest = sum_plus f g n in omega (arith, rest)

pub sum_same : (f g : ℕ → ℕ) → ((c : ℕ) → f c ≡ g c) → (n : ℕ) → sum_to f n ≡ sum_to g n
sum_same f g same zero = refl
sum_same f g same (suc n) = let rest = sum_same f g same n in let one = same (suc n) in omega (arith, rest, one)

abbrev is_at : ℕ → ℕ → ℕ
is_at k c = cond (k == c) 1 0

sum_none : (k n : ℕ) → n < k → sum_to (is_at k) n ≡ 0
sum_none k zero low = refl
sum_none k (suc n) low =
    let rest = sum_none k n (omega arith) in
    let one : is_at k (suc n) ≡ 0 = ap (λ b. cond b 1 0) (ne_eqb k (suc n) (λ e. omega arith)) in
    omega (arith, rest, one)

sum_one : (k n : ℕ) → 1 ≤ k → k ≤ n → sum_to (is_at k) n ≡ 1
sum_one k zero some few = absurd (omega arith)
sum_one k (suc n) some few = dite (ℕ_discrete k (suc n))
    (λ (e : k ≡ suc n).
    let rest = sum_none k n (omega arith) in
    let one : is_at k (suc n) ≡ 1 = ap (λ b. cond b 1 0) (eq-eqb k (suc n) e) in
    omega (arith, rest, one))
    (λ apart.
    let rest = sum_one k n some (omega arith) in
    let one : is_at k (suc n) ≡ 0 = ap (λ b. cond b 1 0) (ne_eqb k (suc n) apart) in
    omega (arith, rest, one))

-- ---- requests that began

abbrev ticks : Fact → ℕ → ℕ
ticks (Begun r) c = is_at r.client c
ticks _ c = 0

begun_by_own : (f : Fact) (facts : List Fact) (c : ℕ) → begun_of (f ∷ facts) c ≡ ticks f c + begun_of facts c
begun_by_own (Begun r) facts c = by (r.client == c)
  where
    by : (b : Bool) → length (begun (cond b (Begun r ∷ own c facts) (own c facts))) ≡ cond b 1 0 + length (begun (own c facts))
    by true = omega arith
    by false = omega arith
begun_by_own (Taken r) facts c = by (r.client == c)
  where
    by : (b : Bool) → length (begun (cond b (Taken r ∷ own c facts) (own c facts))) ≡ 0 + length (begun (own c facts))
    by true = omega arith
    by false = omega arith
begun_by_own (Making lv blocks m) facts c = omega arith
begun_by_own (Made lv) facts c = omega arith
begun_by_own (Split from lv) facts c = omega arith
begun_by_own (Removing vol) facts c = omega arith
begun_by_own (Removed vol) facts c = omega arith
begun_by_own (Landed r how started got) facts c = omega arith
begun_by_own Cut facts c = omega arith
begun_by_own (On moment) facts c = omega arith

sum_zero : (n : ℕ) → sum_to (λ c. 0) n ≡ 0
sum_zero zero = refl
sum_zero (suc n) = let rest = sum_zero n in omega (arith, rest)

-- all that began are those of the clients
pub begun_by_client : (n : ℕ) (facts : List Fact) → AreOfClients n facts → length (begun facts) ≡ sum_to (begun_of facts) n
begun_by_client n [] all = sym (sum_zero n)
begun_by_client n (f ∷ facts) all =
    let rest = begun_by_client n facts all.1 in
    let split : sum_to (begun_of (f ∷ facts)) n ≡ sum_to (ticks f) n + sum_to (begun_of facts) n =
    sum_same (begun_of (f ∷ facts)) (λ c. ticks f c + begun_of facts c) (begun_by_own f facts) n ∙ sum_plus (ticks f) (begun_of facts) n in
    by f all.0 rest split
  where
    none : (g : Fact) → length (begun (g ∷ facts)) ≡ length (begun facts) → ((c : ℕ) → ticks g c ≡ 0) → length (begun facts) ≡ sum_to (begun_of facts) n
        → sum_to (begun_of (g ∷ facts)) n ≡ sum_to (ticks g) n + sum_to (begun_of facts) n → length (begun (g ∷ facts)) ≡ sum_to (begun_of (g ∷ facts)) n
    none g same zeros rest split = let nothing = sum_same (ticks g) (λ c. 0) zeros n ∙ sum_zero n in omega (arith, same, rest, split, nothing)

    by : (g : Fact) → IsOfClients n g → length (begun facts) ≡ sum_to (begun_of facts) n → sum_to (begun_of (g ∷ facts)) n ≡ sum_to (ticks g) n + sum_to (begun_of facts) n
        → length (begun (g ∷ facts)) ≡ sum_to (begun_of (g ∷ facts)) n
    by (Begun r) its rest split = let one = sum_one r.client n its.0 its.1 in omega (arith, rest, split, one)
    by (Taken r) its rest split = none (Taken r) refl (λ c. refl) rest split
    by (Making lv blocks m) its rest split = none (Making lv blocks m) refl (λ c. refl) rest split
    by (Made lv) its rest split = none (Made lv) refl (λ c. refl) rest split
    by (Split from lv) its rest split = none (Split from lv) refl (λ c. refl) rest split
    by (Removing vol) its rest split = none (Removing vol) refl (λ c. refl) rest split
    by (Removed vol) its rest split = none (Removed vol) refl (λ c. refl) rest split
    by (Landed r how started got) its rest split = none (Landed r how started got) refl (λ c. refl) rest split
    by Cut its rest split = none Cut refl (λ c. refl) rest split
    by (On moment) its rest split = none (On moment) refl (λ c. refl) rest split

-- ---- clients that own what the history has of them

abbrev sum_numbers : (ℕ → ℕ) → List ℕ → ℕ
sum_numbers f [] = 0
sum_numbers f (x ∷ xs) = f x + sum_numbers f xs

sum_numbers-push : (f : ℕ → ℕ) (xs : List ℕ) (y : ℕ) → sum_numbers f (xs ++ y ∷ []) ≡ sum_numbers f xs + f y
sum_numbers-push f [] y = omega arith
sum_numbers-push f (x ∷ xs) y = let h = sum_numbers-push f xs y in omega (arith, h)

sum_counted : (f : ℕ → ℕ) (n : ℕ) → sum_numbers f (counted n) ≡ sum_to f n
sum_counted f zero = refl
sum_counted f (suc n) = sum_numbers-push f (counted n) (suc n) ∙ ap (λ k. k + f (suc n)) (sum_counted f n)

over_numbers : (facts : List Fact) (xs : List Client) → ((c : ℕ) (l : List Fact) → Owns xs c l → own c facts ≡ l) → begun_over xs ≡ sum_numbers (begun_of facts) (numbers xs)
over_numbers facts [] owned = refl
over_numbers facts (x ∷ xs) owned =
    let one : length (begun x.own) ≡ begun_of facts x.number = ap (λ (l : List Fact). length (begun l)) (sym (owned x.number x.own (inl (refl, refl)))) in
    let rest = over_numbers facts xs (λ c l o. owned c l (inr o)) in
    omega (arith, one, rest)

-- the requests that the clients 1 to n began
pub begun_over_all : (n : ℕ) (facts : List Fact) (xs : List Client) → numbers xs ≡ counted n → ((c : ℕ) (l : List Fact) → Owns xs c l → own c facts ≡ l) → begun_over xs ≡ sum_to (begun_of facts) n
begun_over_all n facts xs all owned = over_numbers facts xs owned ∙ ap (sum_numbers (begun_of facts)) all ∙ sum_counted (begun_of facts) n
