-- A flight ends.
use Rattle.std.proofs.Common.{◌≡◌, ◌<◌, ◌≤◌, [], ◌∷◌, ℕ, zero, suc, List, Some, slice_get, slice_set, length, drop, refl, ap, arith}
use Rattle.std.specs.List.{remove}
use Rattle.lvm_num.specs.Buffer.{Sector}
use Rattle.lvm_disk.specs.Device.{Flight}
use Rattle.lvm_disk.specs.Steps.{Removes}
use Rattle.lvm_memory.specs.Flights.{AllLie}

-- one of the flights is taken out
pub removed : (l : List Flight) (i : ℕ) (f : Flight) → slice_get l i ≡ Some f → Removes f l (remove l i)
removed [] i f is = absurd (cc)
removed (g ∷ l) zero f is = let e : g ≡ f = cc in record { before = []; after = l; was = ap (λ (h : Flight). h ∷ l) e; is = refl }
removed (g ∷ l) (suc i) f is =
    let less = removed l i f is in
    record { before = g ∷ less.before; after = less.after; was = ap (λ (m : List Flight). g ∷ m) less.was; is = ap (λ (m : List Flight). g ∷ m) less.is }

pub lie_less : (sizes : List ℕ) (l : List Flight) (i : ℕ) → AllLie sizes l → AllLie sizes (remove l i)
lie_less sizes [] zero each j f is = each j f is
lie_less sizes [] (suc i) each j f is = each j f is
lie_less sizes (g ∷ l) zero each j f is = each (suc j) f is
lie_less sizes (g ∷ l) (suc i) each zero f is = each zero f is
lie_less sizes (g ∷ l) (suc i) each (suc j) f is = lie_less sizes l i (λ k. each (suc k)) j f is

pub length-less : (l : List Flight) (i : ℕ) → length (remove l i) ≤ length l
length-less [] zero = omega arith
length-less [] (suc i) = omega arith
length-less (g ∷ l) zero = omega arith
length-less (g ∷ l) (suc i) = let less = length-less l i in omega arith

-- one of the first sectors of a buffer is written over
pub set_drop : (l : List Sector) (i n : ℕ) (x : Sector) → i < n → drop n (slice_set l i x) ≡ drop n l
set_drop [] i n x below = refl
set_drop (y ∷ l) i zero x below = absurd (omega arith)
set_drop (y ∷ l) zero (suc n) x below = refl
set_drop (y ∷ l) (suc i) (suc n) x below = set_drop l i n x (omega arith)
