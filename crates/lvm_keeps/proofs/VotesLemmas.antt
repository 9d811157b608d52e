-- More disks have no fewer votes, and with more votes there are still enough to write.
use Rattle.std.proofs.Common.{◌≡◌, ◌≤◌, ◌*◌, ℕ, Bool, true, false, nat_lt, List, [], ◌∷◌, if◌then◌else◌, refl, arith}
use Rattle.std.specs.List.{sum_by, AllByRecursion}
use Rattle.std.proofs.lemmas.Bool.{ltb-true}
use Rattle.std.proofs.lemmas.Bool.Decides.{nat_tests}
use Rattle.std.proofs.lemmas.List.Sums.{sum_by-cons}
use Rattle.lvm_num.specs.declared.descriptor.Descriptor.{Descriptor}
use Rattle.lvm_num.specs.declared.descriptor.PvRow.{PvRow}
use Rattle.lvm_num.specs.Disks.{Disks}
use Rattle.lvm_num.specs.Votes.{is_enough_to_write, total_votes, votes_of}

pub more_votes : (d : Descriptor) (a b : Disks) (rows : List PvRow) → AllByRecursion (λ (r : PvRow). a r.disk ≡ true → b r.disk ≡ true) rows
    → sum_by (λ (r : PvRow). if a r.disk then votes_of d r.disk else 0) rows ≤ sum_by (λ (r : PvRow). if b r.disk then votes_of d r.disk else 0) rows
more_votes d a b [] all = omega arith
more_votes d a b (r ∷ rows) all =
    let x = sum_by-cons (λ (q : PvRow). if a q.disk then votes_of d q.disk else 0) r rows in
    let y = sum_by-cons (λ (q : PvRow). if b q.disk then votes_of d q.disk else 0) r rows in
    let rest = more_votes d a b rows all.1 in
    let here = one (a r.disk) (b r.disk) (votes_of d r.disk) all.0 in
    omega (arith, x, y, rest, here)
  where
    one : (p q : Bool) (n : ℕ) → (p ≡ true → q ≡ true) → (if p then n else 0) ≤ (if q then n else 0)
    one true true n e = omega arith
    one true false n e = absurd (let no : false ≡ true = e refl in cc no)
    one false q n e = omega arith

pub enough_more : (d : Descriptor) (m n : ℕ) → m ≤ n → is_enough_to_write d m ≡ true → is_enough_to_write d n ≡ true
enough_more d m n less = by d.quorum
  where
    by : (b : Bool) → (if b then nat_lt (total_votes d) (2 * m) else nat_lt 0 m) ≡ true → (if b then nat_lt (total_votes d) (2 * n) else nat_lt 0 n) ≡ true
    by true e = let low = ltb-true (total_votes d) (2 * m) e in grind (arith, nat_tests, low, less)
    by false e = let low = ltb-true 0 m e in grind (arith, nat_tests, low, less)
