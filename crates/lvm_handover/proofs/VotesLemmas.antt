-- Votes of sets of members.
use Rattle.std.proofs.Common.{◌≡◌, ℕ, Bool, true, false, nat_lt, List, [], ◌∷◌, if◌then◌else◌, ap, refl, arith}
use Rattle.std.specs.List.{sum_by, AllByRecursion}
use Rattle.std.proofs.lemmas.Bool.Decides.{nat_tests}
use Rattle.std.proofs.lemmas.List.Sums.{sum_by-cons}
use Rattle.lvm_num.specs.declared.descriptor.Descriptor.{Descriptor}
use Rattle.lvm_num.specs.declared.descriptor.PvRow.{PvRow}
use Rattle.lvm_num.specs.Disks.{Disks}
use Rattle.lvm_num.specs.Votes.{is_enough_to_write, total_votes, votes_of}

pub each_row : (P : PvRow → Type 0) → ((r : PvRow) → P r) → (rows : List PvRow) → AllByRecursion P rows
each_row P all [] = tt
each_row P all (r ∷ rows) = (all r, each_row P all rows)

-- a set without a disk has no votes
pub no_votes : (d : Descriptor) (set : Disks) → ((disk : ℕ) → set disk ≡ false) → (rows : List PvRow) → sum_by (λ (r : PvRow). if set r.disk then votes_of d r.disk else 0) rows ≡ 0
no_votes d set none [] = refl
no_votes d set none (r ∷ rows) =
    let x = sum_by-cons (λ (q : PvRow). if set q.disk then votes_of d q.disk else 0) r rows in
    let rest = no_votes d set none rows in
    let here : (if set r.disk then votes_of d r.disk else 0) ≡ 0 = ap (λ (b : Bool). if b then votes_of d r.disk else 0) (none r.disk) in
    omega (arith, x, rest, here)

-- too few to write
pub not_enough : (d : Descriptor) → is_enough_to_write d 0 ≡ false
not_enough d = by d.quorum (total_votes d)
  where
    by : (b : Bool) (n : ℕ) → (if b then nat_lt n 0 else nat_lt 0 0) ≡ false
    by true n = grind (arith, nat_tests)
    by false n = refl
