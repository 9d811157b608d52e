-- Partitions that are used, one after the other.
use Rattle.std.proofs.Common.{◌≡◌, ℕ, ◌<◌, Bool, true, ◌&&◌, ◌||◌, List, [], ◌∷◌, ◌++◌, append_assoc, get_or, refl, sym, ap, subst, ◌∙◌, arith}
use Rattle.std.specs.Prelude.{◌==◌, not, nat_lt, All}
use Rattle.std.specs.List.{list_any}
use Rattle.std.proofs.lemmas.Bool.{eqb-true}
use Rattle.std.proofs.lemmas.Bool.Decides.{nat_tests}
use Rattle.std.proofs.lemmas.List.Folds.{list_any-append, Any-from_list_any}
use Rattle.lvm_num.specs.declared.place.Pp.{Pp}
use Rattle.lvm_num.specs.declared.descriptor.PvRow.{PvRow}
use Rattle.lvm_num.specs.Descriptor.{IsMember}
use Rattle.lvm_num.specs.DescriptorBytes.{is_at}
use Rattle.lvm_num.proofs.Booleans.{or_false}
use Rattle.lvm_vgda.specs.declared.used.UsedPps.{UsedPps}
use Rattle.lvm_vgda.specs.Used.{has, Uses}
use Rattle.lvm_vgda.proofs.passed.Fields.{both}

pub uses-more : (old new : UsedPps) (pps own : List Pp) (pp : Pp) → Uses old (pps ++ own)
    → ((disk other : ℕ) → other < 1016 → has new disk other ≡ has old disk other || is_at pp disk other) → Uses new (pps ++ (own ++ pp ∷ []))
uses-more old new pps own pp before step disk other lt =
    let one : list_any (λ (p : Pp). is_at p disk other) (pp ∷ []) ≡ is_at pp disk other = or_false (is_at pp disk other) in
    step disk other lt
    ∙ ap (λ b. b || is_at pp disk other) (before disk other lt)
    ∙ ap (λ b. list_any (λ (p : Pp). is_at p disk other) (pps ++ own) || b) (sym one)
    ∙ sym (list_any-append (λ (p : Pp). is_at p disk other) (pps ++ own) (pp ∷ []))
    ∙ ap (list_any (λ (p : Pp). is_at p disk other)) (append_assoc pps own (pp ∷ []))

-- a partition that a member has
pub its_member : (members : List PvRow) (disk pp : ℕ) → All IsMember members → list_any (λ (row : PvRow). row.disk == disk && nat_lt pp row.pps) members ≡ true
    → (disk < 128) × (pp < 1016)
its_member members disk pp all some =
    let found = Any-from_list_any (λ (row : PvRow). row.disk == disk && nat_lt pp row.pps) members some in
    let row : PvRow = found.1 in
    let there : get_or members found.0 found.1 ≡ found.1 = found.3 in
    let is : IsMember found.1 = subst IsMember there (all found.0 found.1 found.2) in
    let tests = both (found.1.disk == disk) (nat_lt pp found.1.pps) found.4 in
    let same : found.1.disk ≡ disk = eqb-true found.1.disk disk tests.0 in
    let below : pp < found.1.pps = lt_of pp found.1.pps tests.1 in
    (omega (arith, is.disk, same), omega (arith, is.partitions, below))
  where
    lt_of : (m n : ℕ) → nat_lt m n ≡ true → m < n
    lt_of m n e = grind (arith, nat_tests)

pub free_is : (has x y : Bool) → has ≡ true → x ≡ y → not x ≡ has && not y
free_is has x y p q = rw (p, q) refl
