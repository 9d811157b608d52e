-- Partitions that are one.
use Rattle.std.proofs.Common.{◌≡◌, true, ◌&&◌, ap}
use Rattle.std.specs.Prelude.{◌==◌}
use Rattle.std.proofs.lemmas.Bool.{and_parts, eqb-true, eq-eqb}
use Rattle.lvm_num.specs.declared.place.Pp.{Pp}
use Rattle.lvm_num.specs.Descriptor.{is_pp}

pub one_partition : (a b : Pp) → is_pp a b ≡ true → a ≡ b
one_partition a b is =
    let parts = and_parts (a.disk == b.disk) (a.pp == b.pp) is in
    let disk : a.disk ≡ b.disk = eqb-true a.disk b.disk parts.0 in
    let pp : a.pp ≡ b.pp = eqb-true a.pp b.pp parts.1 in
    λ t. record { disk = disk t; pp = pp t }

pub same_partition : (a b : Pp) → a ≡ b → is_pp a b ≡ true
same_partition a b same =
    let disk : a.disk == b.disk ≡ true = eq-eqb a.disk b.disk (ap (λ (p : Pp). p.disk) same) in
    let pp : a.pp == b.pp ≡ true = eq-eqb a.pp b.pp (ap (λ (p : Pp). p.pp) same) in
    λ t. disk t && pp t
