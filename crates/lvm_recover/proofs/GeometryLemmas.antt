-- A sector is a block of one copy.
use Rattle.std.proofs.Common.{◌≡◌, ℕ, zero, ◌*◌, ◌/◌, ◌%◌, ◌<◌, sym, ap, subst, ◌∙◌, arith}
use Rattle.std.proofs.Math.Nat.{mod-lt}
use Rattle.lvm_num.specs.declared.place.Pp.{Pp}
use Rattle.lvm_num.specs.declared.descriptor.LvRow.{LvRow}
use Rattle.lvm_num.specs.declared.descriptor.Descriptor.{Descriptor}
use Rattle.lvm_num.specs.Descriptor.{IsValid, copies_of}
use Rattle.lvm_num.specs.Geometry.{partition_blocks, sector_of}
use Rattle.lvm_kept.specs.Group.{IsBlockOf, IsOneOf}
use Rattle.lvm_even.proofs.passed.Commit.{partition_is, one_place}
use Rattle.lvm_even.proofs.Rows.{mib_positive}

-- two blocks with one partition and one rest
same_block : (size a b : ℕ) → zero < size → a / size ≡ b / size → a % size ≡ b % size → a ≡ b
same_block size a b some parts rests = grind (arith)

pub record IsSame (p q : Pp) (row other : LvRow) (lp at b block : ℕ) : Type 0 where
  pub copy_is : p ≡ q
  pub row_is : row ≡ other
  pub lp_is : lp ≡ at
  pub block_is : b ≡ block

-- so two blocks of copies that stand at one place are one
pub one_block : (group : Descriptor) (row other : LvRow) (lp at b block : ℕ) (p q : Pp) → IsValid group → IsOneOf group.lvs row → IsOneOf group.lvs other → IsBlockOf group.mib row lp b → IsBlockOf group.mib other at block
    → IsOneOf (copies_of row lp) p → IsOneOf (copies_of other at) q → q.disk ≡ p.disk → sector_of group.mib q.pp block ≡ sector_of group.mib p.pp b → IsSame p q row other lp at b block
one_block group row other lp at b block p q valid one two inside within copy also disk sector =
    let some = mib_positive group valid in
    let positive : zero < partition_blocks group.mib = omega (arith, some) in
    let low_b : b % partition_blocks group.mib < partition_blocks group.mib = mod-lt b positive in
    let low_block : block % partition_blocks group.mib < partition_blocks group.mib = mod-lt block positive in
    let same : p ≡ q = partition_is group.mib p q b (record { disk = sym disk; low = omega (arith, sector); high = omega (arith, sector, low_block) }) in
    let place = one_place group row other lp at p valid one two copy (subst (IsOneOf (copies_of other at)) (sym same) also) in
    let number : p.pp ≡ q.pp = ap (λ (x : Pp). x.pp) same in
    let starts : partition_blocks group.mib * p.pp ≡ partition_blocks group.mib * q.pp = ap (λ (n : ℕ). partition_blocks group.mib * n) number in
    record {
      copy_is = same;
      row_is = place.row_is;
      lp_is = place.lp_is;
      block_is = same_block (partition_blocks group.mib) b block positive (inside.partition ∙ place.lp_is ∙ sym within.partition) (omega (arith, sector, starts));
    }
