use Rattle.std.proofs.Common.{◌≡◌, ℕ, false, get_or, ap, ◌∙◌, sym, below_more, arith}
use Rattle.std.specs.Prelude.{◌==◌}
use Rattle.std.proofs.lemmas.Bool.{eq-eqb}
use Rattle.std.proofs.lemmas.Bool.Decides.{nat_tests}
use Rattle.lvm_num.specs.Geometry.{partition_count}
use Rattle.lvm_group.specs.NewGroup.{sectors_on}
use Rattle.lvm_group.proofs.NewGroupLemmas.Groups.{is_there, size_at}
use Rattle.lvm_group.proofs.NewGroupLemmas.Searches.{found_at, found_none}
use Rattle.lvm_extend_plan.proofs.checks.first_too_small.Goals as goal

not_zero : (n m : ℕ) → n ≡ m → (n ≡ 0 → ⊥) → m == 0 ≡ false
not_zero n m same some = grind (arith, nat_tests)

pub sectors-requires : goal.sectors-requires
sectors-requires g c = is_there (g.S.Shelf.device c.args.driver.now.0).sizes c.args.disks.now c.requires.there c.loop-disk.disk-index 0 c.loop-disk-test.true

pub returns-then-partitions_on-eq0 : goal.returns-then-partitions_on-eq0
returns-then-partitions_on-eq0 g c =
    let sizes = (g.S.Shelf.device c.args.driver.now.0).sizes in
    let disk = get_or c.args.disks.now c.loop-disk.disk-index 0 in
    let count : c.partitions_on.result ≡ partition_count (sectors_on sizes disk) c.args.mib = c.partitions_on.ensures ∙ ap (λ s. partition_count s c.args.mib) (sym (size_at sizes disk c.sectors.result c.sectors.ensures)) in
    sym (found_at (λ d. partition_count (sectors_on sizes d) c.args.mib == 0) c.args.disks.now c.loop-disk.disk-index c.loop-disk.invariant c.loop-disk-test.true
    (eq-eqb _ 0 (sym count ∙ c.if-partitions_on-eq0.true)))

pub loop-disk-preserved : goal.loop-disk-preserved
loop-disk-preserved g c =
    let sizes = (g.S.Shelf.device c.args.driver.now.0).sizes in
    let disk = get_or c.args.disks.now c.loop-disk.disk-index 0 in
    let count : c.partitions_on.result ≡ partition_count (sectors_on sizes disk) c.args.mib = c.partitions_on.ensures ∙ ap (λ s. partition_count s c.args.mib) (sym (size_at sizes disk c.sectors.result c.sectors.ensures)) in
    below_more (λ k. partition_count (sectors_on sizes (get_or c.args.disks.now k 0)) c.args.mib == 0 ≡ false) c.loop-disk.disk-index c.loop-disk.invariant
    (not_zero c.partitions_on.result (partition_count (sectors_on sizes disk) c.args.mib) count c.if-partitions_on-eq0.false)

pub returns : goal.returns
returns g c =
    let sizes = (g.S.Shelf.device c.args.driver.now.0).sizes in
    sym (found_none (λ d. partition_count (sectors_on sizes d) c.args.mib == 0) c.args.disks.now (λ k lt. let past = c.loop-disk-test.false in c.loop-disk.invariant k (omega (arith, lt, past))))
