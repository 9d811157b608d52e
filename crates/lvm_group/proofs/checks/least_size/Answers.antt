use Rattle.std.proofs.Common.{◌≡◌, ℕ, ◌-◌, ◌/◌, ◌≤◌, true, get_or, ap, sym, subst, arith}
use Rattle.std.specs.Prelude.{nat_le, unwrap_or}
use Rattle.std.proofs.lemmas.Bool.Decides.{nat_tests}
use Rattle.lvm_num.specs.Geometry.{data_start, partition_blocks}
use Rattle.lvm_group.specs.NewGroup.{sizes_in_order}
use Rattle.lvm_group.proofs.NewGroupLemmas.Searches.{found_at, found_none}
use Rattle.lvm_group.proofs.checks.least_size.Goals as goal

is_within : (n m : ℕ) → n ≤ m → nat_le n m ≡ true
is_within n m le = grind (arith, nat_tests)

pub returns-then-room_for-le-MOST-clause-least : goal.returns-then-room_for-le-MOST-clause-least
returns-then-room_for-le-MOST-clause-least c =
    let i = c.loop-mib.mib-index in
    let fits : (c.args.sectors - data_start) / partition_blocks (get_or sizes_in_order i 0) ≤ 1016 = subst (λ n. n ≤ 1016) c.room_for.ensures c.if-room_for-le-MOST.true in
    sym (ap (λ o. unwrap_or o 1024) (found_at (λ mib. nat_le ((c.args.sectors - data_start) / partition_blocks mib) 1016) sizes_in_order i c.loop-mib.invariant c.loop-mib-test.true (is_within _ 1016 fits)))

pub returns-clause-least : goal.returns-clause-least
returns-clause-least c =
    sym (ap (λ o. unwrap_or o 1024) (found_none (λ mib. nat_le ((c.args.sectors - data_start) / partition_blocks mib) 1016) sizes_in_order (λ k lt. let past = c.loop-mib-test.false in c.loop-mib.invariant k (omega (arith, lt, past)))))
