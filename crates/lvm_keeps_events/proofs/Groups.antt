-- Track groups: a copy that is whole has passed each of its logical partition.
use Rattle.std.proofs.Common.{◌%◌, ◌*◌, ◌+◌, ◌/◌, ◌<◌, ◌≡◌, ◌≤◌, arith, false, nat_lt, not, suc, true, zero, ℕ}
use Rattle.std.proofs.lemmas.Bool.{lt-ltb, ltb-false}
use Rattle.std.proofs.lemmas.Nat.{mod_below}
use Rattle.lvm_num.specs.Geometry.{partition_blocks}
use Rattle.lvm_path.specs.Asks.{at_of}
use Rattle.lvm_path.specs.declared.request.Request.{Request}
use Rattle.lvm_session.specs.Bringing.{groups_of}
use Rattle.lvm_session.specs.Judging.{group_in}
use Rattle.lvm_session.specs.State.{Core}
use Rattle.lvm_session.specs.Requests.{IsLaid}
use Rattle.lvm_keeps.proofs.Small.{is_false}

pub some_blocks : (mib lps n : ℕ) → n + 1 ≤ partition_blocks mib * lps → 0 < partition_blocks mib
some_blocks zero lps n within = absurd (omega (arith, within))
some_blocks (suc mib) lps n within = omega arith

pub groups_below : (n m : ℕ) → n < 2048 * m → n / 256 < 2048 * m / 256
groups_below n m low = omega (arith, low)

pub some_size : (core : Core) (r : Request) → IsLaid core r → 0 < partition_blocks core.descriptor.mib
some_size core r laid = some_blocks core.descriptor.mib laid.within.row.lps (at_of r.ask) (let some = laid.within.some in let within = laid.within.within in omega (arith, some, within))

pub group_low : (core : Core) (r : Request) → IsLaid core r → group_in core r.ask < groups_of core
group_low core r laid =
    groups_below (at_of r.ask % partition_blocks core.descriptor.mib) core.descriptor.mib (mod_below (at_of r.ask) (partition_blocks core.descriptor.mib) (some_size core r laid))

-- one that is whole has passed them
pub whole_passes : (group groups cursor : ℕ) → group < groups → not (nat_lt cursor groups) ≡ true → nat_lt group cursor ≡ true
whole_passes group groups cursor low whole = lt-ltb group cursor (let high = ltb-false cursor groups (is_false (nat_lt cursor groups) whole) in omega (arith, low, high))
