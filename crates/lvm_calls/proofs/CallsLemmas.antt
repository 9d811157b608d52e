-- What a request finds that isn't refused.
use Rattle.std.proofs.Common.{◌≡◌, ◌<◌, ◌≤◌, ◌+◌, ◌*◌, ℕ, Bool, true, false, Option, Some, None, length, refl, sym, arith}
use Rattle.std.specs.Prelude.{◌&&◌, nat_le, nat_lt, if◌then◌else◌}
use Rattle.std.specs.Option.{option_map_or}
use Rattle.std.proofs.lemmas.Bool.{leb-true}
use Rattle.lvm_num.specs.declared.descriptor.LvRow.{LvRow}
use Rattle.lvm_num.specs.Descriptor.{volume_of}
use Rattle.lvm_num.specs.Geometry.{volume_blocks}
use Rattle.lvm_vol.specs.Log.{spare_bytes, spare_entries}
use Rattle.lvm_path.specs.declared.ask.Ask.{Ask}
use Rattle.lvm_path.specs.Asks.{at_of, count_of, lv_of}
use Rattle.lvm_session.specs.declared.open.Power.{Power}
use Rattle.lvm_session.specs.declared.open.Power.TheVariants as power
use Rattle.lvm_session.specs.State.{Core}
use Rattle.lvm_session.specs.declared.answers.AskFault.TheVariants as fault
use Rattle.lvm_session.specs.Calls.{ask_fault, fault_by, fault_in, fault_on, has_history, has_numbers}
use Rattle.lvm_session.specs.Asking.{IsAwake}

-- the history has room
pub history_room : (core : Core) (ask : Ask) → has_history core ask ≡ true → (3 ≤ spare_entries core.history) × (512 * count_of ask ≤ spare_bytes core.history)
history_room core ask is =
    let all = three (nat_le 3 (spare_entries core.history)) (nat_le (512 * count_of ask) (spare_bytes core.history)) (has_numbers core) is in
    (leb-true 3 (spare_entries core.history) all.0, leb-true (512 * count_of ask) (spare_bytes core.history) all.1)
  where
    three : (a b c : Bool) → (a && b && c) ≡ true → (a ≡ true) × (b ≡ true)
    three true true c is = (refl, refl)
    three true false c is = absurd cc
    three false b c is = absurd cc

-- one that isn't refused has a place in the table and in the history
pub taken_in : (core : Core) (ask : Ask) (blocks : ℕ) → fault_in core ask blocks ≡ None → (length core.requests < core.most) × (has_history core ask ≡ true)
taken_in core ask blocks is = by_tests (nat_lt blocks (at_of ask + count_of ask)) (nat_le core.most (length core.requests)) (has_history core ask) refl is
  where
    less : nat_le core.most (length core.requests) ≡ false → length core.requests < core.most
    less is = grind (arith, is)

    by_tests : (a b c : Bool) → nat_le core.most (length core.requests) ≡ b
        → (if a then Some (fault.OutOfRange blocks) else if b then Some (fault.TableFull (length core.requests)) else if c then None else Some fault.HistoryFull) ≡ None → (length core.requests < core.most) × (c ≡ true)
    by_tests true b c full is = absurd cc
    by_tests false true c full is = absurd cc
    by_tests false false true full is = (less full, refl)
    by_tests false false false full is = absurd cc

taken_on : (core : Core) (ask : Ask) → fault_on core ask ≡ None → (length core.requests < core.most) × (has_history core ask ≡ true)
taken_on core ask is = by_row (volume_of core.descriptor (lv_of ask)) is
  where
    by_row : (row : Option LvRow) → option_map_or (λ (r : LvRow). fault_in core ask (volume_blocks core.descriptor.mib r.lps)) row (Some fault.NoVolume) ≡ None → (length core.requests < core.most) × (has_history core ask ≡ true)
    by_row None is = absurd cc
    by_row (Some row) is = taken_in core ask (volume_blocks core.descriptor.mib row.lps) is

-- and its session is on
pub record IsTaken (core : Core) (ask : Ask) : Type 0 where
  pub on : core.power ≡ power.On
  pub place : length core.requests < core.most
  pub history : has_history core ask ≡ true

pub taken : (core : Core) (ask : Ask) → IsAwake core → None ≡ ask_fault core ask → IsTaken core ask
taken core ask awake is = by_power core.power refl (sym is)
  where
    by_power : (p : Power) → core.power ≡ p → fault_by p (fault_on core ask) ≡ None → IsTaken core ask
    by_power power.On on none = let it = taken_on core ask none in record { on = on; place = it.0; history = it.1 }
    by_power power.Off off none = absurd cc
    by_power power.Dark dark none = absurd cc
    by_power power.Stuck stuck none = absurd (awake.unstuck stuck)
