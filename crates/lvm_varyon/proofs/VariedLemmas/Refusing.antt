-- A varyon that is refused.
use Rattle.std.proofs.Common.{◌≡◌, ◌≤◌, ℕ, List, Err, sym, subst, arith}
use Rattle.lvm_disk.specs.Device.{Device}
use Rattle.lvm_vol.specs.Log.{Log, spare_entries}
use Rattle.lvm_varyon.specs.passed.Core.{Room, Cause, Refused}
use Rattle.lvm_varyon.specs.passed.CoreRefusedCause as cause
use Rattle.lvm_varyon.specs.Varied.{VaryonRefuses, VaryonStops, VariesOnAt, log_after}

-- the history has room, of which so much was counted
pub some_spare : (n : ℕ) (log : Log) → n ≡ spare_entries log → (n ≡ 0 → ⊥) → 1 ≤ spare_entries log
some_spare n log is some = omega (arith, is, some)

-- where the history has room it is refused for what stops it
pub refuses_so : (old new : Device) (name : List ℕ) (moment patience : ℕ) (log : Log) (why : Cause) → 1 ≤ spare_entries log → VaryonStops old new name moment patience why → VaryonRefuses old new name moment patience log why
refuses_so old new name moment patience log cause.HistoryFull spare stops = absurd stops
refuses_so old new name moment patience log _ spare stops = (spare, stops)

-- nothing is said of a session then
pub refused_gives : {S : Type 0} (device : S → Device) (old : Device) (log : Log) (name : List ℕ) (moment : ℕ) (room : Room) (patience : ℕ) (why : Cause) (refused : Refused S) → refused.cause ≡ why → refused.history ≡ log_after why log
    → VaryonRefuses old (device refused.shelf) name moment patience log why → VariesOnAt device log name moment room patience old (Err refused)
refused_gives device old log name moment room patience why refused is history refuses = record {
  gives = subst (λ (c : Cause). VaryonRefuses old (device refused.shelf) name moment patience log c × (refused.history ≡ log_after c log)) (sym is) (refuses, history);
  recovered = tt;
  equal = tt;
}
