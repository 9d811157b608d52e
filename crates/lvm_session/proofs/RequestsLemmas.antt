-- A request that waits is one of the table by what holds of its blocks, its targets and its records.
use Rattle.std.proofs.Common.{◌≡◌, ◌≢◌, ◌+◌, ◌%◌, ◌<◌, ◌≤◌, ◌^◌, ◌&&◌, ◌||◌, true, false, not, Some, length, sym, ◌∙◌, arith}
use Rattle.std.specs.Prelude.{AllPairs, IfSome, count_by, is_some}
use Rattle.std.specs.List.{list_any, AllByRecursion}
use Rattle.lvm_num.specs.Buffer.{Buffer}
use Rattle.lvm_num.specs.declared.descriptor.LvRow.{LvRow}
use Rattle.lvm_num.specs.Descriptor.{volume_of}
use Rattle.lvm_num.specs.Geometry.{volume_blocks}
use Rattle.lvm_num.proofs.Booleans.{not_so, not_either}
use Rattle.lvm_path.specs.passed.Sched.{is_flying}
use Rattle.lvm_path.specs.declared.request.Request.{Request}
use Rattle.lvm_path.specs.declared.target.Target.{Target}
use Rattle.lvm_path.specs.Asks.{lv_of, at_of, count_of, is_write}
use Rattle.lvm_path.specs.Targets.{is_done}
use Rattle.lvm_session.specs.declared.open.Open.{Open}
use Rattle.lvm_session.specs.State.{Core}
use Rattle.lvm_session.specs.Judging.{is_waiting}
use Rattle.lvm_session.specs.Requests.{IsLaid, IsOpenOne, IsPhase, IsRequest, IsShaped, IsTarget, is_past_held}

-- it lies in one track group of this volume
pub laid_in : {core : Core} {r : Request} (row : LvRow) → volume_of core.descriptor (lv_of r.ask) ≡ Some row → 1 ≤ count_of r.ask → at_of r.ask + count_of r.ask ≤ volume_blocks core.descriptor.mib row.lps
    → at_of r.ask % 256 + count_of r.ask ≤ 256 → at_of r.ask < 2 ^ 40 → length r.targets.items ≤ 4 → r.id < 2 ^ 32 → IsLaid core r
laid_in row volume some within group low few id = record {
  within = record { row = row; volume = volume; within = within; some = some; fits = low };
  blocks = record { some = some; end = omega (arith, group, low); group = group; whole = λ e. not_so e };
  most = few;
  id = id;
}

-- its targets, its phase, what it has in hand, how its targets differ, that one was usable, and that a read tries one at a time
pub shaped : {core : Core} {o : Open} → AllByRecursion (IsTarget core o.request.ask) o.request.targets.items → IsPhase o.request.phase o
    → is_some o.got ≡ (not (is_write o.request.ask) && list_any (λ (t : Target). is_done t.state) o.request.targets.items) → IfSome o.got (λ (buf : Buffer). length buf.sectors ≡ 256)
    → AllPairs (λ (a b : Target). a.pp ≢ b.pp) o.request.targets.items → (is_past_held o.request.phase ≡ true → list_any (λ (t : Target). t.usable) o.request.targets.items ≡ true)
    → (is_write o.request.ask ≡ false → count_by (λ (t : Target). is_flying t.state || is_done t.state) o.request.targets.items ≤ 1) → IsShaped core o
shaped targets phase hand room differ usable one = record { targets = targets; phase_is = phase; hand = hand; room = room; differ = differ; usable = usable; one = one }

pub waits_with : {core : Core} {o : Open} → is_waiting o ≡ true → IsLaid core o.request → IsRequest core o → IsOpenOne core o
waits_with waits laid request = record { laid = laid; waits = λ e. request; over = λ e. not_either (sym waits ∙ e); still = λ e. not_either (sym waits ∙ e) }
