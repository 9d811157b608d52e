-- One transfer of data, after which the power is on again.
use Rattle.std.proofs.Common.{◌≡◌, inl, inr, ◌≤◌, ◌-◌, ◌+◌, ◌∷◌, ◌++◌, ◌==◌, ◌&&◌, nat_le, nat_lt, cond, slice_get, [], ℕ, List, Bool, Option, None, true, false, refl, sym, ◌∙◌, ap, subst, arith}
use Rattle.std.proofs.lemmas.Bool.{leb-true}
use Rattle.lvm_num.specs.Buffer.{Buffer, Sector}
use Rattle.lvm_num.specs.Geometry.{data_start}
use Rattle.lvm_disk.specs.Counts.{Rose, RoseAt, RoseBy, Counts}
use Rattle.lvm_disk.specs.Device.{Flight, Device, Orders, IsReady}
use Rattle.lvm_disk.specs.Steps.{CountsFailure, IsRecordRead}
use Rattle.lvm_disk.specs.Images.{LeavesNoMore}
use Rattle.lvm_disk.specs.Paths.{DeviceStep, Path}
use Rattle.lvm_disk.proofs.PathsLemmas.{last-path}
use Rattle.lvm_vol.specs.Facts.{Fact}
use Rattle.lvm_kept.specs.Moments.{StaysCalm}
use Rattle.lvm_kept.specs.Raw.{OnlyAdds}
use Rattle.lvm_steps.specs.Moments.{Keeps}
use Rattle.lvm_steps.specs.Requests.{IsInNoGroup, IsOfData, at as moment_of}
use Rattle.lvm_steps.proofs.RequestsLemmas.Writing.{stays_in_no_group}
use Rattle.lvm_steps.proofs.LawsLemmas.Shelves.{transfer_stays_behind, no_more_stays_behind}
use Rattle.lvm_steps.specs.Behind.{StampsAreEarlier}
use Rattle.lvm_transfer.specs.Transfer.{IsOut, TransferGives, Rests, flight_of}
use Rattle.lvm_transfer.specs.declared.moves.Moved.{Moved}
use Rattle.lvm_transfer.specs.declared.moves.Moved.TheVariants as moved
use Rattle.lvm_transfer.proofs.TransferLemmas.Ending.{one_left}
use Rattle.lvm_raw.specs.OnePieceKeeping.{HaveAllLanded, KeepsArrangements, KeepsOlder, NoneComesOn, MoveRose, PieceKeeps}
use Rattle.lvm_raw.specs.Requests.{RelightsAfter, IsHeard}

-- ---- the power on again

-- a shelf that was not found off is left alone
pub left_alone : (device : Device) (how : Moved) → ((x : Bool) → how ≡ moved.Dark x → ⊥) → RelightsAfter device device how
left_alone device (moved.Done back) other = refl
left_alone device (moved.Failed back) other = refl
left_alone device (moved.Dark started) other = absurd (other started refl)
left_alone device moved.Stuck other = refl

-- one that was left at rest, or put on again, is ready
ready_after : (mid new : Device) (how : Moved) → Rests mid how → RelightsAfter mid new how → IsHeard how → IsReady new
ready_after mid new (moved.Done back) rests lit heard = subst IsReady (sym lit) rests
ready_after mid new (moved.Failed back) rests lit heard = subst IsReady (sym lit) rests
ready_after mid new (moved.Dark started) rests lit heard = record {
  flights = ap (λ (d : Device). d.flights) lit ∙ rests.0;
  freed = ap (λ (d : Device). d.freed) lit;
  power = ap (λ (d : Device). d.power) lit;
}
ready_after mid new moved.Stuck rests lit heard = absurd heard

-- after a transfer that was begun on a shelf whose power is on, it is on again
power_after : (write : Bool) (disk from count : ℕ) (buf : Buffer) (ticket patience : ℕ) (old mid new : Device) (how : Moved) → IsReady old → TransferGives patience old mid (flight_of ticket write disk from count buf) how → Rests mid how → RelightsAfter mid new how → new.power ≡ true
power_after write disk from count buf ticket patience old mid new (moved.Done back) ready gives rests lit = ap (λ (d : Device). d.power) lit ∙ rests.power
power_after write disk from count buf ticket patience old mid new (moved.Failed back) ready gives rests lit = ap (λ (d : Device). d.power) lit ∙ rests.power
power_after write disk from count buf ticket patience old mid new (moved.Dark started) ready gives rests lit = ap (λ (d : Device). d.power) lit
power_after write disk from count buf ticket patience old mid new moved.Stuck ready (out, rose) rests lit =
    ap (λ (d : Device). d.power) lit ∙ ap (λ (d : Device). d.power) out.waits.now_is ∙ ap (λ (d : Device). d.power) out.starts.new_is ∙ ready.power

lit_counts : (mid new : Device) (how : Moved) → RelightsAfter mid new how → new.counts ≡ mid.counts
lit_counts mid new (moved.Done back) lit = ap (λ (d : Device). d.counts) lit
lit_counts mid new _ lit = ap (λ (d : Device). d.counts) lit

lit_behind : (mid new : Device) (how : Moved) → Rests mid how → RelightsAfter mid new how → LeavesNoMore mid new → KeepsOlder mid new
lit_behind mid new (moved.Done back) rests lit fewer m behind = subst (StampsAreEarlier m) (sym lit) behind
lit_behind mid new (moved.Failed back) rests lit fewer m behind = subst (StampsAreEarlier m) (sym lit) behind
lit_behind mid new (moved.Dark started) rests lit fewer m behind = no_more_stays_behind m mid new rests.0 fewer behind
lit_behind mid new moved.Stuck rests lit fewer m behind = subst (StampsAreEarlier m) (sym lit) behind

-- ---- what a transfer leaves

-- what no transfer changes
record Fixed : Type 0 where
  sizes : List ℕ
  arranges : Bool
  orders : Orders

abbrev fixed : Device → Fixed
fixed d = record { sizes = d.sizes; arranges = d.arranges; orders = d.orders }

module _ (patience : ℕ) (f : Flight) (old mid : Device) where
  out_fixed : (now : Device) → IsOut old now f → fixed now ≡ fixed old
  out_fixed now out = ap fixed out.waits.now_is ∙ ap fixed out.starts.new_is

  moved_fixed : (how : Moved) → TransferGives patience old mid f how → fixed mid ≡ fixed old
  moved_fixed (moved.Done back) (now, out, ends) = ap fixed ends.new_is ∙ out_fixed now out
  moved_fixed (moved.Failed back) (now, out, ends) = ap fixed ends.new_is ∙ out_fixed now out
  moved_fixed (moved.Dark true) (now, out, cuts) = ap fixed cuts.new_is ∙ out_fixed now out
  moved_fixed (moved.Dark false) cuts = ap fixed cuts.new_is
  moved_fixed moved.Stuck (out, rose) = out_fixed mid out

lit_fixed : (mid new : Device) (how : Moved) → RelightsAfter mid new how → fixed new ≡ fixed mid
lit_fixed mid new (moved.Done back) lit = ap fixed lit
lit_fixed mid new _ lit = ap fixed lit

-- a failure that isn't one of a read of records is counted as a fault
fault_of : (f : Flight) (old new : Counts) → (IsRecordRead f → ⊥) → CountsFailure f old new → RoseAt f.disk old.faults new.faults
fault_of f old new blocks (inl miss) = absurd (blocks miss.0)
fault_of f old new blocks (inr fault) = fault.1.faults

-- a flight that begins where data does brings nothing to the sectors below
pub brings_data : (f : Flight) → data_start ≤ f.first → IsOfData f
brings_data f low d s below = go f.write (f.disk == d) (nat_le f.first s) (nat_lt s (f.first + f.count)) (slice_get f.buf.sectors (s - f.first)) refl
  where
    go : (a b t u : Bool) (x : Option Sector) → nat_le f.first s ≡ t → cond (a && b && t && u) x None ≡ None
    go a b true u x is = absurd (let at_least = leb-true f.first s is in omega (arith, at_least, low, below))
    go true true false u x is = refl
    go true false false u x is = refl
    go false b false u x is = refl

-- ---- a transfer on a shelf at rest, after which the power is on again
module _ (write : Bool) (disk from count : ℕ) (buf : Buffer) (old mid new : Device) (how : Moved) (ready : IsReady old) (low : data_start ≤ from) (rests : Rests mid how)
    (lit : RelightsAfter mid new how) (path : Path DeviceStep (OnlyAdds (flight_of 0 write disk from count buf) old) old mid) (fewer : Path DeviceStep (LeavesNoMore mid) mid new) where
  abbrev f : Flight
  f = flight_of 0 write disk from count buf

  none_after : IsInNoGroup old disk → IsInNoGroup new disk
  none_after none image may = stays_in_no_group f old mid disk (brings_data f low) (last-path path) none image (last-path fewer image may)

  behind_after : KeepsOlder old new
  behind_after m behind = lit_behind mid new how rests lit (last-path fewer) m (transfer_stays_behind m f old mid ready.flights (brings_data f low) (last-path path) behind)

  module _ (ticket patience after : ℕ) (gives : TransferGives patience old mid (flight_of ticket write disk from count buf) how) where
    shelf_after : after ≤ patience → RoseBy (patience - after) old.counts.waits mid.counts.waits → KeepsArrangements patience after old new
    shelf_after falls waited =
        let same = lit_fixed mid new how lit ∙ moved_fixed patience (flight_of ticket write disk from count buf) old mid how gives in
        record {
          sizes = ap (λ (x : Fixed). x.sizes) same;
          arranges = ap (λ (x : Fixed). x.arranges) same;
          orders = ap (λ (x : Fixed). x.orders) same;
          falls = falls;
          waited = subst (λ (c : Counts). RoseBy (patience - after) old.counts.waits c.waits) (sym (lit_counts mid new how lit)) waited;
        }

cause_at_once : (write : Bool) (disk from count : ℕ) (buf : Buffer) (ticket patience : ℕ) (old mid : Device) (how : Moved) → IsReady old → data_start ≤ from
    → TransferGives patience old mid (flight_of ticket write disk from count buf) how → MoveRose disk patience old.counts mid.counts how
cause_at_once write disk from count buf ticket patience old mid (moved.Done back) ready low gives = tt
cause_at_once write disk from count buf ticket patience old mid (moved.Failed back) ready low (now, out, ends) =
    let f : Flight = flight_of ticket write disk from count buf in
    let there : now.flights ≡ f ∷ [] = ap (λ (d : Device). d.flights) out.waits.now_is ∙ ap (λ (d : Device). d.flights) out.starts.new_is ∙ ap (λ (l : List Flight). l ++ f ∷ []) ready.flights in
    let its = (one_left f now.flights mid.flights ends.flight there ends.flights).0 in
    let rose = fault_of f now.counts mid.counts (λ records. (let below = records.1 in omega (arith, below, low))) (subst (λ (g : Flight). CountsFailure g now.counts mid.counts) its ends.counts) in
    let before = ap (λ (d : Device). d.counts.faults) out.waits.now_is ∙ ap (λ (d : Device). d.counts.faults) out.starts.new_is in
    subst (λ (c : ℕ → ℕ). RoseAt disk c mid.counts.faults) before rose
cause_at_once write disk from count buf ticket patience old mid (moved.Dark true) ready low (now, out, cuts) =
    let before = ap (λ (d : Device). d.counts.cuts) out.waits.now_is ∙ ap (λ (d : Device). d.counts.cuts) out.starts.new_is in
    subst (λ (c : ℕ). Rose c mid.counts.cuts) before cuts.cuts
cause_at_once write disk from count buf ticket patience old mid (moved.Dark false) ready low cuts = cuts.cuts
cause_at_once write disk from count buf ticket patience old mid moved.Stuck ready low (out, rose) = rose

cause_after : (write : Bool) (disk from count : ℕ) (buf : Buffer) (ticket patience : ℕ) (old mid new : Device) (how : Moved) → IsReady old → data_start ≤ from → RelightsAfter mid new how
    → TransferGives patience old mid (flight_of ticket write disk from count buf) how → MoveRose disk patience old.counts new.counts how
cause_after write disk from count buf ticket patience old mid new how ready low lit gives =
    subst (λ (c : Counts). MoveRose disk patience old.counts c how) (sym (lit_counts mid new how lit)) (cause_at_once write disk from count buf ticket patience old mid how ready low gives)

-- what a piece keeps, by what its history keeps
pub piece_keeps :
    (write : Bool) (run disk from count : ℕ) (buf : Buffer) (ticket patience after : ℕ) (old mid new : Device) (was is : List Fact) (how : Moved) → Keeps run (moment_of old was) (moment_of new is)
    → (IsHeard how → StaysCalm (moment_of old was) (moment_of new is)) → (IsHeard how → HaveAllLanded was → HaveAllLanded is) → NoneComesOn was is
    → IsReady old → data_start ≤ from → IsInNoGroup old disk → TransferGives patience old mid (flight_of ticket write disk from count buf) how → Rests mid how → RelightsAfter mid new how
    → Path DeviceStep (OnlyAdds (flight_of 0 write disk from count buf) old) old mid → Path DeviceStep (LeavesNoMore mid) mid new → after ≤ patience → RoseBy (patience - after) old.counts.waits mid.counts.waits
    → PieceKeeps run disk patience after (moment_of old was) (moment_of new is) how
piece_keeps write run disk from count buf ticket patience after old mid new was is how keeps calm landed later ready low none gives rests lit path fewer falls waited = record {
  keeps = keeps;
  calm = calm;
  none = none_after write disk from count buf old mid new how ready low rests lit path fewer none;
  behind = behind_after write disk from count buf old mid new how ready low rests lit path fewer;
  shelf = shelf_after write disk from count buf old mid new how ready low rests lit path fewer ticket patience after gives falls waited;
  power = power_after write disk from count buf ticket patience old mid new how ready gives rests lit;
  ready = ready_after mid new how rests lit;
  landed = landed;
  later = later;
  cause = cause_after write disk from count buf ticket patience old mid new how ready low lit gives;
}
