-- One transfer of sectors of a record, and one after another.
use Rattle.std.proofs.Common.{◌≡◌, inl, inr, ⊎_elim, ℕ, ◌+◌, ◌-◌, ◌<◌, ◌≤◌, Bool, true, false, Option, Some, None, length, slice_get, IsTrue, IsFalse, refl, sym, ◌∙◌, ap, subst, arith, eq-eqb}
use Rattle.std.specs.Prelude.{◌⊎◌, ◌==◌, ◌&&◌, ◌++◌, List, map, nat_le, nat_lt, if◌then◌else◌}
use Rattle.std.proofs.lemmas.Bool.{eqb-true, ltb-true, leb-true}
use Rattle.std.proofs.lemmas.Bool.Decides.{nat_tests}
use Rattle.lvm_num.specs.Buffer.{Buffer}
use Rattle.lvm_num.specs.Disks.{Disks}
use Rattle.lvm_num.specs.Record.{frame, slot_start, record_sectors}
use Rattle.lvm_disk.specs.Counts.{Counts, Rose, RoseAt, RoseBy}
use Rattle.lvm_disk.specs.Device.{Media, Flight, Range, Device, Orders, IsReady, written, image_of}
use Rattle.lvm_disk.specs.Steps.{Logs, BothTold, Cuts, CountsFailure, IsRecordRead, IsFault, Puts}
use Rattle.lvm_disk.specs.Paths.{DeviceStep, Path}
use Rattle.lvm_disk.proofs.PathsLemmas.{map-path, last-path}
use Rattle.lvm_quorum.specs.passed.Transfer.{OnlyAdds, Plan, IsPlanned, IsOfRecord, IsOut, TransferGives, Rests, flight_of, Moved}
use Rattle.lvm_quorum.proofs.passed.Kept.{never}
use Rattle.lvm_quorum.proofs.passed.Transfer.{one_left, out_flights}
use Rattle.lvm_quorum.specs.passed.TransferMovesMoved as moved
use Rattle.lvm_write.specs.declared.write.SlotWrite.{SlotWrite}
use Rattle.lvm_write.specs.Written.{IsWriting, IsInPlan}
use Rattle.lvm_write.specs.Parts.{write_to, CountsEnd, LeavesShelf, IfReturned, DoesPart}
use Rattle.lvm_write.proofs.WrittenLemmas.Writing.{logs_one, logs_same, both_map, adds_writing, media_written}

-- ---- the flight

module _ (one : SlotWrite) (from count first : ℕ) (buf : Buffer) (place : first ≡ slot_start one.kind (if one.second then 1 else 0) + from)
    (frames : (k : ℕ) → k < count → slice_get buf.sectors k ≡ Some (frame one.kind one.stamp one.content.now (from + k))) where
  -- it writes nothing but sectors of the record
  pub frames_planned : from + count ≤ record_sectors (length one.content.now) → IsPlanned (IsOfRecord (write_to one)) (flight_of 0 true one.disk first count buf)
  frames_planned room d s value is = go (one.disk == d) (nat_le first s) (nat_lt s (first + count)) refl refl refl is
    where
      go : (p q r : Bool) → (one.disk == d) ≡ p → nat_le first s ≡ q → nat_lt s (first + count) ≡ r → (if p && q && r then slice_get buf.sectors (s - first) else None) ≡ Some value → IsOfRecord (write_to one) d s value
      go true true true p q r is =
          let low = leb-true first s q in
          let high = ltb-true s (first + count) r in
          let read = frames (s - first) (omega (arith, low, high)) in
          record {
            target = eq-eqb d one.disk (sym (eqb-true one.disk d p));
            its = record { part = from + (s - first); inside = omega (arith, low, high, room); place = omega (arith, low, place); is = cc };
          }
      go true true false p q r is = absurd (cc)
      go true false u p q r is = absurd (cc)
      go false t u p q r is = absurd (cc)

  -- and each of its sectors is the place of one
  pub range_planned : 1 ≤ count → from + count ≤ record_sectors (length one.content.now) → IsInPlan (IsOfRecord (write_to one)) (record { disk = one.disk; first = first; count = count })
  range_planned some room = (
    some,
    λ s low high. (
      frame one.kind one.stamp one.content.now (from + (s - first)),
      record {
        target = eq-eqb one.disk one.disk refl;
        its = record { part = from + (s - first); inside = omega (arith, low, high, room); place = omega (arith, low, place); is = refl };
      },
    ),
  )

  -- and all that it says
  pub frames_written : (ticket k : ℕ) → from ≤ k → k < from + count → written (flight_of ticket true one.disk first count buf) one.disk (slot_start one.kind (if one.second then 1 else 0) + k) ≡ Some (frame one.kind one.stamp one.content.now k)
  frames_written ticket k low high =
      let s : ℕ = slot_start one.kind (if one.second then 1 else 0) + k in
      let here : (one.disk == one.disk) ≡ true = eq-eqb one.disk one.disk refl in
      let above : nat_le first s ≡ true = grind (arith, nat_tests, place, low) in
      let below : nat_lt s (first + count) ≡ true = grind (arith, nat_tests, place, high) in
      ap (λ (b : Bool). if b && nat_le first s && nat_lt s (first + count) then slice_get buf.sectors (s - first) else None) here
      ∙ ap (λ (b : Bool). if b && nat_lt s (first + count) then slice_get buf.sectors (s - first) else None) above
      ∙ ap (λ (b : Bool). if b then slice_get buf.sectors (s - first) else None) below
      ∙ frames (s - first) (omega (arith, place, low, high))
      ∙ ap (λ (n : ℕ). Some (frame one.kind one.stamp one.content.now n)) (omega (arith, place, low))

-- ---- what a start changes

record OutFacts (old begun now : Device) (disk : ℕ) : Type 0 where
  sizes : now.sizes ≡ old.sizes
  media : now.media ≡ old.media
  arranges : now.arranges ≡ old.arranges
  orders : now.orders ≡ old.orders
  misses : now.counts.misses ≡ old.counts.misses
  faults : now.counts.faults ≡ old.counts.faults
  cuts : now.counts.cuts ≡ old.counts.cuts
  starts : (d : ℕ) → (d ≡ disk → ⊥) → now.counts.starts d ≡ old.counts.starts d
  power : now.power ≡ true
  freed : now.freed ≡ old.freed
  wrote : now.wrote ≡ begun.wrote

out_facts : (old now : Device) (f : Flight) (out : IsOut old now f) → OutFacts old out.begun now f.disk
out_facts old now f out =
    let begun = out.starts.new_is in
    let waited = out.waits.now_is in
    record {
      sizes = ap (λ (d : Device). d.sizes) waited ∙ ap (λ (d : Device). d.sizes) begun;
      media = ap (λ (d : Device). d.media) waited ∙ ap (λ (d : Device). d.media) begun;
      arranges = ap (λ (d : Device). d.arranges) waited ∙ ap (λ (d : Device). d.arranges) begun;
      orders = ap (λ (d : Device). d.orders) waited ∙ ap (λ (d : Device). d.orders) begun;
      misses = ap (λ (d : Device). d.counts.misses) waited ∙ ap (λ (d : Device). d.counts.misses) begun;
      faults = ap (λ (d : Device). d.counts.faults) waited ∙ ap (λ (d : Device). d.counts.faults) begun;
      cuts = ap (λ (d : Device). d.counts.cuts) waited ∙ ap (λ (d : Device). d.counts.cuts) begun;
      starts = λ d differ. ap (λ (x : Device). x.counts.starts d) waited ∙ out.starts.starts.elsewhere d differ;
      power = ap (λ (d : Device). d.power) waited ∙ ap (λ (d : Device). d.power) begun ∙ out.starts.power;
      freed = ap (λ (d : Device). d.freed) waited ∙ ap (λ (d : Device). d.freed) begun;
      wrote = ap (λ (d : Device). d.wrote) waited;
    }

-- a failed write is a fault
is_fault : (f g : Flight) (old new : Counts) → g ≡ f → f.write ≡ true → CountsFailure g old new → IsFault f.disk old new
is_fault f g old new same write (inl miss) = absurd (let w : g.write ≡ false = miss.0.0 in let v = ap (λ (x : Flight). x.write) same in cc)
is_fault f g old new same write (inr fault) = subst (λ (x : Flight). IsFault x.disk old new) same fault.1

-- ---- what a transfer does

-- what an ending leaves as it was while the transfer was out
record Lasting : Type 0 where
  wrote : Option (List Range)
  sizes : List ℕ
  arranges : Bool
  orders : Orders
  misses : ℕ → ℕ
  starts : ℕ → ℕ

abbrev lasting : Device → Lasting
lasting d = record { wrote = d.wrote; sizes = d.sizes; arranges = d.arranges; orders = d.orders; misses = d.counts.misses; starts = d.counts.starts }

-- of that a write has changed the log and the starts of its disk, if anything
record Lasts (old new : Device) (disk first count : ℕ) : Type 0 where
  wrote : Logs old.wrote (record { disk = disk; first = first; count = count }) new.wrote ⊎ (new.wrote ≡ old.wrote)
  sizes : new.sizes ≡ old.sizes
  arranges : new.arranges ≡ old.arranges
  orders : new.orders ≡ old.orders
  misses : new.counts.misses ≡ old.counts.misses
  starts : (d : ℕ) → (d ≡ disk → ⊥) → new.counts.starts d ≡ old.counts.starts d

out_lasts : (old now new : Device) (ticket disk first count : ℕ) (buf : Buffer) → IsOut old now (flight_of ticket true disk first count buf) → lasting new ≡ lasting now → Lasts old new disk first count
out_lasts old now new ticket disk first count buf out same =
    let facts = out_facts old now (flight_of ticket true disk first count buf) out in
    record {
      wrote = inl (subst (λ (o : Option (List Range)). Logs old.wrote (record { disk = disk; first = first; count = count }) o) (sym (ap (λ (l : Lasting). l.wrote) same ∙ facts.wrote)) out.starts.wrote);
      sizes = ap (λ (l : Lasting). l.sizes) same ∙ facts.sizes;
      arranges = ap (λ (l : Lasting). l.arranges) same ∙ facts.arranges;
      orders = ap (λ (l : Lasting). l.orders) same ∙ facts.orders;
      misses = ap (λ (l : Lasting). l.misses) same ∙ facts.misses;
      starts = λ d differ. ap (λ (l : Lasting). l.starts d) same ∙ facts.starts d differ;
    }

-- of its counts and of what is told
record Effect (old new : Device) (disk first count number before : ℕ) (how : Moved) : Type 0 where
  lasts : Lasts old new disk first count
  faults : (d : ℕ) → (d ≡ disk → ⊥) → new.counts.faults d ≡ old.counts.faults d
  told : BothTold old.media new.media (λ was is. Unit {0})
  counts : CountsEnd disk old.counts new.counts how
  leaves : LeavesShelf number before old new how
  buffer : IfReturned how (λ back. back.number ≡ number)

still_told : (o m n : Option Media) (R : Media → Media → Type 0) → m ≡ o → BothTold m n R → BothTold o n (λ was is. Unit {0})
still_told o m n R same told = both_map o n R (λ was is. Unit {0}) (subst (λ (x : Option Media). BothTold x n R) same told) (λ a b p q r. tt)

same_told : (o n : Option Media) → n ≡ o → BothTold o n (λ was is. Unit {0})
same_told None n same = subst (λ (x : Option Media). BothTold None x (λ was is. Unit {0})) (sym same) tt
same_told (Some m) n same = subst (λ (x : Option Media). BothTold (Some m) x (λ was is. Unit {0})) (sym same) tt

effect : (before : ℕ) (old new : Device) (ticket disk first count : ℕ) (buf : Buffer) (how : Moved) → IsReady old → TransferGives before old new (flight_of ticket true disk first count buf) how → Effect old new disk first count buf.number before how
effect before old new ticket disk first count buf (moved.Done back) ready (now, out, ends) =
    let f = flight_of ticket true disk first count buf in
    let facts = out_facts old now f out in
    let it = one_left f now.flights new.flights ends.flight (out_flights old now f out ready.flights) ends.flights in
    let faults = ap (λ (d : Device). d.counts.faults) ends.new_is ∙ facts.faults in
    record {
      lasts = out_lasts old now new ticket disk first count buf out (ap lasting ends.new_is);
      faults = λ d differ. ap (λ (h : ℕ → ℕ). h d) faults;
      told = still_told old.media now.media new.media (Puts ends.flight) facts.media ends.media;
      counts = (faults, ap (λ (d : Device). d.counts.cuts) ends.new_is ∙ facts.cuts);
      leaves = tt;
      buffer = ap (λ (b : Buffer). b.number) (ends.kept (ap (λ (g : Flight). g.write) it.0)) ∙ ap (λ (g : Flight). g.buf.number) it.0;
    }
effect before old new ticket disk first count buf (moved.Failed back) ready (now, out, ends) =
    let f = flight_of ticket true disk first count buf in
    let facts = out_facts old now f out in
    let it = one_left f now.flights new.flights ends.flight (out_flights old now f out ready.flights) ends.flights in
    let fault = is_fault f ends.flight now.counts new.counts it.0 refl ends.counts in
    record {
      lasts = out_lasts old now new ticket disk first count buf out (ap lasting ends.new_is ∙ ap (λ (c : Counts). lasting (record now { counts = c })) fault.new_is);
      faults = λ d differ. fault.faults.elsewhere d differ ∙ ap (λ (h : ℕ → ℕ). h d) facts.faults;
      told = still_told old.media now.media new.media (Rattle.lvm_disk.specs.Steps.PutsSome ends.flight) facts.media ends.media;
      counts = (subst (λ (h : ℕ → ℕ). RoseAt disk h new.counts.faults) facts.faults fault.faults, ap (λ (c : Counts). c.cuts) fault.new_is ∙ facts.cuts);
      leaves = tt;
      buffer = ap (λ (b : Buffer). b.number) (ends.kept (ap (λ (g : Flight). g.write) it.0)) ∙ ap (λ (g : Flight). g.buf.number) it.0;
    }
effect before old new ticket disk first count buf (moved.Dark true) ready (now, out, cuts) =
    let f = flight_of ticket true disk first count buf in
    let facts = out_facts old now f out in
    let faults = ap (λ (d : Device). d.counts.faults) cuts.new_is ∙ facts.faults in
    record {
      lasts = out_lasts old now new ticket disk first count buf out (ap lasting cuts.new_is);
      faults = λ d differ. ap (λ (h : ℕ → ℕ). h d) faults;
      told = still_told old.media now.media new.media (λ m n. Rattle.lvm_disk.specs.Device.IsTorn m now.flights n) facts.media cuts.media;
      counts = (faults, subst (λ (n : ℕ). Rose n new.counts.cuts) facts.cuts cuts.cuts);
      leaves = record {
        flights = ap (λ (d : Device). d.flights) cuts.new_is;
        freed = inr (
          buf,
          ap (λ (d : Device). d.freed) cuts.new_is ∙ ap (λ (l : List Buffer). l ++ map (λ f. f.buf) now.flights) (facts.freed ∙ ready.freed) ∙ ap (λ (l : List Flight). map (λ f. f.buf) l) (out_flights old now f out ready.flights),
          refl,
        );
        power = ap (λ (d : Device). d.power) cuts.new_is;
        cuts = subst (λ (n : ℕ). Rose n new.counts.cuts) facts.cuts cuts.cuts;
      };
      buffer = tt;
    }
effect before old new ticket disk first count buf (moved.Dark false) ready cuts =
    let faults = ap (λ (d : Device). d.counts.faults) cuts.new_is in
    record {
      lasts = record {
        wrote = inr (ap (λ (d : Device). d.wrote) cuts.new_is);
        sizes = ap (λ (d : Device). d.sizes) cuts.new_is;
        arranges = ap (λ (d : Device). d.arranges) cuts.new_is;
        orders = ap (λ (d : Device). d.orders) cuts.new_is;
        misses = ap (λ (d : Device). d.counts.misses) cuts.new_is;
        starts = λ d differ. ap (λ (x : Device). x.counts.starts d) cuts.new_is;
      };
      faults = λ d differ. ap (λ (h : ℕ → ℕ). h d) faults;
      told = still_told old.media old.media new.media (λ m n. Rattle.lvm_disk.specs.Device.IsTorn m old.flights n) refl cuts.media;
      counts = (faults, cuts.cuts);
      leaves = record {
        flights = ap (λ (d : Device). d.flights) cuts.new_is;
        freed = inl (ap (λ (d : Device). d.freed) cuts.new_is ∙ ap (λ (l : List Buffer). l ++ map (λ f. f.buf) old.flights) ready.freed ∙ ap (λ (l : List Flight). map (λ f. f.buf) l) ready.flights);
        power = ap (λ (d : Device). d.power) cuts.new_is;
        cuts = cuts.cuts;
      };
      buffer = tt;
    }
effect before old new ticket disk first count buf moved.Stuck ready (out, waits) =
    let f = flight_of ticket true disk first count buf in
    let facts = out_facts old new f out in
    record {
      lasts = out_lasts old new new ticket disk first count buf out refl;
      faults = λ d differ. ap (λ (h : ℕ → ℕ). h d) facts.faults;
      told = same_told old.media new.media facts.media;
      counts = (facts.faults, facts.cuts);
      leaves = record {
        flight = f;
        flights = out_flights old new f out ready.flights;
        write = refl;
        buffer = refl;
        freed = facts.freed ∙ ready.freed;
        power = facts.power;
        cuts = facts.cuts;
        waits = waits;
      };
      buffer = tt;
    }

-- ---- a piece

module _ (targets : Disks) (P : Plan) (disk number before after : ℕ) (old new : Device) (how : Moved) (ticket first count : ℕ) (buf : Buffer) where
  pub piece_part :
      IsReady old → number ≡ buf.number → IsTrue (targets disk) → IsPlanned P (flight_of 0 true disk first count buf)
      → IsInPlan P (record { disk = disk; first = first; count = count })
      → TransferGives before old new (flight_of ticket true disk first count buf) how → Rests new how → after ≤ before → RoseBy (before - after) old.counts.waits new.counts.waits
      → Path DeviceStep (OnlyAdds (flight_of 0 true disk first count buf) old) old new → DoesPart targets P disk number before after old new how
  piece_part ready same target planned inside gives rests falls waits path =
      let done = effect before old new ticket disk first count buf how ready gives in
      let moments = map-path (IsWriting P old) (λ x. adds_writing P (flight_of 0 true disk first count buf) old x ready.flights planned) path in
      let other : (d : ℕ) → IsFalse (targets d) → d ≡ disk → ⊥ = λ d off here. never (targets disk) target (subst (λ (x : ℕ). IsFalse (targets x)) here off) in
      record {
        keeps = record {
          sizes = done.lasts.sizes;
          arranges = done.lasts.arranges;
          orders = done.lasts.orders;
          misses = done.lasts.misses;
          starts = λ d off. done.lasts.starts d (other d off);
          faults = λ d off. done.faults d (other d off);
          wrote = ⊎_elim (logs_one P old.wrote new.wrote (record { disk = disk; first = first; count = count }) inside) (logs_same P old.wrote new.wrote) done.lasts.wrote;
          media = media_written P old new done.told (last-path moments);
        };
        counts = done.counts;
        rests = rests;
        spends = record { falls = falls; waits = waits };
        leaves = subst (λ (n : ℕ). LeavesShelf n before old new how) (sym same) done.leaves;
        buffer = subst (λ (n : ℕ). IfReturned how (λ back. back.number ≡ n)) (sym same) done.buffer;
        moments = moments;
      }
