-- One transfer of 256 sectors of data on a shelf at rest.
use Rattle.std.proofs.Common.{◌≡◌, inl, inr, ⊎_elim, ℕ, ◌+◌, ◌-◌, ◌<◌, ◌≤◌, Bool, true, false, Option, Some, None, length, slice_get, get_or, IsFalse, refl, sym, ◌∙◌, ap, subst, arith, eq-eqb}
use Rattle.std.specs.Prelude.{◌⊎◌, ◌==◌, ◌&&◌, List, [], nat_le, nat_lt, if◌then◌else◌, unwrap_or}
use Rattle.std.proofs.lemmas.Bool.{eqb-true, ltb-true, leb-true}
use Rattle.std.proofs.lemmas.Bool.Decides.{nat_tests}
use Rattle.std.proofs.lemmas.Option.{slice_get-get_or}
use Rattle.std.specs.Bool.{MatchBool}
use Rattle.lvm_num.specs.declared.place.Place.{Place}
use Rattle.lvm_num.specs.Buffer.{Buffer, Sector}
use Rattle.lvm_num.specs.Geometry.{data_start}
use Rattle.lvm_num.proofs.Booleans.{clash_gives}
use Rattle.lvm_disk.specs.Counts.{Counts, Rose, RoseAt, RoseBy}
use Rattle.lvm_disk.specs.Device.{Media, Flight, Range, Device, IsReady, IsTorn, written}
use Rattle.lvm_disk.specs.Steps.{Logs, BothTold, CountsFailure, IsFault, Puts, PutsSome}
use Rattle.lvm_disk.specs.Paths.{DeviceStep, Path}
use Rattle.lvm_disk.proofs.PathsLemmas.{map-path, last-path}
use Rattle.lvm_kept.specs.Raw.{OnlyAdds}
use Rattle.lvm_kept.specs.Plans.{IsPlanned}
use Rattle.lvm_transfer.specs.Transfer.{IsOut, TransferGives, Rests, flight_of}
use Rattle.lvm_transfer.specs.declared.moves.Moved.{Moved}
use Rattle.lvm_transfer.specs.declared.moves.Moved.TheVariants as moved
use Rattle.lvm_transfer.proofs.TransferLemmas.Ending.{one_left}
use Rattle.lvm_transfer.proofs.StepsLemmas.{done_effect, out_flights}
use Rattle.lvm_write.specs.Written.{IsWriting, IsInPlan}
use Rattle.lvm_write.proofs.WrittenLemmas.Writing.{logs_one, logs_same, both_map, adds_writing, media_written, stand_told}
use Rattle.lvm_write.specs.declared.begin.Begun.{Begun}
use Rattle.lvm_write.specs.declared.begin.Begun.TheVariants as begun
use Rattle.lvm_recovery.specs.Copying.{IsFull, IsOfStep, RunHolds, HasMoved, HowStep, StepGives, StepWrites}
use Rattle.lvm_recovery.proofs.CopyingLemmas.Logged.{just_none, just_step}

-- each sector of a full buffer is there
at_place : (l : List Sector) (i : ℕ) → i < length l → (value : Sector) × (slice_get l i ≡ Some value)
at_place l i inside = (get_or l i [], slice_get-get_or l i [] inside)

sector_of_full : (buf : Buffer) (i : ℕ) → IsFull buf → i < 256 → (value : Sector) × (slice_get buf.sectors i ≡ Some value)
sector_of_full buf i full inside = at_place buf.sectors i (omega (arith, full, inside))

-- ---- the flight

module _ (write : Bool) (place : Place) (buf : Buffer) where
  -- it brings nothing but what the buffer holds, and a read nothing
  pub step_planned : IsPlanned (IsOfStep write place buf) (flight_of 0 write place.disk place.sector 256 buf)
  step_planned d s value is = go write (place.disk == d) (nat_le place.sector s) (nat_lt s (place.sector + 256)) refl refl refl refl is
    where
      go : (w p q r : Bool) → write ≡ w → (place.disk == d) ≡ p → nat_le place.sector s ≡ q → nat_lt s (place.sector + 256) ≡ r → (if w && p && q && r then slice_get buf.sectors (s - place.sector) else None) ≡ Some value
          → IsOfStep write place buf d s value
      go true true true true w p q r is =
          let low = leb-true place.sector s q in
          let high = ltb-true s (place.sector + 256) r in
          record {
            writes = w;
            i = s - place.sector;
            at = record { disk = sym (eqb-true place.disk d p); inside = omega (arith, low, high); sector = omega (arith, low) };
            is = is;
          }
      go true true true false w p q r is = absurd (cc)
      go true true false u w p q r is = absurd (cc)
      go true false t u w p q r is = absurd (cc)
      go false p t u w q r v is = absurd (cc)

  -- a write of a full buffer has something for each of its sectors
  pub step_in_plan : write ≡ true → IsFull buf → IsInPlan (IsOfStep write place buf) (record { disk = place.disk; first = place.sector; count = 256 })
  step_in_plan writes full = (
    omega arith,
    λ s low high.
        let it = sector_of_full buf (s - place.sector) full (omega (arith, low, high)) in
        (it.0, record { writes = writes; i = s - place.sector; at = record { disk = refl; inside = omega (arith, low, high); sector = omega (arith, low) }; is = it.1 }),
  )

-- ---- what a start changes

record OutFacts (old begun now : Device) (disk : ℕ) : Type 0 where
  sizes : now.sizes ≡ old.sizes
  media : now.media ≡ old.media
  arranges : now.arranges ≡ old.arranges
  orders : now.orders ≡ old.orders
  misses : now.counts.misses ≡ old.counts.misses
  faults : now.counts.faults ≡ old.counts.faults
  cuts : now.counts.cuts ≡ old.counts.cuts
  starts : (d : ℕ) → (d ≡ disk → ⊥) → now.counts.starts d ≡ old.counts.starts d
  power : now.power ≡ true
  freed : now.freed ≡ old.freed
  wrote : now.wrote ≡ begun.wrote

out_facts : (old now : Device) (f : Flight) (out : IsOut old now f) → OutFacts old out.begun now f.disk
out_facts old now f out =
    let begun = out.starts.new_is in
    let waited = out.waits.now_is in
    record {
      sizes = ap (λ (d : Device). d.sizes) waited ∙ ap (λ (d : Device). d.sizes) begun;
      media = ap (λ (d : Device). d.media) waited ∙ ap (λ (d : Device). d.media) begun;
      arranges = ap (λ (d : Device). d.arranges) waited ∙ ap (λ (d : Device). d.arranges) begun;
      orders = ap (λ (d : Device). d.orders) waited ∙ ap (λ (d : Device). d.orders) begun;
      misses = ap (λ (d : Device). d.counts.misses) waited ∙ ap (λ (d : Device). d.counts.misses) begun;
      faults = ap (λ (d : Device). d.counts.faults) waited ∙ ap (λ (d : Device). d.counts.faults) begun;
      cuts = ap (λ (d : Device). d.counts.cuts) waited ∙ ap (λ (d : Device). d.counts.cuts) begun;
      starts = λ d differ. ap (λ (x : Device). x.counts.starts d) waited ∙ out.starts.starts.elsewhere d differ;
      power = ap (λ (d : Device). d.power) waited ∙ ap (λ (d : Device). d.power) begun ∙ out.starts.power;
      freed = ap (λ (d : Device). d.freed) waited ∙ ap (λ (d : Device). d.freed) begun;
      wrote = ap (λ (d : Device). d.wrote) waited;
    }

-- ---- what a transfer does

-- how a transfer is answered
abbrev pub begun_of : ℕ → Moved → Begun
begun_of disk (moved.Done back) = begun.Ended back
begun_of disk (moved.Failed back) = begun.DiskFailed disk back
begun_of disk (moved.Dark started) = begun.Dark
begun_of disk moved.Stuck = begun.Stuck

still_told : (o m n : Option Media) (R : Media → Media → Type 0) → m ≡ o → BothTold m n R → BothTold o n (λ was is. Unit {0})
still_told o m n R same told = both_map o n R (λ was is. Unit {0}) (subst (λ (x : Option Media). BothTold x n R) same told) (λ a b p q r. tt)

same_told : (o n : Option Media) → n ≡ o → BothTold o n (λ was is. Unit {0})
same_told None n same = subst (λ (x : Option Media). BothTold None x (λ was is. Unit {0})) (sym same) tt
same_told (Some m) n same = subst (λ (x : Option Media). BothTold (Some m) x (λ was is. Unit {0})) (sym same) tt

-- a failed transfer of data is a fault
is_fault : (f g : Flight) (old new : Counts) → g ≡ f → data_start ≤ f.first → CountsFailure g old new → IsFault f.disk old new
is_fault f g old new same high (inl miss) = absurd (let low : g.first < 4096 = miss.0.1 in let e : g.first ≡ f.first = ap (λ (x : Flight). x.first) same in omega (arith, low, e, high))
is_fault f g old new same high (inr fault) = subst (λ (x : Flight). IsFault x.disk old new) same fault.1

-- what stands where a write has put it
pub put_holds : (ticket : ℕ) (place : Place) (buf : Buffer) (m k : Media) → Puts (flight_of ticket true place.disk place.sector 256 buf) m k → RunHolds k place buf
put_holds ticket place buf m k puts i value inside is =
    let s : ℕ = place.sector + i in
    let here : (place.disk == place.disk) ≡ true = eq-eqb place.disk place.disk refl in
    let above : nat_le place.sector s ≡ true = grind (arith, nat_tests) in
    let below : nat_lt s (place.sector + 256) ≡ true = grind (arith, nat_tests, inside) in
    let carried : written (flight_of ticket true place.disk place.sector 256 buf) place.disk s ≡ Some value =
    ap (λ (b : Bool). if b && nat_le place.sector s && nat_lt s (place.sector + 256) then slice_get buf.sectors (s - place.sector) else None) here
    ∙ ap (λ (b : Bool). if b && nat_lt s (place.sector + 256) then slice_get buf.sectors (s - place.sector) else None) above
    ∙ ap (λ (b : Bool). if b then slice_get buf.sectors (s - place.sector) else None) below
    ∙ ap (λ (n : ℕ). slice_get buf.sectors n) (omega arith)
    ∙ is in
    puts place.disk s ∙ ap (λ (o : Option Sector). unwrap_or o (m place.disk s)) carried

record Effect (write : Bool) (place : Place) (buf : Buffer) (before : ℕ) (old new : Device) (how : Moved) : Type 0 where
  wrote : MatchBool write (Logs old.wrote (record { disk = place.disk; first = place.sector; count = 256 }) new.wrote) (new.wrote ≡ old.wrote) ⊎ (new.wrote ≡ old.wrote)
  writes : StepWrites write place old.wrote new.wrote (begun_of place.disk how)
  sizes : new.sizes ≡ old.sizes
  arranges : new.arranges ≡ old.arranges
  orders : new.orders ≡ old.orders
  misses : new.counts.misses ≡ old.counts.misses
  starts : (d : ℕ) → (d ≡ place.disk → ⊥) → new.counts.starts d ≡ old.counts.starts d
  faults : (d : ℕ) → (d ≡ place.disk → ⊥) → new.counts.faults d ≡ old.counts.faults d
  told : BothTold old.media new.media (λ was is. Unit {0})
  how_is : HowStep write place buf before old new (begun_of place.disk how)

logged : (write : Bool) (range : Range) (o m n : Option (List Range)) → m ≡ n → MatchBool write (Logs o range m) (m ≡ o) → MatchBool write (Logs o range n) (n ≡ o)
logged true range o m n same logs = subst (λ (x : Option (List Range)). Logs o range x) same logs
logged false range o m n same logs = sym same ∙ logs

has_moved : (write : Bool) (patience ticket : ℕ) (place : Place) (buf back : Buffer) (old new : Device) → IsReady old → TransferGives patience old new (flight_of ticket write place.disk place.sector 256 buf) (moved.Done back) → HasMoved write place buf back old new
has_moved true patience ticket place buf back old new ready gives =
    let effects = done_effect patience old new (flight_of ticket true place.disk place.sector 256 buf) back ready.flights gives in
    stand_told old.media new.media (Puts (flight_of ticket true place.disk place.sector 256 buf)) (λ media. RunHolds media place buf) effects.puts (λ m k puts. put_holds ticket place buf m k puts)
has_moved false patience ticket place buf back old new ready gives =
    (done_effect patience old new (flight_of ticket false place.disk place.sector 256 buf) back ready.flights gives).reads refl

module _ (write : Bool) (place : Place) (buf : Buffer) (before ticket : ℕ) (old new : Device) (data_there : data_start ≤ place.sector) (ready : IsReady old) (full : IsFull buf) where
  abbrev f : Flight
  f = flight_of ticket write place.disk place.sector 256 buf

  abbrev range : Range
  range = record { disk = place.disk; first = place.sector; count = 256 }

  effect : (how : Moved) → TransferGives before old new f how → Rests new how → Effect write place buf before old new how
  effect (moved.Done back) (now, out, ends) rests =
      let facts = out_facts old now f out in
      let it = one_left f now.flights new.flights ends.flight (out_flights old now f out ready.flights) ends.flights in
      let faults = ap (λ (d : Device). d.counts.faults) ends.new_is ∙ facts.faults in
      let effects = done_effect before old new f back ready.flights (now, out, ends) in
      record {
        wrote = inl (logged write range old.wrote out.begun.wrote new.wrote (sym (ap (λ (d : Device). d.wrote) ends.new_is ∙ facts.wrote)) out.starts.wrote);
        writes = just_step write place old.wrote new.wrote (logged write range old.wrote out.begun.wrote new.wrote (sym (ap (λ (d : Device). d.wrote) ends.new_is ∙ facts.wrote)) out.starts.wrote);
        sizes = ap (λ (d : Device). d.sizes) ends.new_is ∙ facts.sizes;
        arranges = ap (λ (d : Device). d.arranges) ends.new_is ∙ facts.arranges;
        orders = ap (λ (d : Device). d.orders) ends.new_is ∙ facts.orders;
        misses = ap (λ (d : Device). d.counts.misses) ends.new_is ∙ facts.misses;
        starts = λ d differ. ap (λ (x : Device). x.counts.starts d) ends.new_is ∙ facts.starts d differ;
        faults = λ d differ. ap (λ (h : ℕ → ℕ). h d) faults;
        told = still_told old.media now.media new.media (Puts ends.flight) facts.media ends.media;
        how_is = record {
          rested = record { ready = rests; cuts = ap (λ (d : Device). d.counts.cuts) ends.new_is ∙ facts.cuts; number_is = effects.rest.number };
          full = effects.rest.long ∙ full;
          well = λ d. ap (λ (h : ℕ → ℕ). h d) faults;
          moved = has_moved write before ticket place buf back old new ready (now, out, ends);
        };
      }
  effect (moved.Failed back) (now, out, ends) rests =
      let facts = out_facts old now f out in
      let it = one_left f now.flights new.flights ends.flight (out_flights old now f out ready.flights) ends.flights in
      let fault = is_fault f ends.flight now.counts new.counts it.0 data_there ends.counts in
      let elsewhere : (d : ℕ) → (d ≡ place.disk → ⊥) → new.counts.faults d ≡ old.counts.faults d = λ d differ. fault.faults.elsewhere d differ ∙ ap (λ (h : ℕ → ℕ). h d) facts.faults in
      record {
        wrote = inl (logged write range old.wrote out.begun.wrote new.wrote (sym (ap (λ (d : Device). d.wrote) ends.new_is ∙ facts.wrote)) out.starts.wrote);
        writes = just_step write place old.wrote new.wrote (logged write range old.wrote out.begun.wrote new.wrote (sym (ap (λ (d : Device). d.wrote) ends.new_is ∙ facts.wrote)) out.starts.wrote);
        sizes = ap (λ (d : Device). d.sizes) ends.new_is ∙ facts.sizes;
        arranges = ap (λ (d : Device). d.arranges) ends.new_is ∙ facts.arranges;
        orders = ap (λ (d : Device). d.orders) ends.new_is ∙ facts.orders;
        misses = ap (λ (c : Counts). c.misses) fault.new_is ∙ facts.misses;
        starts = λ d differ. ap (λ (c : Counts). c.starts d) fault.new_is ∙ facts.starts d differ;
        faults = elsewhere;
        told = still_told old.media now.media new.media (PutsSome ends.flight) facts.media ends.media;
        how_is = (
          refl,
          record {
            back = record { ready = rests; cuts = ap (λ (c : Counts). c.cuts) fault.new_is ∙ facts.cuts; number_is = ends.number ∙ ap (λ (g : Flight). g.buf.number) it.0 };
            rose = (subst (λ (h : ℕ → ℕ). RoseAt place.disk h new.counts.faults) facts.faults fault.faults).here;
            alone = elsewhere;
          },
        );
      }
  effect (moved.Dark true) (now, out, cuts) rests =
      let facts = out_facts old now f out in
      record {
        wrote = inl (logged write range old.wrote out.begun.wrote new.wrote (sym (ap (λ (d : Device). d.wrote) cuts.new_is ∙ facts.wrote)) out.starts.wrote);
        writes = inr (just_step write place old.wrote new.wrote (logged write range old.wrote out.begun.wrote new.wrote (sym (ap (λ (d : Device). d.wrote) cuts.new_is ∙ facts.wrote)) out.starts.wrote));
        sizes = ap (λ (d : Device). d.sizes) cuts.new_is ∙ facts.sizes;
        arranges = ap (λ (d : Device). d.arranges) cuts.new_is ∙ facts.arranges;
        orders = ap (λ (d : Device). d.orders) cuts.new_is ∙ facts.orders;
        misses = ap (λ (d : Device). d.counts.misses) cuts.new_is ∙ facts.misses;
        starts = λ d differ. ap (λ (x : Device). x.counts.starts d) cuts.new_is ∙ facts.starts d differ;
        faults = λ d differ. ap (λ (h : ℕ → ℕ). h d) (ap (λ (d : Device). d.counts.faults) cuts.new_is ∙ facts.faults);
        told = still_told old.media now.media new.media (λ m n. IsTorn m now.flights n) facts.media cuts.media;
        how_is = record {
          power = ap (λ (d : Device). d.power) cuts.new_is;
          flights = ap (λ (d : Device). d.flights) cuts.new_is;
          cuts = subst (λ (n : ℕ). Rose n new.counts.cuts) facts.cuts cuts.cuts;
        };
      }
  effect (moved.Dark false) cuts rests = record {
    wrote = inr (ap (λ (d : Device). d.wrote) cuts.new_is);
    writes = inl (just_none old.wrote new.wrote (ap (λ (d : Device). d.wrote) cuts.new_is));
    sizes = ap (λ (d : Device). d.sizes) cuts.new_is;
    arranges = ap (λ (d : Device). d.arranges) cuts.new_is;
    orders = ap (λ (d : Device). d.orders) cuts.new_is;
    misses = ap (λ (d : Device). d.counts.misses) cuts.new_is;
    starts = λ d differ. ap (λ (x : Device). x.counts.starts d) cuts.new_is;
    faults = λ d differ. ap (λ (x : Device). x.counts.faults d) cuts.new_is;
    told = still_told old.media old.media new.media (λ m n. IsTorn m old.flights n) refl cuts.media;
    how_is = record {
      power = ap (λ (d : Device). d.power) cuts.new_is;
      flights = ap (λ (d : Device). d.flights) cuts.new_is;
      cuts = cuts.cuts;
    };
  }
  effect moved.Stuck (out, waits) rests =
      let facts = out_facts old new f out in
      record {
        wrote = inl (logged write range old.wrote out.begun.wrote new.wrote (sym facts.wrote) out.starts.wrote);
        writes = just_step write place old.wrote new.wrote (logged write range old.wrote out.begun.wrote new.wrote (sym facts.wrote) out.starts.wrote);
        sizes = facts.sizes;
        arranges = facts.arranges;
        orders = facts.orders;
        misses = facts.misses;
        starts = facts.starts;
        faults = λ d differ. ap (λ (h : ℕ → ℕ). h d) facts.faults;
        told = same_told old.media new.media facts.media;
        how_is = record {
          flight = f;
          out = out_flights old new f out ready.flights;
          buffer = refl;
          freed = facts.freed ∙ ready.freed;
          power = facts.power;
          cuts = facts.cuts;
          waited = waits;
        };
      }

  logs : (w : Bool) → write ≡ w → MatchBool w (Logs old.wrote range new.wrote) (new.wrote ≡ old.wrote)
      → Rattle.lvm_write.specs.Written.LogsPlan (IsOfStep write place buf) old.wrote new.wrote
  logs true is one = logs_one (IsOfStep write place buf) old.wrote new.wrote range (step_in_plan write place buf is full) one
  logs false is one = logs_same (IsOfStep write place buf) old.wrote new.wrote one

  pub step_gives : (after : ℕ) (how : Moved) → TransferGives before old new f how → Rests new how → after ≤ before → RoseBy (before - after) old.counts.waits new.counts.waits
      → Path DeviceStep (OnlyAdds (flight_of 0 write place.disk place.sector 256 buf) old) old new → StepGives write place buf before after old new (begun_of place.disk how)
  step_gives after how gives rests falls waits path =
      let done = effect how gives rests in
      let moments = map-path (IsWriting (IsOfStep write place buf) old) (λ x. adds_writing (IsOfStep write place buf) (flight_of 0 write place.disk place.sector 256 buf) old x ready.flights (step_planned write place buf)) path in
      let other : (d : ℕ) → IsFalse (d == place.disk) → d ≡ place.disk → ⊥ = λ d off here. clash_gives (d == place.disk) (eq-eqb d place.disk here) off in
      record {
        does = record {
          keeps = record {
            sizes = done.sizes;
            arranges = done.arranges;
            orders = done.orders;
            misses = done.misses;
            starts = λ d off. done.starts d (other d off);
            faults = λ d off. done.faults d (other d off);
            wrote = ⊎_elim (logs write refl) (logs_same (IsOfStep write place buf) old.wrote new.wrote) done.wrote;
            media = media_written (IsOfStep write place buf) old new done.told (last-path moments);
          };
          spends = record { falls = falls; waits = waits };
          moments = moments;
        };
        writes = done.writes;
        how = done.how_is;
      }
