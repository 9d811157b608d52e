-- The oldest transfer ends.
use Rattle.std.proofs.Common.{◌≡◌, ℕ, List, true, Some, slice_get, refl, sym, subst}
use Rattle.std.specs.List.{remove}
use Rattle.lvm_num.specs.Buffer.{Buffer}
use Rattle.lvm_disk.specs.Device.{Flight}
use Rattle.lvm_disk.specs.Counts.{Counts}
use Rattle.lvm_disk.specs.Steps.{Removes, ChangedAtMost, EndsDone, EndsFailed, CountsFailure}
use Rattle.lvm_memory.specs.Flights.{flight_of}
use Rattle.lvm_memory.specs.declared.flying.Flying.{Flying}
use Rattle.lvm_memory.proofs.FlightsLemmas.Ending.{removed}
use Rattle.lvm_lane.specs.Files.{working_device}

pub ends_done :
    (sizes sizes1 : List ℕ) (flights flights1 : List Flight) (counts : Counts) (f : Flight) (ticket : ℕ) (buf : Buffer) → slice_get flights 0 ≡ Some f → flights1 ≡ remove flights 0 → sizes1 ≡ sizes
    → f.ticket ≡ ticket → (f.write ≡ true → buf ≡ f.buf) → ChangedAtMost f.count f.buf buf → EndsDone (working_device sizes flights counts) (working_device sizes1 flights1 counts) ticket buf
ends_done sizes sizes1 flights flights1 counts f ticket buf there less same its kept rest = record {
  flight = f;
  power = refl;
  its = its;
  flights = subst (Removes f flights) (sym less) (removed flights 0 f there);
  media = tt;
  kept = kept;
  read = λ reads. tt;
  rest = rest;
  new_is = λ i. working_device (same i) flights1 counts;
}

pub ends_failed :
    (sizes sizes1 : List ℕ) (flights flights1 : List Flight) (counts counts1 : Counts) (f : Flight) (ticket : ℕ) (buf : Buffer) → slice_get flights 0 ≡ Some f → flights1 ≡ remove flights 0 → sizes1 ≡ sizes
    → f.ticket ≡ ticket → (f.write ≡ true → buf ≡ f.buf) → ChangedAtMost f.count f.buf buf → CountsFailure f counts counts1
    → EndsFailed (working_device sizes flights counts) (working_device sizes1 flights1 counts1) ticket buf
ends_failed sizes sizes1 flights flights1 counts counts1 f ticket buf there less same its kept rest counted = record {
  flight = f;
  power = refl;
  its = its;
  flights = subst (Removes f flights) (sym less) (removed flights 0 f there);
  media = tt;
  kept = kept;
  number = rest.number;
  counts = counted;
  ordered = tt;
  new_is = λ i. working_device (same i) flights1 counts1;
}

-- a failure is counted by what the transfer is, whatever its buffer has
pub counted_alike : (old new : Flying) (counts counts1 : Counts) → new ≡ record old { buf = new.buf } → CountsFailure (flight_of new) counts counts1 → CountsFailure (flight_of old) counts counts1
counted_alike old new counts counts1 same counted = subst (λ (f : Flying). CountsFailure (flight_of f) counts counts1) same counted
