-- A flight ends in memory.
use Rattle.std.proofs.Common.{◌≡◌, ◌⊎◌, ℕ, List, Bool, true, false, Option, Some, slice_get, slice_index_or, IfSome, length, refl, sym, ◌∙◌, ap, subst, arith}
use Rattle.std.specs.List.{remove}
use Rattle.lvm_num.specs.Buffer.{Buffer, Sector}
use Rattle.lvm_disk.specs.Device.{Media, Flight, Device, AreSectors, written}
use Rattle.lvm_disk.specs.Counts.{Counts}
use Rattle.lvm_disk.specs.Steps.{BothTold, Removes, Puts, PutsSome, ReadsRange, ChangedAtMost, EndsDone, EndsFailed, CountsFailure}
use Rattle.lvm_memory.specs.Media.{media_of, sizes_of, written_by}
use Rattle.lvm_memory.specs.Flights.{AllLie}
use Rattle.lvm_memory.specs.Tally.{Tallied}
use Rattle.lvm_memory.specs.Injection.{Injection}
use Rattle.lvm_memory.specs.Sound.{IsSound}
use Rattle.lvm_memory.proofs.FlightsLemmas.Ending.{removed, lie_less, length-less}
use Rattle.lvm_memory.proofs.DeviceLemmas.{written_in_part}
use Rattle.lvm_memory.proofs.MediaLemmas.Laying.{length-sizes}

as_many : (disks disks1 : List (List Sector)) → sizes_of disks1 ≡ sizes_of disks → length disks1 ≡ length disks
as_many disks disks1 sizes = sym (length-sizes disks1) ∙ ap (λ (l : List ℕ). length l) sizes ∙ length-sizes disks

pub sound_arrived :
    (disks disks1 : List (List Sector)) (flights flights1 : List Flight) (freed flights_room flights_room1 freed_room : ℕ) (power : Bool) (tally tally1 : Tallied) (injection : Injection) (place : ℕ)
    → IsSound disks flights freed flights_room freed_room power tally injection → sizes_of disks1 ≡ sizes_of disks → AreSectors (sizes_of disks1) (media_of disks1)
    → flights1 ≡ remove flights place → flights_room1 ≡ flights_room → length tally1.starts ≡ length tally.starts → length tally1.misses ≡ length tally.misses → length tally1.faults ≡ length tally.faults
    → IsSound disks1 flights1 freed flights_room1 freed_room power tally1 injection
sound_arrived disks disks1 flights flights1 freed flights_room flights_room1 freed_room power tally tally1 injection place sound sizes sectors is room starts misses faults = record {
  some = omega (arith, sound.some, as_many disks disks1 sizes);
  most = omega (arith, sound.most, as_many disks disks1 sizes);
  sectors = sectors;
  lie = subst (λ (l : List Flight). AllLie (sizes_of disks1) l) (sym is) (subst (λ (s : List ℕ). AllLie s (remove flights place)) (sym sizes) (lie_less (sizes_of disks) flights place sound.lie));
  few = omega (arith, sound.few, length-less flights place, ap (λ (l : List Flight). length l) is);
  few_freed = sound.few_freed;
  room = omega (arith, sound.room);
  room_freed = sound.room_freed;
  on = sound.on;
  off = λ is_off. let none = sound.off is_off in omega (arith, length-less flights place, ap (λ (l : List Flight). length l) is);
  starts = starts ∙ sound.starts ∙ sym (as_many disks disks1 sizes);
  misses = misses ∙ sound.misses ∙ sym (as_many disks disks1 sizes);
  faults = faults ∙ sound.faults ∙ sym (as_many disks disks1 sizes);
  failing = sound.failing ∙ sym (as_many disks disks1 sizes);
}

-- what equals the media after a broken write is written in part like it
put_like : (word : ℕ) (f : Flight) (m n : Media) → ((d s : ℕ) → n d s ≡ written_by word 0 f m d s) → PutsSome f m n
put_like word f m n is d s = subst (λ (x : Sector). (x ≡ m d s) ⊎ (written f d s ≡ Some x)) (sym (is d s)) (written_in_part word 0 f m d s)

pub failed :
    (old : Device) (f : Flight) (place word : ℕ) (buf : Buffer) (m n : Media) (sizes : List ℕ) (flights : List Flight) (counts : Counts) → old.power ≡ true → old.media ≡ Some m
    → slice_get old.flights place ≡ Some f → sizes ≡ old.sizes → flights ≡ remove old.flights place → ((d s : ℕ) → n d s ≡ written_by word 0 f m d s) → buf ≡ f.buf → CountsFailure f old.counts counts
    → IfSome old.orders.alone (λ ordered. slice_index_or ordered.failing f.disk false ≡ true)
    → EndsFailed old (record old { sizes = sizes; media = Some n; flights = flights; counts = counts }) f.ticket buf
failed old f place word buf m n sizes flights counts on told there same less torn kept counted ordered = record {
  flight = f;
  power = on;
  its = refl;
  flights = subst (Removes f old.flights) (sym less) (removed old.flights place f there);
  media = subst (λ (o : Option Media). BothTold o (Some n) (PutsSome f)) (sym told) (put_like word f m n torn);
  kept = λ writes. kept;
  number = ap (λ (b : Buffer). b.number) kept;
  counts = counted;
  ordered = ordered;
  new_is = λ i. record old { sizes = same i; media = Some n; flights = flights; counts = counts };
}

pub done :
    (old : Device) (f : Flight) (place ticket : ℕ) (buf : Buffer) (m n : Media) (sizes : List ℕ) (flights : List Flight) → f.ticket ≡ ticket → old.power ≡ true → old.media ≡ Some m → slice_get old.flights place ≡ Some f
    → sizes ≡ old.sizes → flights ≡ remove old.flights place → Puts f m n → (f.write ≡ true → buf ≡ f.buf) → (f.write ≡ false → ReadsRange m f buf) → ChangedAtMost f.count f.buf buf
    → EndsDone old (record old { sizes = sizes; media = Some n; flights = flights }) ticket buf
done old f place ticket buf m n sizes flights its on told there same less puts kept read rest = record {
  flight = f;
  power = on;
  its = its;
  flights = subst (Removes f old.flights) (sym less) (removed old.flights place f there);
  media = subst (λ (o : Option Media). BothTold o (Some n) (Puts f)) (sym told) puts;
  kept = kept;
  read = λ reads. subst (λ (o : Option Media). IfSome o (λ m. ReadsRange m f buf)) (sym told) (read reads);
  rest = rest;
  new_is = λ i. record old { sizes = same i; media = Some n; flights = flights };
}
