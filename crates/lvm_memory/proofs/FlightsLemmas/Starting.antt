-- A flight starts.
use Rattle.std.proofs.Common.{◌≡◌, ◌<◌, ◌==◌, [], ◌∷◌, ◌++◌, ℕ, zero, suc, List, Bool, true, false, cond, Option, Some, None, nat_lt, slice_get, slice_index_or, length, refl, sym, ap, subst, arith}
use Rattle.std.specs.Bool.{MatchBool}
use Rattle.std.proofs.lemmas.Bool.{eqb-false}
use Rattle.lvm_num.proofs.Booleans.{first_fails, second_fails}
use Rattle.lvm_disk.specs.Device.{Flight, Range, Device}
use Rattle.lvm_disk.specs.Counts.{Counts, RoseAt}
use Rattle.lvm_disk.specs.Steps.{IsRange, IsNewTicket, Logs, Starts}
use Rattle.lvm_memory.specs.Flights.{Lies, AllLie, flight_of, flights_of, delays_of}
use Rattle.lvm_memory.specs.Tickets.{has_ticket}
use Rattle.lvm_memory.specs.Log.{logged}
use Rattle.lvm_memory.specs.declared.flying.Flying.{Flying}

-- a ticket that no flight has is fresh
pub fresh : (flights : List Flight) (t : ℕ) → has_ticket t flights ≡ false → IsNewTicket t flights
fresh [] t none = tt
fresh (f ∷ flights) t none = (eqb-false f.ticket t (first_fails (f.ticket == t) (has_ticket t flights) none), fresh flights t (second_fails (f.ticket == t) (has_ticket t flights) none))

logs_by : (b : Bool) (ranges : List Range) (range : Range) → Logs (Some ranges) range (cond b (Some (ranges ++ range ∷ [])) None)
logs_by true ranges range = refl
logs_by false ranges range = tt

logs_logged : (room : ℕ) (old : Option (List Range)) (range : Range) → Logs old range (logged room old range)
logs_logged room None range = tt
logs_logged room (Some ranges) range = logs_by (nat_lt (length ranges) room) ranges range

logs : (write : Bool) (room : ℕ) (old new : Option (List Range)) (range : Range) → new ≡ cond write (logged room old range) old → MatchBool write (Logs old range new) (new ≡ old)
logs true room old new range is = subst (Logs old range) (sym is) (logs_logged room old range)
logs false room old new range is = is

pub flights_more : (l : List Flying) (f : Flying) → flights_of (l ++ f ∷ []) ≡ flights_of l ++ flight_of f ∷ []
flights_more [] f = refl
flights_more (g ∷ l) f = ap (λ (m : List Flight). flight_of g ∷ m) (flights_more l f)

pub delays_more : (l : List Flying) (f : Flying) → delays_of (l ++ f ∷ []) ≡ delays_of l ++ f.delay ∷ []
delays_more [] f = refl
delays_more (g ∷ l) f = ap (λ (m : List ℕ). g.delay ∷ m) (delays_more l f)

pub started :
    (old : Device) (f : Flight) (room : ℕ) (flights : List Flight) (counts : Counts) (wrote : Option (List Range)) → old.power ≡ true → has_ticket f.ticket old.flights ≡ false
    → flights ≡ old.flights ++ f ∷ [] → RoseAt f.disk old.counts.starts counts.starts → counts ≡ record old.counts { starts = counts.starts }
    → wrote ≡ cond f.write (logged room old.wrote (record { disk = f.disk; first = f.first; count = f.count })) old.wrote
    → Starts old (record old { flights = flights; counts = counts; wrote = wrote }) f
started old f room flights counts wrote on free more rose same writes = record {
  power = on;
  fresh = fresh old.flights f.ticket free;
  starts = rose;
  wrote = logs f.write room old.wrote wrote (record { disk = f.disk; first = f.first; count = f.count }) writes;
  new_is = λ i. record old { flights = more i; counts = same i; wrote = wrote };
}

pub lie_more : (sizes : List ℕ) (flights : List Flight) (f : Flight) → AllLie sizes flights → Lies sizes f → AllLie sizes (flights ++ f ∷ [])
lie_more sizes [] f each last zero g is = let e : f ≡ g = cc in subst (Lies sizes) e last
lie_more sizes [] f each last (suc i) g is = absurd (cc)
lie_more sizes (h ∷ flights) f each last zero g is = each zero g is
lie_more sizes (h ∷ flights) f each last (suc i) g is = lie_more sizes flights f (λ j. each (suc j)) last i g is

size_get : (sizes : List ℕ) (d : ℕ) → d < length sizes → slice_get sizes d ≡ Some (slice_index_or sizes d 0)
size_get [] d within = absurd (omega arith)
size_get (x ∷ sizes) zero within = refl
size_get (x ∷ sizes) (suc d) within = size_get sizes d (omega arith)

-- a range of the device is one that a flight may lie in
pub range_lies : (device : Device) (f : Flight) → IsRange device f.disk f.first f.count → Lies device.sizes f
range_lies device f range = record { there = range.there; most = range.most; within = range.within (slice_index_or device.sizes f.disk 0) (size_get device.sizes f.disk range.there) }
