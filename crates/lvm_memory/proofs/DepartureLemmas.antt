-- A flight starts in memory.
use Rattle.std.proofs.Common.{◌≡◌, ◌<◌, ◌≤◌, [], ◌∷◌, ◌++◌, ℕ, List, Bool, true, false, ◌||◌, nat_lt, length, refl, sym, ◌∙◌, ap, subst, arith, length-append}
use Rattle.std.proofs.lemmas.Bool.Decides.{nat_tests}
use Rattle.lvm_num.specs.Buffer.{Sector}
use Rattle.lvm_disk.specs.Device.{Flight}
use Rattle.lvm_memory.specs.Media.{sizes_of}
use Rattle.lvm_memory.specs.Flights.{Lies, AllLie, NoDelays}
use Rattle.lvm_memory.specs.Tally.{Tallied}
use Rattle.lvm_memory.specs.Injection.{Injection}
use Rattle.lvm_memory.specs.Sound.{IsSound}
use Rattle.lvm_memory.proofs.FlightsLemmas.Starting.{lie_more}
use Rattle.lvm_memory.proofs.TicketsLemmas.{none_more}

pub sound_departed :
    (disks : List (List Sector)) (flights more : List Flight) (freed flights_room flights_room1 freed_room : ℕ) (power : Bool) (tally tally1 : Tallied) (injection injection1 : Injection)
    → IsSound disks flights freed flights_room freed_room power tally injection → (f : Flight) → Lies (sizes_of disks) f → length flights < 1024 → power ≡ true → flights_room ≤ flights_room1
    → more ≡ flights ++ f ∷ [] → length tally1.starts ≡ length tally.starts → tally1 ≡ record tally { starts = tally1.starts } → injection1 ≡ record injection { delay = 0 }
    → IsSound disks more freed flights_room1 freed_room power tally1 injection1
sound_departed disks flights more freed flights_room flights_room1 freed_room power tally tally1 injection injection1 sound f lies few is_on grown is long same_tally same_injection = record {
  some = sound.some;
  most = sound.most;
  sectors = sound.sectors;
  lie = subst (AllLie (sizes_of disks)) (sym is) (lie_more (sizes_of disks) flights f sound.lie lies);
  few = omega (arith, ap length is, length-append flights (f ∷ []));
  few_freed = sound.few_freed;
  room = omega (arith, sound.room);
  room_freed = sound.room_freed;
  on = sound.on;
  off = λ is_off. absurd (cc);
  starts = long ∙ sound.starts;
  misses = ap (λ (t : Tallied). length t.misses) same_tally ∙ sound.misses;
  faults = ap (λ (t : Tallied). length t.faults) same_tally ∙ sound.faults;
  failing = ap (λ (i : Injection). length i.failing) same_injection ∙ sound.failing;
}

-- a flight that may be passed over is noted
pub delays_departed : (delayed : Bool) (delay : ℕ) (delays more : List ℕ) → (delayed ≡ false → NoDelays delays) → more ≡ delays ++ delay ∷ [] → (delayed || nat_lt 0 delay) ≡ false → NoDelays more
delays_departed true delay delays more none is off = absurd (cc)
delays_departed false delay delays more none is off = subst NoDelays (sym is) (none_more delays delay (none refl) (grind (arith, nat_tests)))
