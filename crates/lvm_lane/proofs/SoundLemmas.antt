-- Transfers are queued and taken out.
use Rattle.std.proofs.Common.{◌≡◌, ◌≤◌, ◌<◌, ◌++◌, [], ◌∷◌, ℕ, List, Bool, true, false, cond, None, length, refl, sym, ◌∙◌, ap, subst, arith, length-append}
use Rattle.std.specs.List.{remove}
use Rattle.lvm_disk.specs.Device.{Flight, Range}
use Rattle.lvm_memory.specs.Flights.{Lies, AllLie}
use Rattle.lvm_memory.specs.Tally.{Tallied}
use Rattle.lvm_memory.specs.Log.{logged}
use Rattle.lvm_memory.proofs.FlightsLemmas.Starting.{lie_more}
use Rattle.lvm_memory.proofs.FlightsLemmas.Ending.{lie_less, length-less}
use Rattle.lvm_lane.specs.Sound.{IsSound}

-- one transfer more
pub sound_queued :
    (sizes : List ℕ) (flights more : List Flight) (room room1 : ℕ) (tally tally1 : Tallied) → IsSound sizes flights room tally → (f : Flight) → Lies sizes f → length flights < 1024 → room ≤ room1
    → more ≡ flights ++ f ∷ [] → length tally1.starts ≡ length tally.starts → tally1 ≡ record tally { starts = tally1.starts } → IsSound sizes more room1 tally1
sound_queued sizes flights more room room1 tally tally1 sound f lies few grown is long same = record {
  some = sound.some;
  most = sound.most;
  lie = subst (AllLie sizes) (sym is) (lie_more sizes flights f sound.lie lies);
  few = omega (arith, ap length is, length-append flights (f ∷ []));
  room = omega (arith, sound.room);
  starts = long ∙ sound.starts;
  misses = ap (λ (t : Tallied). length t.misses) same ∙ sound.misses;
  faults = ap (λ (t : Tallied). length t.faults) same ∙ sound.faults;
}

-- the oldest is taken out
pub sound_taken :
    (sizes sizes1 : List ℕ) (flights flights1 : List Flight) (room room1 : ℕ) (tally tally1 : Tallied) → IsSound sizes flights room tally → sizes1 ≡ sizes → flights1 ≡ remove flights 0 → room1 ≡ room
    → length tally1.starts ≡ length tally.starts → length tally1.misses ≡ length tally.misses → length tally1.faults ≡ length tally.faults → IsSound sizes1 flights1 room1 tally1
sound_taken sizes sizes1 flights flights1 room room1 tally tally1 sound same is as_large starts misses faults = subst (λ (s : List ℕ). IsSound s flights1 room1 tally1) (sym same) (record {
  some = sound.some;
  most = sound.most;
  lie = subst (AllLie sizes) (sym is) (lie_less sizes flights 0 sound.lie);
  few = omega (arith, sound.few, length-less flights 0, ap (λ (l : List Flight). length l) is);
  room = omega (arith, sound.room);
  starts = starts ∙ sound.starts;
  misses = misses ∙ sound.misses;
  faults = faults ∙ sound.faults;
})

-- a list of ranges that isn't told goes on so
pub untold : (write : Bool) (range : Range) → None ≡ cond write (logged 0 None range) None
untold true range = refl
untold false range = refl
