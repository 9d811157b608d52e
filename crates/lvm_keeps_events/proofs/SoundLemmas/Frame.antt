-- What stays where a transfer is started.
use Rattle.std.proofs.Common.{◌≡◌, ◌≤◌, ℕ, Bool, List, [], ◌∷◌, ◌++◌, Option, length, refl, subst, sym}
use Rattle.lvm_disk.specs.Device.{Device, Flight, Range}
use Rattle.lvm_session.specs.declared.bringing.OpenCopy.{OpenCopy}
use Rattle.lvm_session.specs.declared.flown.Flown.{Flown}
use Rattle.lvm_session.specs.declared.open.Open.{Open}
use Rattle.lvm_session.specs.State.{State, state}
use Rattle.lvm_session.specs.Sound.{IsFitting}
use Rattle.lvm_keeps.proofs.SoundLemmas.Fitting.{still_fits}
use Rattle.lvm_keeps.proofs.RequestsLemmas.{changed}

-- the shelf with one transfer more
abbrev pub launched : Device → Flight → (ℕ → ℕ) → Option (List Range) → Device
launched device f starts wrote = record device { flights = device.flights ++ f ∷ []; counts = record device.counts { starts = starts }; wrote = wrote }

module _ (s : State) (f : Flight) (starts : ℕ → ℕ) (wrote : Option (List Range)) (requests : List Open) (copy : Option OpenCopy) (pool : List Bool) (flying : List Flown) where
  abbrev pub after : State
  after = state (launched s.device f starts wrote) (changed s.core s.core.history requests s.core.queue copy pool flying s.core.cache.entries s.core.last)

  pub fitting_on : length requests ≡ length s.core.requests → length pool ≡ length s.core.pool → IsFitting s.core → IsFitting after.core
  fitting_on same long f = still_fits s.core after.core f refl f.entries (λ disk. refl) (subst (λ n. n ≤ s.core.most) (sym same) f.table) long f.room
