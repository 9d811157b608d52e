-- The moments of a session's own transfers, and of a power cut that it enters.
use Rattle.std.proofs.Common.{◌≡◌, ℕ, Bool, true, false, List, [], cond, refl}
use Rattle.std.specs.Prelude.{IsSome, Option, Some, None}
use Rattle.lvm_disk.specs.Counts.{NoneFalls}
use Rattle.lvm_disk.specs.Device.{Media, Device}
use Rattle.lvm_disk.specs.Paths.{DeviceStep, Path}
use Rattle.lvm_disk.proofs.PathsLemmas.{lift-path}
use Rattle.lvm_vol.specs.Facts.{Fact, Cut}
use Rattle.lvm_vol.specs.Log.{Log, with_fact, is_uncut, cut_log}
use Rattle.lvm_kept.specs.Moments.{Moment, Step, Moves, StaysCalm}
use Rattle.lvm_kept.proofs.MomentsLemmas.Chaining.{span_counts, span_told}
use Rattle.lvm_commit.specs.passed.Steps.{RunBegins, Keeps, at}
use Rattle.lvm_commit.proofs.passed.Steps.{quiet_goes_on, calm_goes_on}

-- no count falls on the way
pub path_falls : {P : Device → Type 0} (old new : Device) → Path DeviceStep P old new → NoneFalls old.counts new.counts
path_falls {P} old new path = span_counts {P = λ m. P m.device} (lift-path Step (λ m. P m.device) (λ d. at d []) (λ x y step. Moves step refl) (λ x p. p) path)

-- what was told at the beginning of a span is
pub told_media : (run : ℕ) (past : List Fact) (first : Moment) (device : Device) (facts : List Fact) → Keeps run first (at device facts) → RunBegins run past first → (m : Media) × (device.media ≡ Some m)
told_media run past first device facts span begins = by_media device.media refl (span_told span begins.told)
  where
    by_media : (o : Option Media) → device.media ≡ o → IsSome o → (m : Media) × (device.media ≡ Some m)
    by_media None is some = absurd (let e : ◌≡◌ {A = Bool} false true = some in cc)
    by_media (Some m) is some = (m, is)

module _ (device : Device) (log : Log) where
  pub keeps_cut : (run : ℕ) (first : Moment) → Keeps run first (at device log.facts) → Keeps run first (at device (cut_log log).facts)
  keeps_cut run first span = by_test (is_uncut log.facts)
    where
      by_test : (b : Bool) → Keeps run first (at device (cond b (with_fact log Cut) log).facts)
      by_test true = quiet_goes_on run first device log.facts Cut span tt (λ past begins holds. tt)
      by_test false = span

  pub calm_cut : (first : Moment) → StaysCalm first (at device log.facts) → StaysCalm first (at device (cut_log log).facts)
  calm_cut first calm = by_test (is_uncut log.facts)
    where
      by_test : (b : Bool) → StaysCalm first (at device (cond b (with_fact log Cut) log).facts)
      by_test true = calm_goes_on first device log.facts Cut calm tt
      by_test false = calm
