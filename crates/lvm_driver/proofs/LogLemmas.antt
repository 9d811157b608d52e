-- A history without an open request, once none of the table waits.
use Rattle.std.proofs.Common.{◌≡◌, ℕ, Bool, true, false, ◌&&◌, ◌||◌, List, [], ◌∷◌, refl, ◌∙◌}
use Rattle.std.specs.Prelude.{◌==◌}
use Rattle.std.specs.List.{list_any}
use Rattle.lvm_vol.specs.Log.{is_open}
use Rattle.lvm_session.specs.declared.open.Open.{Open}
use Rattle.lvm_session.specs.Judging.{is_waiting}
use Rattle.lvm_session.specs.State.{Core}
use Rattle.lvm_session.specs.Sound.{IsTold, waits}

none_waits : (os : List Open) (id : ℕ) → list_any is_waiting os ≡ false → waits os id ≡ false
none_waits [] id none = refl
none_waits (o ∷ os) id none = by (is_waiting o) (list_any is_waiting os) (o.request.id == id) none (none_waits os id)
  where
    by : (a rest same : Bool) → a || rest ≡ false → (rest ≡ false → waits os id ≡ false) → (a && same) || waits os id ≡ false
    by true rest same either later = absurd (cc either)
    by false rest same either later = later either

pub all_landed : (core : Core) → IsTold core → list_any is_waiting core.requests ≡ false → (id : ℕ) → is_open core.history.facts id ≡ false
all_landed core told none id = told.each id ∙ none_waits core.requests id none
