-- What is usable may be fresh.
use Rattle.std.proofs.Common.{◌≡◌, Bool, true, false, ◌&&◌, ◌||◌, not, refl, ap, ◌∙◌}
use Rattle.std.specs.Prelude.{unwrap_or}
use Rattle.lvm_num.specs.declared.place.Pp.{Pp}
use Rattle.lvm_num.specs.Descriptor.{is_pp}
use Rattle.lvm_num.specs.Status.{calls_stale}
use Rattle.lvm_num.proofs.Booleans.{not_so, or_true}
use Rattle.lvm_session.specs.State.{Core}
use Rattle.lvm_session.specs.Causes.{was_fresh}
use Rattle.lvm_session.specs.Judging.{is_missing, is_settled, is_stale, is_usable, is_wanted_stale}
use Rattle.lvm_session.specs.Sound.{may_be_fresh}

pub unsettled : (core : Core) (p : Pp) → is_stale core p ≡ false → is_settled core p ≡ false
unsettled core p fresh = ap (λ b. b && calls_stale (unwrap_or core.status.in_flight core.status.committed) p) fresh

-- what is usable may be fresh
pub usable_may : (core : Core) (p q : Pp) → not (is_pp q p) && is_usable core q ≡ true → may_be_fresh core q ≡ true
usable_may core p q e = ap (λ b. was_fresh core q || not (b && is_wanted_stale core q)) (unsettled core q (fresh_by (not (is_pp q p)) (is_stale core q) (not (is_missing core q.disk)) e)) ∙ or_true (was_fresh core q)
  where
    fresh_by : (a s m : Bool) → a && (not s && m) ≡ true → s ≡ false
    fresh_by true true m f = not_so f
    fresh_by true false m f = refl
    fresh_by false s m f = not_so f
