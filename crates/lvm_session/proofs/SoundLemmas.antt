-- A session that is on is sound by what holds of it while it is on.
use Rattle.std.proofs.Common.{◌≡◌, ℕ, false, sym, ap, ◌∙◌, arith}
use Rattle.std.specs.Prelude.{IfSome, slice_index_or}
use Rattle.std.specs.List.{AllByRecursion}
use Rattle.lvm_num.proofs.Booleans.{not_so}
use Rattle.lvm_session.specs.declared.bringing.OpenCopy.{OpenCopy}
use Rattle.lvm_session.specs.declared.open.Power.TheVariants as power
use Rattle.lvm_session.specs.State.{State}
use Rattle.lvm_session.specs.Judging.{copies_in}
use Rattle.lvm_session.specs.Causes.{AreCounted, IsAnswered, IsCausedAmong, IsTrueToOrigin, is_over}
use Rattle.lvm_session.specs.Placed.{ArePlaced}
use Rattle.lvm_session.specs.Sound.{IsFitting, HasPower, IsOn, IsSound, IsTold, count_if, is_dark, out_with}

on_is_not_off : {X : Type 0} → power.On ≡ power.Off → X
on_is_not_off e = absurd cc

on_is_not_stuck : {X : Type 0} → power.On ≡ power.Stuck → X
on_is_not_stuck e = absurd cc

-- why each request that has landed did so, why the copy ended, and why disks are missing and copies stale
pub record HasCauses (s : State) : Type 0 where
  pub counted : AllByRecursion (AreCounted s) s.core.requests
  pub answered : AllByRecursion (IsAnswered s) s.core.requests
  pub copy : IfSome s.core.copy (λ (c : OpenCopy). IsCausedAmong s (copies_in s.core.descriptor c.lv c.lp) c)
  pub origin : IsTrueToOrigin s

pub sound_while_on : (s : State) → s.core.power ≡ power.On → HasPower s.device → IsFitting s.core → IsTold s.core → ArePlaced s.device.sizes s.core.descriptor s.core.origin.table
    → ((n : ℕ) → out_with s.device s.core n ≡ count_if (slice_index_or s.core.pool n false)) → IsOn s → HasCauses s → IsSound s
sound_while_on s on lit fitting told placed out while causes = record {
  fitting = fitting;
  told = told;
  placed = placed;
  buffers = λ n. let same = out n in omega (arith, same);
  none_lost = λ e. out;
  on = λ e. while;
  lit = λ e. lit;
  dark = λ e. not_so (sym (ap is_dark on) ∙ e);
  off = λ e. on_is_not_off (sym on ∙ e);
  over = λ e. not_so (sym (ap is_over on) ∙ e);
  stuck = λ e. on_is_not_stuck (sym on ∙ e);
  counted = causes.counted;
  answered = causes.answered;
  copy = causes.copy;
  origin = causes.origin;
}
