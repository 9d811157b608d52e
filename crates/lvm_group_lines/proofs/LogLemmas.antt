-- Cuts in a history.
use Rattle.std.proofs.Common.{◌≡◌, ◌∷◌, ◌++◌, [], ℕ, List, Bool, true, false, if◌then◌else◌, refl, sym, ap, subst}
use Rattle.lvm_disk.specs.Device.{Device}
use Rattle.lvm_vol.specs.Facts.{Fact, Cut}
use Rattle.lvm_vol.specs.Log.{Log, is_uncut, cut_log}
use Rattle.lvm_vol.specs.Legal.{IsLater}
use Rattle.lvm_kept.specs.Moments.{Moment}
use Rattle.lvm_steps.specs.Moments.{Keeps}
use Rattle.lvm_steps.specs.Requests.{at}
use Rattle.lvm_steps.proofs.EnteringLemmas.{quiet_goes_on}
use Rattle.lvm_steps.proofs.LawsLemmas.Clock.{later_joins}
use Rattle.lvm_group_lines.specs.State.{log_with, without_facts}

-- ---- a cut in the history

-- what goes on with one entry more, or with none, goes on with a cut where it ends something
module _ (P : List Fact → Type 0) (log : Log) (none : P log.facts) (one : P (log.facts ++ Cut ∷ [])) where
  pub with_cut : P (cut_log log).facts
  with_cut = go (is_uncut log.facts) refl
    where
      go : (b : Bool) → is_uncut log.facts ≡ b → P (cut_log log).facts
      go true is = subst (λ (b : Bool). P (if b then log_with log (log.facts ++ Cut ∷ []) else log).facts) (sym is) one
      go false is = subst (λ (b : Bool). P (if b then log_with log (log.facts ++ Cut ∷ []) else log).facts) (sym is) none

pub cut_keeps : (run : ℕ) (first : Moment) (device : Device) (log : Log) → Keeps run first (at device log.facts) → Keeps run first (at device (cut_log log).facts)
cut_keeps run first device log keeps = with_cut (λ facts. Keeps run first (at device facts)) log keeps (quiet_goes_on run first device log.facts Cut keeps tt (λ past begins holds. tt))

pub cut_later : (moment : ℕ) (log : Log) → IsLater log.facts moment → IsLater (cut_log log).facts moment
cut_later moment log later = with_cut (λ facts. IsLater facts moment) log later (later_joins moment log.facts (Cut ∷ []) later tt)

pub cut_rooms : (log : Log) → without_facts (cut_log log) ≡ without_facts log
cut_rooms log = go (is_uncut log.facts) refl
  where
    go : (b : Bool) → is_uncut log.facts ≡ b → without_facts (cut_log log) ≡ without_facts log
    go true is = ap (λ (b : Bool). without_facts (if b then log_with log (log.facts ++ Cut ∷ []) else log)) is
    go false is = ap (λ (b : Bool). without_facts (if b then log_with log (log.facts ++ Cut ∷ []) else log)) is
