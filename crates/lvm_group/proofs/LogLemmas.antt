-- The history as the contents of disks are given up, and as the power is cut.
use Rattle.std.proofs.Common.{◌≡◌, ℕ, ◌+◌, ◌-◌, ◌<◌, Bool, true, false, cond, List, [], ◌∷◌, ◌++◌, length, get_or, take, refl, sym, ap, subst, ◌∙◌, append_assoc, arith}
use Rattle.std.specs.Prelude.{map}
use Rattle.std.proofs.lemmas.List.{map_more, append-nil}
use Rattle.std.proofs.lemmas.List.Sums.{sum_by-append, sum_by-cons}
use Rattle.lvm_disk.specs.Device.{Device}
use Rattle.lvm_vol.specs.declared.entry.Vol.TheVariants.{Disk}
use Rattle.lvm_vol.specs.Facts.{Fact, Removed, Cut}
use Rattle.lvm_vol.specs.Legal.{IsLater}
use Rattle.lvm_vol.specs.Log.{Log, with_fact, cut_log, is_uncut, is_open, need, needed, spare_entries}
use Rattle.lvm_kept.specs.Moments.{Moment, StaysCalm}
use Rattle.lvm_steps.specs.Moments.{Keeps}
use Rattle.lvm_steps.specs.Requests.{at}
use Rattle.lvm_steps.proofs.EnteringLemmas.{quiet_goes_on, calm_goes_on}
use Rattle.lvm_group.specs.passed.Core.{HaveAllLanded}
use Rattle.lvm_group.proofs.passed.Core.{landed_still}
use Rattle.lvm_steps.proofs.LawsLemmas.Clock.{later_joins}
use Rattle.lvm_group.specs.NewGroup.{given_up}

-- the entries by which the contents of disks are given up
abbrev pub out : List ℕ → List Fact
out disks = map (λ disk. Removed (Disk disk)) disks

-- one disk more
pub given_more : (log : Log) (disks : List ℕ) (i : ℕ) → i < length disks → with_fact (given_up log (take i disks)) (Removed (Disk (get_or disks i 0))) ≡ given_up log (take (i + 1) disks)
given_more log disks i lt = ap (λ (l : List Fact). let given : Log = record log { facts = l } in given)
    (append_assoc log.facts (out (take i disks)) (Removed (Disk (get_or disks i 0)) ∷ []) ∙ ap (λ (l : List Fact). log.facts ++ l) (sym (map_more (λ disk. Removed (Disk disk)) disks i 0 lt)))

out_needs : (disks : List ℕ) → needed (out disks) ≡ length disks
out_needs [] = refl
out_needs (d ∷ disks) = let rest = out_needs disks in let more : needed (out (d ∷ disks)) ≡ 1 + needed (out disks) = sum_by-cons need (Removed (Disk d)) (out disks) in omega (arith, rest, more)

pub spare_given : (log : Log) (disks : List ℕ) → spare_entries (given_up log disks) ≡ spare_entries log - length disks
spare_given log disks =
    let all : needed (log.facts ++ out disks) ≡ needed log.facts + needed (out disks) = sum_by-append need log.facts (out disks) in
    let more = out_needs disks in
    omega (arith, all, more)

-- ---- no request begins or lands

pub landed_given : (facts : List Fact) (disks : List ℕ) → HaveAllLanded facts → HaveAllLanded (facts ++ out disks)
landed_given facts [] landed id = ap (λ (l : List Fact). is_open l id) (append-nil facts) ∙ landed id
landed_given facts (d ∷ disks) landed id =
    ap (λ (l : List Fact). is_open l id) (sym (append_assoc facts (Removed (Disk d) ∷ []) (out disks)))
    ∙ landed_given (facts ++ Removed (Disk d) ∷ []) disks (landed_still facts (Removed (Disk d)) refl (λ i. refl) landed) id

-- ---- no group comes on

out_later : (disks : List ℕ) (moment : ℕ) → IsLater (out disks) moment
out_later [] moment = tt
out_later (d ∷ disks) moment = out_later disks moment

pub later_given : (facts : List Fact) (disks : List ℕ) (moment : ℕ) → IsLater facts moment → IsLater (facts ++ out disks) moment
later_given facts disks moment later = later_joins moment facts (out disks) later (out_later disks moment)

-- ---- no write is opened

pub calm_given : (first : Moment) (device : Device) (facts : List Fact) (disks : List ℕ) → StaysCalm first (at device facts) → StaysCalm first (at device (facts ++ out disks))
calm_given first device facts [] calm = subst (λ (l : List Fact). StaysCalm first (at device l)) (sym (append-nil facts)) calm
calm_given first device facts (d ∷ disks) calm =
    subst (λ (l : List Fact). StaysCalm first (at device l)) (append_assoc facts (Removed (Disk d) ∷ []) (out disks))
    (calm_given first device (facts ++ Removed (Disk d) ∷ []) disks (calm_goes_on first device facts (Removed (Disk d)) calm tt))

-- ---- a cut

pub keeps_cut : (run : ℕ) (first : Moment) (device : Device) (log : Log) → Keeps run first (at device log.facts) → Keeps run first (at device (cut_log log).facts)
keeps_cut run first device log span = by_test (is_uncut log.facts)
  where
    by_test : (b : Bool) → Keeps run first (at device (cond b (with_fact log Cut) log).facts)
    by_test true = quiet_goes_on run first device log.facts Cut span tt (λ past begins holds. tt)
    by_test false = span

pub calm_cut : (first : Moment) (device : Device) (log : Log) → StaysCalm first (at device log.facts) → StaysCalm first (at device (cut_log log).facts)
calm_cut first device log calm = by_test (is_uncut log.facts)
  where
    by_test : (b : Bool) → StaysCalm first (at device (cond b (with_fact log Cut) log).facts)
    by_test true = calm_goes_on first device log.facts Cut calm tt
    by_test false = calm
