-- What the making and the removal of a volume answer.
use Rattle.std.proofs.Common.{◌≡◌, ◌⊎◌, inl, inr, ⊎_elim, ℕ, Bool, true, false, Result, Err, refl, subst, ◌∙◌, arith}
use Rattle.std.specs.Prelude.{⊤, MatchBool, Contains, slice_set}
use Rattle.lvm_num.specs.declared.place.Pp.{Pp}
use Rattle.lvm_num.specs.declared.descriptor.Descriptor.{Descriptor}
use Rattle.lvm_vol.specs.Facts.{Making, Made}
use Rattle.lvm_vol.specs.Log.{Log, with_fact}
use Rattle.lvm_volume_plan.specs.passed.Core.{CommitFault, IsSettled, Leaves}
use Rattle.lvm_volume_plan.specs.passed.CoreFaultCommitFault as commit
use Rattle.lvm_session.specs.State.{State}
use Rattle.lvm_volumes.specs.Endings.{commanding, removing_by, with_descriptor}
use Rattle.lvm_volumes.specs.Stages.{CommandBroke, making_of, MakingBroke, MakeEnds, IsNamed, RemoveEnds, IsGone}
use Rattle.lvm_volumes.specs.Volumes.{IsWith, IsChosen, making, HasEntered, MakingEnds, IsVolumeMade, MklvGives, to_make, IsVolumeRemoved, RmlvGives, removed, removing, to_remove, unnamed}
use Rattle.lvm_volumes.proofs.Leaving.{leaves_wider}
use Rattle.lvm_volume_plan.specs.declared.fault.GroupFault.{GroupFault}
use Rattle.lvm_volume_plan.specs.declared.fault.GroupFault.TheVariants as fault
use Rattle.lvm_volume_plan.specs.declared.new_volume.NewVolume.{NewVolume}
use Rattle.lvm_volume_plan.specs.declared.new_volume.VolumePlan.{VolumePlan}
use Rattle.lvm_volume_plan.specs.NewVolume.{without_volume}
use Rattle.lvm_volume_plan.specs.Faults.{fault_of, RefusesMklv, RefusesRmlv, IfOn, is_over}
use Rattle.lvm_volume_plan.specs.PlannedVolume.{IsPlannedVolume, IsWithout}

-- ---- refusals

pub refused_mklv : (v : NewVolume) (p : ℕ) (s : State) (why : GroupFault) → RefusesMklv v s.core why → MklvGives v p s s (Err why)
refused_mklv v p s fault.Dark refuses = inl (refl, refuses)
refused_mklv v p s (fault.WentOff have total) refuses = inl (refl, refuses)
refused_mklv v p s fault.NoVolume refuses = refuses
refused_mklv v p s (fault.StaleCopy lp) refuses = refuses
refused_mklv v p s (fault.LastFresh lp) refuses = refuses
refused_mklv v p s (fault.DiskFailed disk) refuses = absurd refuses
refused_mklv v p s fault.Stuck refuses = absurd refuses
refused_mklv v p s _ refuses = (refl, refuses)

pub refused_rmlv : (lv p : ℕ) (s : State) (why : GroupFault) → RefusesRmlv lv s.core why → RmlvGives lv p s s (Err why)
refused_rmlv lv p s fault.Dark refuses = inl (refl, refuses)
refused_rmlv lv p s (fault.WentOff have total) refuses = inl (refl, refuses)
refused_rmlv lv p s fault.Busy refuses = (refl, refuses)
refused_rmlv lv p s fault.NoVolume refuses = (refl, refuses)
refused_rmlv lv p s fault.HistoryFull refuses = (refl, refuses)
refused_rmlv lv p s fault.Stuck refuses = absurd refuses
refused_rmlv lv p s fault.Memory refuses = (refl, refuses)
refused_rmlv lv p s _ refuses = refuses

-- what holds at any rate holds where the session goes on
pub always_on : {A : Type 0} (r : Result A GroupFault) (P : Type 0) → P → IfOn r P
always_on r P holds = unless (is_over r)
  where
    unless : (over : Bool) → MatchBool over ⊤ P
    unless true = tt
    unless false = holds

-- ---- the making

module _ (v : NewVolume) (plan : VolumePlan) (a : State) (planned : IsPlannedVolume v a.core plan) where
  its_next : (d : Descriptor) → d ≡ plan.next → IsWith v a.core d
  its_next d is = (plan.map, planned.may.places, (plan.number, planned.lowest, is ∙ planned.next))

  its_places : (pp : Pp) → Contains plan.map pp → IsChosen v a.core pp
  its_places pp inside = (plan.map, planned.may.places, inside)

  pub made_leaves : (p q : ℕ) (b : State) → Leaves (commanding (λ d. d ≡ plan.next) (Contains plan.map) 2) p q a b → Leaves (to_make v a.core) p q a b
  made_leaves p q b = leaves_wider (commanding (λ d. d ≡ plan.next) (Contains plan.map) 2) (to_make v a.core) its_next its_places (λ pp none. none) its_places (λ lv none. none) (omega arith) p q a b (λ run first held only. only)

  same_making : making_of plan a ≡ making v plan.number a
  same_making = λ t. with_fact a.core.history (Making plan.number (planned.blocks t) (planned.mode t))

  broke : (b : State) (Ends : Log → Type 0) → MakingBroke plan a b Ends → MakingEnds v a b Ends
  broke b Ends off = record {
    map = plan.map;
    may = planned.may;
    entered = off.entered;
    so_far = ⊎_elim (λ none. inl none) (λ made. inr (plan.number, planned.lowest, made.0 ∙ same_making, made.1)) off.so_far;
    ends = off.ends;
  }

  pub make_fails : (p : ℕ) (b : State) (why : CommitFault) → MakeEnds plan p a b (Err why) → MklvGives v p a b (Err (fault_of why))
  make_fails p b commit.Dark ends = inr (broke b _ ends)
  make_fails p b (commit.WentOff have total) ends = inr (broke b _ ends)
  make_fails p b (commit.DiskFailed disk) ends = record { map = plan.map; may = planned.may; its = ends.its; lowest = ends.lowest; ends = ends.ends }
  make_fails p b commit.Stuck ends = broke b _ ends

  pub make_settled : (p : ℕ) (b : State) (why : CommitFault) → MakeEnds plan p a b (Err why) → IfOn {A = Unit {0}} (Err (fault_of why)) (IsSettled b.core)
  make_settled p b commit.Dark ends = tt
  make_settled p b (commit.WentOff have total) ends = tt
  make_settled p b (commit.DiskFailed disk) ends = ends.settled
  make_settled p b commit.Stuck ends = tt

  pub make_given : (b : State) → IsNamed plan a b → IsVolumeMade v plan.number a b
  make_given b named = record {
    map = plan.map;
    may = planned.may;
    lowest = planned.lowest;
    is = named.is ∙ (λ t. record a.core { descriptor = planned.next t; history = with_fact (same_making t) (Made plan.number); last = slice_set a.core.last plan.number 0; status = b.core.status; homes = b.core.homes });
    zeros = named.zeros;
    fresh = named.fresh;
    ready = named.ready;
    cuts = named.cuts;
  }

-- ---- the removal

module _ (lv : ℕ) (next : Descriptor) (a : State) (without : IsWithout lv a.core next) where
  its_rest : (d : Descriptor) → d ≡ next → d ≡ without_volume a.core.descriptor lv
  its_rest d is = is ∙ without.is

  pub removed_leaves : (p q : ℕ) (b : State) → Leaves (removing_by (λ d. d ≡ next) lv) p q a b → Leaves (to_remove lv a.core) p q a b
  removed_leaves p q b = leaves_wider (removing_by (λ d. d ≡ next) lv) (to_remove lv a.core) its_rest (λ pp none. none) (λ pp none. none) (λ pp none. none) (λ n is. is) (omega arith) p q a b (λ run first held only. only)

  -- it broke off before it was done, or behind that
  broke_off : (p : ℕ) (b : State) (why : CommitFault) → RemoveEnds lv next p a b (Err why) → CommandBroke (removing lv a) p a b why ⊎ CommandBroke (removed lv a) p (unnamed lv a) b why
  broke_off p b why ends = subst (λ (d : Descriptor). CommandBroke (removing lv a) p a b why ⊎ CommandBroke (removed lv a) p (with_descriptor d a) b why) without.is ends

  pub remove_fails : (p : ℕ) (b : State) (why : CommitFault) → RemoveEnds lv next p a b (Err why) → RmlvGives lv p a b (Err (fault_of why))
  remove_fails p b commit.Dark ends = inr (record { may = without.may; ends = broke_off p b commit.Dark ends })
  remove_fails p b (commit.WentOff have total) ends = inr (record { may = without.may; ends = broke_off p b (commit.WentOff have total) ends })
  remove_fails p b (commit.DiskFailed disk) ends = ⊎_elim (λ none. none) (λ none. none) ends
  remove_fails p b commit.Stuck ends = record { may = without.may; ends = broke_off p b commit.Stuck ends }

  pub remove_settled : (p : ℕ) (b : State) (why : CommitFault) → RemoveEnds lv next p a b (Err why) → IfOn {A = Unit {0}} (Err (fault_of why)) (IsSettled b.core)
  remove_settled p b commit.Dark ends = tt
  remove_settled p b (commit.WentOff have total) ends = tt
  remove_settled p b (commit.DiskFailed disk) ends = ⊎_elim (λ none. absurd none) (λ none. absurd none) ends
  remove_settled p b commit.Stuck ends = tt

  pub remove_given : (b : State) → IsGone lv next a b → IsVolumeRemoved lv a b
  remove_given b gone = record {
    may = without.may;
    is = gone.unnamed.is ∙ (λ t. record a.core { descriptor = without.is t; history = removed lv a; status = b.core.status; homes = b.core.homes });
    clean = gone.clean;
    ready = gone.unnamed.ready;
    cuts = gone.unnamed.cuts;
  }
