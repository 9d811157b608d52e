-- What a split answers.
use Rattle.std.proofs.Common.{inl, inr, ⊎_elim, ℕ, List, Err, refl, sym, ap, subst, ◌∙◌, arith}
use Rattle.std.specs.Prelude.{slice_set}
use Rattle.lvm_vol.specs.Facts.{Made}
use Rattle.lvm_vol.specs.Log.{Log, with_fact}
use Rattle.lvm_session.specs.State.{State}
use Rattle.lvm_volume_plan.specs.passed.Core.{IsSettled, Leaves}
use Rattle.lvm_volume_plan.specs.declared.fault.GroupFault.{GroupFault}
use Rattle.lvm_volume_plan.specs.declared.fault.GroupFault.TheVariants as fault
use Rattle.lvm_volume_plan.specs.declared.split.SplitPlan.{SplitPlan}
use Rattle.lvm_volume_plan.specs.Faults.{IfOn}
use Rattle.lvm_volume_plan.specs.Split.{RefusesSplit}
use Rattle.lvm_volume_plan.specs.PlannedSplit.{IsPlannedSplit}
use Rattle.lvm_volume_plan.specs.NewVolume.{IsLowestFree}
use Rattle.lvm_volumes.proofs.Leaving.{leaves_wider}
use Rattle.lvm_split.specs.Premises.{MaySplitSince}
use Rattle.lvm_split.specs.Parting.{IsHeldBack, IsParted, PartBroke, PartEnds, parting, splitting}
use Rattle.lvm_split.specs.Splitting.{IsVolumeSplit, SplitGives, SplittingEnds, to_split}

pub refused_split : (lv : ℕ) (name : List ℕ) (copies p : ℕ) (s : State) (why : GroupFault) → RefusesSplit lv name copies s.core why → SplitGives lv name copies p s s (Err why)
refused_split lv name copies p s fault.Dark refuses = inl (refl, refuses)
refused_split lv name copies p s (fault.WentOff have total) refuses = inl (refl, refuses)
refused_split lv name copies p s fault.Busy refuses = (refl, refuses)
refused_split lv name copies p s fault.NoVolume refuses = (refl, refuses)
refused_split lv name copies p s fault.VolumeExists refuses = (refl, refuses)
refused_split lv name copies p s (fault.CopyLimit now) refuses = (refl, refuses)
refused_split lv name copies p s (fault.StaleCopy lp) refuses = inl (refl, refuses)
refused_split lv name copies p s (fault.LastFresh lp) refuses = inl (refl, refuses)
refused_split lv name copies p s (fault.TooMany limit) refuses = (refl, refuses)
refused_split lv name copies p s (fault.NoRoom free) refuses = refuses
refused_split lv name copies p s fault.HistoryFull refuses = (refl, refuses)
refused_split lv name copies p s (fault.DiskFailed disk) refuses = refuses
refused_split lv name copies p s fault.Stuck refuses = absurd refuses
refused_split lv name copies p s fault.Memory refuses = (refl, refuses)

module _ (lv : ℕ) (name : List ℕ) (copies : ℕ) (plan : SplitPlan) (a : State) (planned : IsPlannedSplit lv name copies a.core plan) where
  -- the plan by its own number
  pub own_plan : IsPlannedSplit plan.from name copies a.core plan
  own_plan = subst (λ (n : ℕ). IsPlannedSplit n name copies a.core plan) (sym planned.from) planned

  pub split_leaves : (p q : ℕ) (b : State) → Leaves (parting plan) p q a b → Leaves (to_split lv name copies a.core) p q a b
  split_leaves p q b = leaves_wider (parting plan) (to_split lv name copies a.core) (λ x is. (planned.row, planned.may, (plan.number, planned.lowest, is ∙ planned.is))) (λ pp none. none) (λ pp none. none) (λ pp none. none)
      (λ n is. subst (λ (m : ℕ). IsLowestFree a.core.descriptor m) (sym is) planned.lowest) (omega arith) p q a b
      (λ run first held may. subst (λ (n : ℕ). MaySplitSince n a b run first) (sym planned.from) may)

  broke : (Ends : Log → Type 0) → PartBroke plan a Ends → SplittingEnds lv name copies a Ends
  broke Ends off = record {
    row = planned.row;
    may = planned.may;
    entered = off.entered;
    so_far = ⊎_elim (λ none. inl none) (λ made. inr (plan.number, planned.lowest, made ∙ ap (λ (n : ℕ). splitting n plan.number a) planned.from)) off.so_far;
    ends = off.ends;
  }

  pub split_fails : (p : ℕ) (b : State) (why : GroupFault) → PartEnds copies plan p a b (Err why) → SplitGives lv name copies p a b (Err why)
  split_fails p b fault.Dark ends = inr (broke _ ends)
  split_fails p b (fault.WentOff have total) ends = inr (broke _ ends)
  split_fails p b fault.Stuck ends = broke _ ends
  split_fails p b (fault.StaleCopy lp) ends = inr (record { row = planned.row; may = planned.may; halts = subst (λ (n : ℕ). IsHeldBack n copies (fault.StaleCopy lp) a b) planned.from ends })
  split_fails p b (fault.LastFresh lp) ends = inr (record { row = planned.row; may = planned.may; halts = subst (λ (n : ℕ). IsHeldBack n copies (fault.LastFresh lp) a b) planned.from ends })
  split_fails p b fault.Busy ends = absurd ends
  split_fails p b fault.NoVolume ends = absurd ends
  split_fails p b fault.VolumeExists ends = absurd ends
  split_fails p b (fault.CopyLimit now) ends = absurd ends
  split_fails p b (fault.TooMany limit) ends = absurd ends
  split_fails p b (fault.NoRoom free) ends = absurd ends
  split_fails p b fault.HistoryFull ends = absurd ends
  split_fails p b (fault.DiskFailed disk) ends = absurd ends
  split_fails p b fault.Memory ends = absurd ends

  pub split_settled : (p : ℕ) (b : State) (why : GroupFault) → PartEnds copies plan p a b (Err why) → IfOn {A = ℕ} (Err why) (IsSettled b.core)
  split_settled p b fault.Dark ends = tt
  split_settled p b (fault.WentOff have total) ends = tt
  split_settled p b fault.Stuck ends = tt
  split_settled p b (fault.StaleCopy lp) ends = ends.settled
  split_settled p b (fault.LastFresh lp) ends = ends.settled
  split_settled p b fault.Busy ends = absurd ends
  split_settled p b fault.NoVolume ends = absurd ends
  split_settled p b fault.VolumeExists ends = absurd ends
  split_settled p b (fault.CopyLimit now) ends = absurd ends
  split_settled p b (fault.TooMany limit) ends = absurd ends
  split_settled p b (fault.NoRoom free) ends = absurd ends
  split_settled p b fault.HistoryFull ends = absurd ends
  split_settled p b (fault.DiskFailed disk) ends = absurd ends
  split_settled p b fault.Memory ends = absurd ends

  pub split_given : (b : State) → IsParted plan a b → IsVolumeSplit lv name copies plan.number a b
  split_given b parted = record {
    row = planned.row;
    may = planned.may;
    lowest = planned.lowest;
    order = planned.order;
    is = parted.is ∙ (λ t. record a.core { descriptor = planned.is t; history = with_fact (splitting (planned.from t) plan.number a) (Made plan.number); last = slice_set a.core.last plan.number 0; status = b.core.status; homes = b.core.homes });
    dirty = λ is. parted.dirty (planned.dirty ∙ is);
    clean = λ is. parted.clean (planned.dirty ∙ is);
    ready = parted.ready;
    cuts = parted.cuts;
  }
