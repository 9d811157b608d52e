-- What is known of a session behind a split, by its answer.
use Rattle.std.proofs.Common.{◌≡◌, ◌⊎◌, inl, inr, ⊎_elim, ◌++◌, ◌∷◌, [], ℕ, List, false, Result, Ok, Err, refl, sym, ◌∙◌, ap, subst}
use Rattle.lvm_vol.specs.Facts.{Fact, Made, Split}
use Rattle.lvm_vol.specs.Log.{Log}
use Rattle.lvm_core.specs.Sound.{HaveAllLanded}
use Rattle.lvm_session.specs.declared.open.Power.TheVariants as power
use Rattle.lvm_session.specs.State.{Core, State}
use Rattle.lvm_volume_lines.specs.passed.VolumePlan.{GroupFault, is_over}
use Rattle.lvm_volume_lines.specs.passed.GroupFaultVariants as fault
use Rattle.lvm_range_lines.specs.passed.Posts.{Asked, AreAnswered}
use Rattle.lvm_volume_lines.specs.passed.Splitting.{SplitGives, SplittingHalts, splitting}
use Rattle.lvm_range_lines.proofs.passed.GroupLines.{Bears, open_more, bears_cut, landed_bears, answered_bears, answered_on}
use Rattle.lvm_volume_lines.proofs.Ending.{Facts, SameShape, shape_as}

-- the entries of a split leave this true, and a cut does
pub record BearsSplits (P : List Fact → Type 0) : Type 0 where
  pub splits : (facts : List Fact) (from lv : ℕ) → P facts → P (facts ++ Split from lv ∷ [])
  pub made : (facts : List Fact) (lv : ℕ) → P facts → P (facts ++ Made lv ∷ [])
  pub cut : Bears P

pub landed_over_splits : BearsSplits HaveAllLanded
landed_over_splits = record {
  splits = λ facts from lv landed id. open_more facts (Split from lv) id refl refl ∙ landed id;
  made = λ facts lv landed id. open_more facts (Made lv) id refl refl ∙ landed id;
  cut = landed_bears;
}

pub answers_over_splits : (range : Asked) → BearsSplits (λ (facts : List Fact). AreAnswered facts range)
answers_over_splits range = record {
  splits = λ facts from lv answered. answered_on facts (Split from lv) range (λ id. refl) answered;
  made = λ facts lv answered. answered_on facts (Made lv) range (λ id. refl) answered;
  cut = answered_bears range;
}

module _ (lv : ℕ) (name : List ℕ) (copies patience : ℕ) (old new : State) where
  -- ---- the shelf

  module _ (on : old.core.power ≡ power.On) where
    not_dark : old.core.power ≡ power.On → old.core.power ≡ power.Dark → ⊥
    not_dark on dark = cc (on, dark)

    not_off : old.core.power ≡ power.On → old.core.power ≡ power.Off → ⊥
    not_off on off = cc (on, off)

    pub split_facts : (given : Result ℕ GroupFault) → SplitGives lv name copies patience old new given → Facts given patience old new
    split_facts (Ok number) gives = gives.ready
    split_facts (Err fault.Dark) gives = ⊎_elim (λ refused. absurd (not_dark on refused.1)) (λ ended. (ended.ends.cut.flights, ended.ends.cut.cuts)) gives
    split_facts (Err (fault.WentOff have total)) gives = ⊎_elim (λ refused. absurd (not_off on refused.1.0)) (λ ended. (ended.ends.lost, ended.ends.ready)) gives
    split_facts (Err fault.Stuck) gives = gives.ends.out
    split_facts (Err (fault.StaleCopy lp)) gives = ⊎_elim (λ refused. inl refused.0) (λ halted. inr halted.halts.ready) gives
    split_facts (Err (fault.LastFresh lp)) gives = ⊎_elim (λ refused. inl refused.0) (λ halted. inr halted.halts.ready) gives
    split_facts (Err fault.Busy) gives = gives.0
    split_facts (Err fault.NoVolume) gives = gives.0
    split_facts (Err fault.VolumeExists) gives = gives.0
    split_facts (Err (fault.CopyLimit now)) gives = gives.0
    split_facts (Err (fault.TooMany limit)) gives = gives.0
    split_facts (Err fault.HistoryFull) gives = gives.0
    split_facts (Err fault.Memory) gives = gives.0
    split_facts (Err (fault.NoRoom free)) gives = absurd gives
    split_facts (Err (fault.DiskFailed disk)) gives = absurd gives

  -- ---- the history

  module _ (P : List Fact → Type 0) (bears : BearsSplits P) (holds : P old.core.history.facts) where
    with_split_from : (number : ℕ) → P (splitting lv number old).facts
    with_split_from number = bears.splits old.core.history.facts lv number holds

    as_is : (log is : Log) → is ≡ log → P log.facts → P is.facts
    as_is log is same its = subst (λ (l : Log). P l.facts) (sym same) its

    unchanged : new ≡ old → P new.core.history.facts
    unchanged same = subst (λ (s : State). P s.core.history.facts) (sym same) holds

    as_it_was : new.core.history ≡ old.core.history → P new.core.history.facts
    as_it_was same = as_is old.core.history new.core.history same holds

    entered : {Lowest : ℕ → Type 0} (log : Log) → (log ≡ old.core.history) ⊎ ((number : ℕ) × Lowest number × (log ≡ splitting lv number old)) → P log.facts
    entered log (inl same) = as_is old.core.history log same holds
    entered log (inr made) = as_is (splitting lv made.0 old) log made.2 (with_split_from made.0)

    pub split_bears : (given : Result ℕ GroupFault) → SplitGives lv name copies patience old new given → P new.core.history.facts
    split_bears (Ok number) gives = subst (λ (c : Core). P c.history.facts) (sym gives.is) (bears.made (splitting lv number old).facts number (with_split_from number))
    split_bears (Err fault.Dark) gives = ⊎_elim (λ refused. unchanged refused.0) (λ ended. subst (λ (l : Log). P l.facts) (sym ended.ends.history) (bears_cut P bears.cut ended.entered (entered ended.entered ended.so_far))) gives
    split_bears (Err (fault.WentOff have total)) gives = ⊎_elim (λ refused. unchanged refused.0) (λ ended. as_is ended.entered new.core.history ended.ends.history (entered ended.entered ended.so_far)) gives
    split_bears (Err fault.Stuck) gives = as_is gives.entered new.core.history gives.ends.history (entered gives.entered gives.so_far)
    split_bears (Err (fault.StaleCopy lp)) gives = ⊎_elim (λ refused. unchanged refused.0) (λ halted. as_it_was (ap (λ (c : Core). c.history) halted.halts.is)) gives
    split_bears (Err (fault.LastFresh lp)) gives = ⊎_elim (λ refused. unchanged refused.0) (λ halted. as_it_was (ap (λ (c : Core). c.history) halted.halts.is)) gives
    split_bears (Err fault.Busy) gives = unchanged gives.0
    split_bears (Err fault.NoVolume) gives = unchanged gives.0
    split_bears (Err fault.VolumeExists) gives = unchanged gives.0
    split_bears (Err (fault.CopyLimit now)) gives = unchanged gives.0
    split_bears (Err (fault.TooMany limit)) gives = unchanged gives.0
    split_bears (Err fault.HistoryFull) gives = unchanged gives.0
    split_bears (Err fault.Memory) gives = unchanged gives.0
    split_bears (Err (fault.NoRoom free)) gives = absurd gives
    split_bears (Err (fault.DiskFailed disk)) gives = absurd gives

  -- ---- the members, and how the session began

  halted_shape : (why : GroupFault) → SplittingHalts lv name copies why old new → SameShape old new
  halted_shape why halted = record { origin = ap (λ (c : Core). c.origin) halted.halts.is; pvs = ap (λ (c : Core). c.descriptor.pvs) halted.halts.is }

  pub split_shape : (given : Result ℕ GroupFault) → SplitGives lv name copies patience old new given → is_over given ≡ false → SameShape old new
  split_shape (Ok number) gives goes = record { origin = ap (λ (c : Core). c.origin) gives.is; pvs = ap (λ (c : Core). c.descriptor.pvs) gives.is }
  split_shape (Err fault.Dark) gives goes = absurd (cc (goes))
  split_shape (Err (fault.WentOff have total)) gives goes = absurd (cc (goes))
  split_shape (Err fault.Stuck) gives goes = absurd (cc (goes))
  split_shape (Err (fault.StaleCopy lp)) gives goes = ⊎_elim (λ refused. shape_as old new refused.0) (λ halted. halted_shape (fault.StaleCopy lp) halted) gives
  split_shape (Err (fault.LastFresh lp)) gives goes = ⊎_elim (λ refused. shape_as old new refused.0) (λ halted. halted_shape (fault.LastFresh lp) halted) gives
  split_shape (Err fault.Busy) gives goes = shape_as old new gives.0
  split_shape (Err fault.NoVolume) gives goes = shape_as old new gives.0
  split_shape (Err fault.VolumeExists) gives goes = shape_as old new gives.0
  split_shape (Err (fault.CopyLimit now)) gives goes = shape_as old new gives.0
  split_shape (Err (fault.TooMany limit)) gives goes = shape_as old new gives.0
  split_shape (Err fault.HistoryFull) gives goes = shape_as old new gives.0
  split_shape (Err fault.Memory) gives goes = shape_as old new gives.0
  split_shape (Err (fault.NoRoom free)) gives goes = absurd gives
  split_shape (Err (fault.DiskFailed disk)) gives goes = absurd gives
