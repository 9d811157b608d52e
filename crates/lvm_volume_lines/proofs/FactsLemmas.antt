-- What the entries of a command leave true of the history: each request has landed, and answers that aren't taken stay.
use Rattle.std.proofs.Common.{◌≡◌, inl, inr, ⊎_elim, ◌++◌, ◌∷◌, [], ℕ, List, Result, Ok, Err, refl, sym, ◌∙◌, subst}
use Rattle.lvm_num.specs.declared.descriptor.Mode.{Mode}
use Rattle.lvm_num.specs.declared.place.Pp.{Pp}
use Rattle.lvm_num.specs.Geometry.{volume_blocks}
use Rattle.lvm_vol.specs.declared.entry.Vol.TheVariants.{Lv}
use Rattle.lvm_vol.specs.Facts.{Fact, Making, Made, Removing, Removed}
use Rattle.lvm_vol.specs.Log.{Log, cut_log}
use Rattle.lvm_core.specs.Sound.{HaveAllLanded}
use Rattle.lvm_session.specs.State.{Core, State}
use Rattle.lvm_range_lines.specs.passed.Posts.{Asked, AreAnswered}
use Rattle.lvm_range_lines.specs.passed.VolumePlan.{GroupFault, NewVolume}
use Rattle.lvm_range_lines.specs.passed.Volumes.{MklvGives, RmlvGives, HasEntered, making, removed, removing}
use Rattle.lvm_range_lines.proofs.passed.GroupLines.{Bears, open_more, bears_cut, landed_bears, answered_bears, answered_on}
use Rattle.lvm_range_lines.specs.passed.VolumePlanFaultGroupFault as fault

-- a volume's entries leave this true, and a cut does
pub record BearsVolumes (P : List Fact → Type 0) : Type 0 where
  pub making : (facts : List Fact) (lv blocks : ℕ) (mode : Mode) → P facts → P (facts ++ Making lv blocks mode ∷ [])
  pub made : (facts : List Fact) (lv : ℕ) → P facts → P (facts ++ Made lv ∷ [])
  pub removing : (facts : List Fact) (lv : ℕ) → P facts → P (facts ++ Removing (Lv lv) ∷ [])
  pub removed : (facts : List Fact) (lv : ℕ) → P facts → P (facts ++ Removed (Lv lv) ∷ [])
  pub cut : Bears P

pub landed_stays : BearsVolumes HaveAllLanded
landed_stays = record {
  making = λ facts lv blocks mode landed id. open_more facts (Making lv blocks mode) id refl refl ∙ landed id;
  made = λ facts lv landed id. open_more facts (Made lv) id refl refl ∙ landed id;
  removing = λ facts lv landed id. open_more facts (Removing (Lv lv)) id refl refl ∙ landed id;
  removed = λ facts lv landed id. open_more facts (Removed (Lv lv)) id refl refl ∙ landed id;
  cut = landed_bears;
}

pub answers_stay : (range : Asked) → BearsVolumes (λ (facts : List Fact). AreAnswered facts range)
answers_stay range = record {
  making = λ facts lv blocks mode answered. answered_on facts (Making lv blocks mode) range (λ id. refl) answered;
  made = λ facts lv answered. answered_on facts (Made lv) range (λ id. refl) answered;
  removing = λ facts lv answered. answered_on facts (Removing (Lv lv)) range (λ id. refl) answered;
  removed = λ facts lv answered. answered_on facts (Removed (Lv lv)) range (λ id. refl) answered;
  cut = answered_bears range;
}

module _ (P : List Fact → Type 0) (bears : BearsVolumes P) where
  as_is : (log is : Log) → is ≡ log → P log.facts → P is.facts
  as_is log is same holds = subst (λ (l : Log). P l.facts) (sym same) holds

  module _ (v : NewVolume) (patience : ℕ) (old new : State) (holds : P old.core.history.facts) where
    with_making : (lv : ℕ) → P (making v lv old).facts
    with_making lv = bears.making old.core.history.facts lv (volume_blocks old.core.descriptor.mib v.lps) v.mode holds

    entered : (map : List Pp) (log : Log) → HasEntered v map old new log → P log.facts
    entered map log (inl same) = as_is old.core.history log same holds
    entered map log (inr made) = as_is (making v made.0 old) log made.2 (with_making made.0)

    unchanged : new ≡ old → P new.core.history.facts
    unchanged same = subst (λ (s : State). P s.core.history.facts) (sym same) holds

    pub mklv_bears : (given : Result ℕ GroupFault) → MklvGives v patience old new given → P new.core.history.facts
    mklv_bears (Ok lv) made = subst (λ (c : Core). P c.history.facts) (sym made.is) (bears.made (making v lv old).facts lv (with_making lv))
    mklv_bears (Err fault.Dark) (inl refused) = unchanged refused.0
    mklv_bears (Err fault.Dark) (inr ends) = subst (λ (l : Log). P l.facts) (sym ends.ends.history) (bears_cut P bears.cut ends.entered (entered ends.map ends.entered ends.so_far))
    mklv_bears (Err (fault.WentOff have total)) (inl refused) = unchanged refused.0
    mklv_bears (Err (fault.WentOff have total)) (inr ends) = as_is ends.entered new.core.history ends.ends.history (entered ends.map ends.entered ends.so_far)
    mklv_bears (Err fault.Stuck) ends = as_is ends.entered new.core.history ends.ends.history (entered ends.map ends.entered ends.so_far)
    mklv_bears (Err (fault.DiskFailed disk)) fails = subst (λ (c : Core). P c.history.facts) (sym fails.ends.is) holds
    mklv_bears (Err fault.NoVolume) none = absurd none
    mklv_bears (Err (fault.StaleCopy lp)) none = absurd none
    mklv_bears (Err (fault.LastFresh lp)) none = absurd none
    mklv_bears (Err _) refused = unchanged refused.0

  module _ (lv patience : ℕ) (old new : State) (holds : P old.core.history.facts) where
    with_removing : P (removing lv old).facts
    with_removing = bears.removing old.core.history.facts lv holds

    with_removed : P (removed lv old).facts
    with_removed = bears.removed (removing lv old).facts lv with_removing

    kept : new ≡ old → P new.core.history.facts
    kept same = subst (λ (s : State). P s.core.history.facts) (sym same) holds

    -- as far as it was entered, and then a cut
    cut : (log : Log) → new.core.history ≡ cut_log log → P log.facts → P new.core.history.facts
    cut log is so_far = subst (λ (l : Log). P l.facts) (sym is) (bears_cut P bears.cut log so_far)

    pub rmlv_bears : (given : Result (Unit {0}) GroupFault) → RmlvGives lv patience old new given → P new.core.history.facts
    rmlv_bears (Ok done) made = subst (λ (c : Core). P c.history.facts) (sym made.is) with_removed
    rmlv_bears (Err fault.Dark) (inl refused) = kept refused.0
    rmlv_bears (Err fault.Dark) (inr gone) = ⊎_elim (λ before. cut (removing lv old) before.history with_removing) (λ behind. cut (removed lv old) behind.history with_removed) gone.ends
    rmlv_bears (Err (fault.WentOff have total)) (inl refused) = kept refused.0
    rmlv_bears (Err (fault.WentOff have total)) (inr gone) = ⊎_elim (λ before. as_is (removing lv old) new.core.history before.history with_removing) (λ behind. as_is (removed lv old) new.core.history behind.history with_removed) gone.ends
    rmlv_bears (Err fault.Stuck) gone = ⊎_elim (λ before. as_is (removing lv old) new.core.history before.history with_removing) (λ behind. as_is (removed lv old) new.core.history behind.history with_removed) gone.ends
    rmlv_bears (Err fault.Busy) refused = kept refused.0
    rmlv_bears (Err fault.NoVolume) refused = kept refused.0
    rmlv_bears (Err fault.HistoryFull) refused = kept refused.0
    rmlv_bears (Err fault.Memory) refused = kept refused.0
    rmlv_bears (Err _) none = absurd none
