-- What is known of a session behind `mklvcopy` and `rmlvcopy`, by their answers.
use Rattle.std.proofs.Common.{◌≡◌, inl, inr, ℕ, List, false, Result, Ok, Err, sym, ap, subst}
use Rattle.lvm_num.specs.declared.place.Pp.{Pp}
use Rattle.lvm_vol.specs.Facts.{Fact}
use Rattle.lvm_vol.specs.Log.{Log}
use Rattle.lvm_session.specs.declared.open.Power.TheVariants as power
use Rattle.lvm_session.specs.State.{Core, State}
use Rattle.lvm_volume_lines.specs.passed.VolumePlan.{GroupFault, is_over}
use Rattle.lvm_volume_lines.specs.passed.GroupFaultVariants as fault
use Rattle.lvm_volume_lines.specs.passed.Volumes.{MklvcopyGives, RmlvcopyGives}
use Rattle.lvm_volume_lines.proofs.passed.GroupLines.{Bears, bears_cut}
use Rattle.lvm_volume_lines.proofs.Ending.{Facts, SameShape}

same_shape : (old new : State) → new ≡ old → SameShape old new
same_shape old new same = record { origin = ap (λ (s : State). s.core.origin) same; pvs = ap (λ (s : State). s.core.descriptor.pvs) same }

module _ (lv copies patience : ℕ) (old new : State) where
  -- ---- the shelf

  module _ (on : old.core.power ≡ power.On) where
    pub mklvcopy_facts : (given : Result (List Pp) GroupFault) → MklvcopyGives lv copies patience old new given → Facts given patience old new
    mklvcopy_facts (Ok added) gives = gives.ready
    mklvcopy_facts (Err fault.Dark) (inl refused) = absurd (let dark = refused.1 in cc (on, dark))
    mklvcopy_facts (Err fault.Dark) (inr adding) = (adding.ends.cut.flights, adding.ends.cut.cuts)
    mklvcopy_facts (Err (fault.WentOff have total)) (inl refused) = absurd (let off = refused.1.0 in cc (on, off))
    mklvcopy_facts (Err (fault.WentOff have total)) (inr adding) = (adding.ends.lost, adding.ends.ready)
    mklvcopy_facts (Err fault.Stuck) adding = adding.ends.out
    mklvcopy_facts (Err (fault.DiskFailed disk)) none = absurd none
    mklvcopy_facts (Err fault.Busy) refused = refused.0
    mklvcopy_facts (Err fault.NoVolume) refused = refused.0
    mklvcopy_facts (Err fault.VolumeExists) none = absurd none
    mklvcopy_facts (Err (fault.CopyLimit now)) refused = refused.0
    mklvcopy_facts (Err (fault.StaleCopy lp)) none = absurd none
    mklvcopy_facts (Err (fault.LastFresh lp)) none = absurd none
    mklvcopy_facts (Err (fault.TooMany limit)) none = absurd none
    mklvcopy_facts (Err (fault.NoRoom free)) refused = refused.0
    mklvcopy_facts (Err fault.HistoryFull) refused = refused.0
    mklvcopy_facts (Err fault.Memory) refused = refused.0

    pub rmlvcopy_facts : (given : Result (Unit {0}) GroupFault) → RmlvcopyGives lv copies patience old new given → Facts given patience old new
    rmlvcopy_facts (Ok done) gives = gives.ready
    rmlvcopy_facts (Err fault.Dark) (inl refused) = absurd (let dark = refused.1 in cc (on, dark))
    rmlvcopy_facts (Err fault.Dark) (inr taking) = (taking.ends.cut.flights, taking.ends.cut.cuts)
    rmlvcopy_facts (Err (fault.WentOff have total)) (inl refused) = absurd (let off = refused.1.0 in cc (on, off))
    rmlvcopy_facts (Err (fault.WentOff have total)) (inr taking) = (taking.ends.lost, taking.ends.ready)
    rmlvcopy_facts (Err fault.Stuck) taking = taking.ends.out
    rmlvcopy_facts (Err (fault.DiskFailed disk)) none = absurd none
    rmlvcopy_facts (Err fault.Busy) refused = refused.0
    rmlvcopy_facts (Err fault.NoVolume) refused = refused.0
    rmlvcopy_facts (Err fault.VolumeExists) none = absurd none
    rmlvcopy_facts (Err (fault.CopyLimit now)) refused = refused.0
    rmlvcopy_facts (Err (fault.StaleCopy lp)) none = absurd none
    rmlvcopy_facts (Err (fault.LastFresh lp)) refused = inl refused.0
    rmlvcopy_facts (Err (fault.TooMany limit)) none = absurd none
    rmlvcopy_facts (Err (fault.NoRoom free)) none = absurd none
    rmlvcopy_facts (Err fault.HistoryFull) refused = refused.0
    rmlvcopy_facts (Err fault.Memory) refused = refused.0

  -- ---- the history: nothing is entered but a cut

  module _ (P : List Fact → Type 0) (bears : Bears P) (holds : P old.core.history.facts) where
    unchanged : new ≡ old → P new.core.history.facts
    unchanged same = subst (λ (s : State). P s.core.history.facts) (sym same) holds

    as_it_was : new.core.history ≡ old.core.history → P new.core.history.facts
    as_it_was same = subst (λ (l : Log). P l.facts) (sym same) holds

    pub mklvcopy_bears : (given : Result (List Pp) GroupFault) → MklvcopyGives lv copies patience old new given → P new.core.history.facts
    mklvcopy_bears (Ok added) gives = as_it_was (ap (λ (c : Core). c.history) gives.is)
    mklvcopy_bears (Err fault.Dark) (inl refused) = unchanged refused.0
    mklvcopy_bears (Err fault.Dark) (inr adding) = subst (λ (l : Log). P l.facts) (sym adding.ends.history) (bears_cut P bears old.core.history holds)
    mklvcopy_bears (Err (fault.WentOff have total)) (inl refused) = unchanged refused.0
    mklvcopy_bears (Err (fault.WentOff have total)) (inr adding) = as_it_was adding.ends.history
    mklvcopy_bears (Err fault.Stuck) adding = as_it_was adding.ends.history
    mklvcopy_bears (Err (fault.DiskFailed disk)) none = absurd none
    mklvcopy_bears (Err fault.Busy) refused = unchanged refused.0
    mklvcopy_bears (Err fault.NoVolume) refused = unchanged refused.0
    mklvcopy_bears (Err fault.VolumeExists) none = absurd none
    mklvcopy_bears (Err (fault.CopyLimit now)) refused = unchanged refused.0
    mklvcopy_bears (Err (fault.StaleCopy lp)) none = absurd none
    mklvcopy_bears (Err (fault.LastFresh lp)) none = absurd none
    mklvcopy_bears (Err (fault.TooMany limit)) none = absurd none
    mklvcopy_bears (Err (fault.NoRoom free)) refused = unchanged refused.0
    mklvcopy_bears (Err fault.HistoryFull) refused = unchanged refused.0
    mklvcopy_bears (Err fault.Memory) refused = unchanged refused.0

    pub rmlvcopy_bears : (given : Result (Unit {0}) GroupFault) → RmlvcopyGives lv copies patience old new given → P new.core.history.facts
    rmlvcopy_bears (Ok done) gives = as_it_was (ap (λ (c : Core). c.history) gives.is)
    rmlvcopy_bears (Err fault.Dark) (inl refused) = unchanged refused.0
    rmlvcopy_bears (Err fault.Dark) (inr taking) = subst (λ (l : Log). P l.facts) (sym taking.ends.history) (bears_cut P bears old.core.history holds)
    rmlvcopy_bears (Err (fault.WentOff have total)) (inl refused) = unchanged refused.0
    rmlvcopy_bears (Err (fault.WentOff have total)) (inr taking) = as_it_was taking.ends.history
    rmlvcopy_bears (Err fault.Stuck) taking = as_it_was taking.ends.history
    rmlvcopy_bears (Err (fault.DiskFailed disk)) none = absurd none
    rmlvcopy_bears (Err fault.Busy) refused = unchanged refused.0
    rmlvcopy_bears (Err fault.NoVolume) refused = unchanged refused.0
    rmlvcopy_bears (Err fault.VolumeExists) none = absurd none
    rmlvcopy_bears (Err (fault.CopyLimit now)) refused = unchanged refused.0
    rmlvcopy_bears (Err (fault.StaleCopy lp)) none = absurd none
    rmlvcopy_bears (Err (fault.LastFresh lp)) refused = unchanged refused.0
    rmlvcopy_bears (Err (fault.TooMany limit)) none = absurd none
    rmlvcopy_bears (Err (fault.NoRoom free)) none = absurd none
    rmlvcopy_bears (Err fault.HistoryFull) refused = unchanged refused.0
    rmlvcopy_bears (Err fault.Memory) refused = unchanged refused.0

  -- ---- the members, and how the session began

  pub mklvcopy_shape : (given : Result (List Pp) GroupFault) → MklvcopyGives lv copies patience old new given → is_over given ≡ false → SameShape old new
  mklvcopy_shape (Ok added) gives goes = record { origin = ap (λ (c : Core). c.origin) gives.is; pvs = ap (λ (c : Core). c.descriptor.pvs) gives.is }
  mklvcopy_shape (Err fault.Dark) gives goes = absurd (cc (goes))
  mklvcopy_shape (Err (fault.WentOff have total)) gives goes = absurd (cc (goes))
  mklvcopy_shape (Err fault.Stuck) gives goes = absurd (cc (goes))
  mklvcopy_shape (Err (fault.DiskFailed disk)) none goes = absurd none
  mklvcopy_shape (Err fault.Busy) refused goes = same_shape old new refused.0
  mklvcopy_shape (Err fault.NoVolume) refused goes = same_shape old new refused.0
  mklvcopy_shape (Err fault.VolumeExists) none goes = absurd none
  mklvcopy_shape (Err (fault.CopyLimit now)) refused goes = same_shape old new refused.0
  mklvcopy_shape (Err (fault.StaleCopy lp)) none goes = absurd none
  mklvcopy_shape (Err (fault.LastFresh lp)) none goes = absurd none
  mklvcopy_shape (Err (fault.TooMany limit)) none goes = absurd none
  mklvcopy_shape (Err (fault.NoRoom free)) refused goes = same_shape old new refused.0
  mklvcopy_shape (Err fault.HistoryFull) refused goes = same_shape old new refused.0
  mklvcopy_shape (Err fault.Memory) refused goes = same_shape old new refused.0

  pub rmlvcopy_shape : (given : Result (Unit {0}) GroupFault) → RmlvcopyGives lv copies patience old new given → is_over given ≡ false → SameShape old new
  rmlvcopy_shape (Ok done) gives goes = record { origin = ap (λ (c : Core). c.origin) gives.is; pvs = ap (λ (c : Core). c.descriptor.pvs) gives.is }
  rmlvcopy_shape (Err fault.Dark) gives goes = absurd (cc (goes))
  rmlvcopy_shape (Err (fault.WentOff have total)) gives goes = absurd (cc (goes))
  rmlvcopy_shape (Err fault.Stuck) gives goes = absurd (cc (goes))
  rmlvcopy_shape (Err (fault.DiskFailed disk)) none goes = absurd none
  rmlvcopy_shape (Err fault.Busy) refused goes = same_shape old new refused.0
  rmlvcopy_shape (Err fault.NoVolume) refused goes = same_shape old new refused.0
  rmlvcopy_shape (Err fault.VolumeExists) none goes = absurd none
  rmlvcopy_shape (Err (fault.CopyLimit now)) refused goes = same_shape old new refused.0
  rmlvcopy_shape (Err (fault.StaleCopy lp)) none goes = absurd none
  rmlvcopy_shape (Err (fault.LastFresh lp)) refused goes = same_shape old new refused.0
  rmlvcopy_shape (Err (fault.TooMany limit)) none goes = absurd none
  rmlvcopy_shape (Err (fault.NoRoom free)) none goes = absurd none
  rmlvcopy_shape (Err fault.HistoryFull) refused goes = same_shape old new refused.0
  rmlvcopy_shape (Err fault.Memory) refused goes = same_shape old new refused.0
