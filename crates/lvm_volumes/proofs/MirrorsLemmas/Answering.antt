-- What the addition and the removal of copies answer.
use Rattle.std.proofs.Common.{◌≡◌, inl, inr, ℕ, List, Err, refl, ap, subst, ◌∙◌, arith}
use Rattle.std.specs.Prelude.{Contains}
use Rattle.lvm_num.specs.declared.place.Pp.{Pp}
use Rattle.lvm_num.specs.declared.descriptor.Descriptor.{Descriptor}
use Rattle.lvm_vol.specs.Log.{Log}
use Rattle.lvm_volume_plan.specs.passed.Core.{CommitFault, Leaves}
use Rattle.lvm_volume_plan.specs.declared.fault.GroupFault.{GroupFault}
use Rattle.lvm_volume_plan.specs.Faults.{fault_of, IfOn}
use Rattle.lvm_volume_plan.specs.passed.CoreFaultCommitFault as commit
use Rattle.lvm_session.specs.State.{State}
use Rattle.lvm_volume_plan.specs.declared.fault.GroupFault.TheVariants as fault
use Rattle.lvm_volumes.specs.Stages.{CommandBroke}
use Rattle.lvm_volumes.proofs.Leaving.{leaves_wider}
use Rattle.lvm_volume_plan.specs.CopiesFaults.{RefusesMklvcopy, RefusesRmlvcopy}
use Rattle.lvm_volume_plan.specs.PlannedCopies.{ArePlanned, IsWithFewer}
use Rattle.lvm_volumes.specs.Mirrors.{IsFurther, IsWithMore, to_add, AreAdded, MklvcopyGives, RmlvcopyGives}
use Rattle.lvm_volumes.specs.MirrorStages.{adding, AreNamed}

-- ---- refusals

pub refused_more : (lv copies p : ℕ) (s : State) (why : GroupFault) → RefusesMklvcopy lv copies s.core why → MklvcopyGives lv copies p s s (Err why)
refused_more lv copies p s fault.Dark refuses = inl (refl, refuses)
refused_more lv copies p s (fault.WentOff have total) refuses = inl (refl, refuses)
refused_more lv copies p s fault.Busy refuses = (refl, refuses)
refused_more lv copies p s fault.NoVolume refuses = (refl, refuses)
refused_more lv copies p s fault.VolumeExists refuses = refuses
refused_more lv copies p s (fault.CopyLimit now) refuses = (refl, refuses)
refused_more lv copies p s (fault.StaleCopy lp) refuses = refuses
refused_more lv copies p s (fault.LastFresh lp) refuses = refuses
refused_more lv copies p s (fault.TooMany limit) refuses = refuses
refused_more lv copies p s (fault.NoRoom free) refuses = (refl, refuses)
refused_more lv copies p s fault.HistoryFull refuses = (refl, refuses)
refused_more lv copies p s (fault.DiskFailed disk) refuses = refuses
refused_more lv copies p s fault.Stuck refuses = absurd refuses
refused_more lv copies p s fault.Memory refuses = (refl, refuses)

pub refused_fewer : (lv copies p : ℕ) (s : State) (why : GroupFault) → RefusesRmlvcopy lv copies s.core why → RmlvcopyGives lv copies p s s (Err why)
refused_fewer lv copies p s fault.Dark refuses = inl (refl, refuses)
refused_fewer lv copies p s (fault.WentOff have total) refuses = inl (refl, refuses)
refused_fewer lv copies p s fault.Busy refuses = (refl, refuses)
refused_fewer lv copies p s fault.NoVolume refuses = (refl, refuses)
refused_fewer lv copies p s fault.VolumeExists refuses = refuses
refused_fewer lv copies p s (fault.CopyLimit now) refuses = (refl, refuses)
refused_fewer lv copies p s (fault.StaleCopy lp) refuses = refuses
refused_fewer lv copies p s (fault.LastFresh lp) refuses = (refl, refuses)
refused_fewer lv copies p s (fault.TooMany limit) refuses = refuses
refused_fewer lv copies p s (fault.NoRoom free) refuses = refuses
refused_fewer lv copies p s fault.HistoryFull refuses = (refl, refuses)
refused_fewer lv copies p s (fault.DiskFailed disk) refuses = refuses
refused_fewer lv copies p s fault.Stuck refuses = absurd refuses
refused_fewer lv copies p s fault.Memory refuses = (refl, refuses)

-- ---- faults

-- nothing is said of a session at which a command broke off
pub broke_so : (P : Type 0) (log : Log) (p : ℕ) (a b : State) (why : CommitFault) → CommandBroke log p a b why → IfOn {A = Unit {0}} (Err (fault_of why)) P
broke_so P log p a b commit.Dark ends = tt
broke_so P log p a b (commit.WentOff have total) ends = tt
broke_so P log p a b commit.Stuck ends = tt
broke_so P log p a b (commit.DiskFailed disk) ends = absurd ends

-- ---- more copies

module _ (lv copies : ℕ) (added : List Pp) (next : Descriptor) (a : State) (planned : ArePlanned lv copies a.core added next) where
  its_next : (d : Descriptor) → d ≡ next → IsWithMore lv copies a.core d
  its_next d is = (planned.row, (planned.pps, planned.may.places, is ∙ planned.is))

  its_places : (pp : Pp) → Contains added pp → IsFurther lv copies a.core pp
  its_places pp inside = (planned.row, (planned.pps, planned.may.places, subst (λ (xs : List Pp). Contains xs pp) planned.added_is inside))

  pub added_leaves : (p q : ℕ) (b : State) → Leaves (adding added next 2) p q a b → Leaves (to_add lv copies a.core) p q a b
  added_leaves p q b = leaves_wider (adding added next 2) (to_add lv copies a.core) its_next (λ pp none. none) its_places (λ pp none. none) (λ lv none. none) (omega arith) p q a b (λ run first held only. tt)

  pub adding_fails : (p : ℕ) (b : State) (why : CommitFault) → CommandBroke a.core.history p a b why → MklvcopyGives lv copies p a b (Err (fault_of why))
  adding_fails p b commit.Dark ends = inr (record { row = planned.row; pps = planned.pps; may = planned.may; ends = ends })
  adding_fails p b (commit.WentOff have total) ends = inr (record { row = planned.row; pps = planned.pps; may = planned.may; ends = ends })
  adding_fails p b commit.Stuck ends = record { row = planned.row; pps = planned.pps; may = planned.may; ends = ends }
  adding_fails p b (commit.DiskFailed disk) ends = ends

  pub added_given : (b : State) → AreNamed added next a b → AreAdded lv copies a b added
  added_given b named = record {
    row = planned.row;
    pps = planned.pps;
    may = planned.may;
    added_is = planned.added_is;
    is = named.is ∙ ap (λ (x : Descriptor). record a.core { descriptor = x; status = b.core.status; homes = b.core.homes }) planned.is;
    stale = named.stale;
    ready = named.ready;
    cuts = named.cuts;
  }

-- ---- fewer copies

module _ (lv copies : ℕ) (next : Descriptor) (a : State) (plan : IsWithFewer lv copies a.core next) where
  pub taking_fails : (p : ℕ) (b : State) (why : CommitFault) → CommandBroke a.core.history p a b why → RmlvcopyGives lv copies p a b (Err (fault_of why))
  taking_fails p b commit.Dark ends = inr (record { row = plan.row; may = plan.may; ends = ends })
  taking_fails p b (commit.WentOff have total) ends = inr (record { row = plan.row; may = plan.may; ends = ends })
  taking_fails p b commit.Stuck ends = record { row = plan.row; may = plan.may; ends = ends }
  taking_fails p b (commit.DiskFailed disk) ends = ends
