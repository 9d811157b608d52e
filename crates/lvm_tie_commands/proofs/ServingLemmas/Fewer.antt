-- And after copies were removed.
use Rattle.std.proofs.Common.{◌≡◌, inl, inr, ⊎_elim, ℕ, ◌==◌, [], Some, Ok, Err, refl, sym, ap, subst, ◌∙◌, arith}
use Rattle.std.specs.Prelude.{IsFalse, IsTrue}
use Rattle.std.proofs.lemmas.Bool.{eqb-true}
use Rattle.lvm_num.specs.declared.descriptor.Descriptor.{Descriptor}
use Rattle.lvm_num.specs.declared.descriptor.LvRow.{LvRow}
use Rattle.lvm_num.specs.declared.place.Pp.{Pp}
use Rattle.lvm_num.specs.Descriptor.{IsValid, copies_of, is_member}
use Rattle.lvm_num.specs.Status.{calls_stale}
use Rattle.lvm_kept.specs.Group.{IsOneOf}
use Rattle.lvm_session.specs.State.{Core, State}
use Rattle.lvm_session.specs.Judging.{copies_in}
use Rattle.lvm_session.specs.Sound.{IsSound}
use Rattle.lvm_tie_commands.specs.passed.Core.{Leaves, NoPartition, NoVolume, IsSettled}
use Rattle.lvm_tie_commands.specs.passed.VolumePlanFaultGroupFault as fault
use Rattle.lvm_volumes.specs.Endings.{HasFresh, KeepsFresh, StillHeld}
use Rattle.lvm_volumes.specs.passed.VolumePlan.{first_copies, with_copies}
use Rattle.lvm_volumes.proofs.passed.CopyPlanCopiesLemmasFewer as fewer
use Rattle.lvm_volumes.specs.Mirrors.{AreTaken, IsWithFirst, to_take}
use Rattle.lvm_tie_commands.proofs.passed.Handover.{found, had_fresh, its_row, may_serve}
use Rattle.lvm_tie_commands.specs.Serving.{MayServeWith, RmlvcopyServes}
use Rattle.lvm_tie_commands.proofs.ServingLemmas.Rows.{IsCopyIn, were_or}
use Rattle.lvm_tie_commands.proofs.ServingLemmas.More.{among_copies, its_member, refused}

module _ (lv copies before after : ℕ) (old new : State) (sound : IsSound old) (began : IsSettled old.core) (leaves : Leaves (to_take lv copies old.core) before after old new)
    (on : IsSettled new.core) (still : StillHeld old new) (keeps : KeepsFresh old new) where
  abbrev d : Descriptor
  d = old.core.descriptor

  valid : IsValid d
  valid = sound.fitting.valid

  module _ (it : AreTaken lv copies old new) where
    old_one : (r : LvRow) (lp : ℕ) (p : Pp) → IsOneOf (with_copies d lv copies (first_copies it.row copies)).lvs r → IsOneOf (copies_of r lp) p → IsCopyIn d r.number lp p
    old_one r lp p there one = ⊎_elim (λ (its : IsCopyIn d r.number lp p). its) (λ (none : ⊥). absurd none)
        (were_or d valid lv copies it.row (first_copies it.row copies) it.may.keeps.shrinks.found.volume (λ (q : Pp). ⊥)
        (λ lp p one. inl (fewer.old_copies d lv copies it.row valid it.may.keeps.shrinks.found.volume it.may.keeps.shrinks.are.fewer lp p one)) r lp p there one)

    abbrev next : Descriptor
    next = with_copies d lv copies (first_copies it.row copies)

    -- the volume of the number is one
    members : (g : Descriptor) → IsWithFirst lv copies old.core g → (r : LvRow) (lp : ℕ) (p : Pp) → IsOneOf g.lvs r → IsOneOf (copies_of r lp) p → IsTrue (is_member d p.disk)
    members g first r lp p there one =
        let both : Some first.0 ≡ Some it.row = sym first.1 ∙ it.may.keeps.shrinks.found.volume in
        let same : first.0 ≡ it.row = cc both in
        let its : IsOneOf next.lvs r = subst (λ (x : LvRow). IsOneOf (with_copies d lv copies (first_copies x copies)).lvs r) same (subst (λ (x : Descriptor). IsOneOf x.lvs r) first.2 there) in
        its_member d valid r.number lp p (old_one r lp p its one)

    fresh : (n lp : ℕ) (p : Pp) → IsOneOf (copies_in next n lp) p → IsFalse (calls_stale old.core.origin.table p) → HasFresh new.core n lp
    fresh n lp p one was =
        let its = its_row next n lp p one in
        let at = found (λ (r : LvRow). r.number == n) next.lvs its.row its.volume in
        let here : IsOneOf (copies_in new.core.descriptor n lp) p = subst (λ (g : Descriptor). IsOneOf (copies_in g n lp) p) (sym (ap (λ (s : Core). s.descriptor) it.is)) one in
        let before : IsOneOf (copies_in d n lp) p = subst (λ (m : ℕ). IsOneOf (copies_in d m lp) p) (eqb-true its.row.number n at.1) (among_copies d valid its.row.number lp p (old_one its.row lp p at.0 its.one)) in
        keeps n lp p here (inr (had_fresh old sound began n lp p before was))

    serves : MayServeWith [] new
    serves = may_serve old sound began new on still [] next old.core.history (IsWithFirst lv copies old.core) NoPartition NoPartition NoVolume 1 old.core.last it.is refl sound.told.ordered refl leaves.status (λ p none. absurd none)
        leaves.falls leaves.writes.sizes leaves.numbers (omega arith) it.may.room members (λ n lp p one was apart. fresh n lp p one was)

pub rmlvcopy_serves : RmlvcopyServes
rmlvcopy_serves lv copies before after old new (Ok done) sound c gives = serves lv copies before after old new sound c.began c.leaves c.on c.still c.fresh gives
rmlvcopy_serves lv copies before after old new (Err fault.Dark) sound c gives = tt
rmlvcopy_serves lv copies before after old new (Err (fault.WentOff have total)) sound c gives = tt
rmlvcopy_serves lv copies before after old new (Err fault.Stuck) sound c gives = tt
rmlvcopy_serves lv copies before after old new (Err (fault.DiskFailed disk)) sound c gives = absurd gives
rmlvcopy_serves lv copies before after old new (Err fault.Busy) sound c gives = refused old new sound c.began gives.0
rmlvcopy_serves lv copies before after old new (Err fault.NoVolume) sound c gives = refused old new sound c.began gives.0
rmlvcopy_serves lv copies before after old new (Err fault.VolumeExists) sound c gives = absurd gives
rmlvcopy_serves lv copies before after old new (Err (fault.CopyLimit now)) sound c gives = refused old new sound c.began gives.0
rmlvcopy_serves lv copies before after old new (Err (fault.StaleCopy lp)) sound c gives = absurd gives
rmlvcopy_serves lv copies before after old new (Err (fault.LastFresh lp)) sound c gives = refused old new sound c.began gives.0
rmlvcopy_serves lv copies before after old new (Err (fault.TooMany limit)) sound c gives = absurd gives
rmlvcopy_serves lv copies before after old new (Err (fault.NoRoom free)) sound c gives = absurd gives
rmlvcopy_serves lv copies before after old new (Err fault.HistoryFull) sound c gives = refused old new sound c.began gives.0
rmlvcopy_serves lv copies before after old new (Err fault.Memory) sound c gives = refused old new sound c.began gives.0
