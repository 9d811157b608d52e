-- A session is sound with requests after copies were added.
use Rattle.std.proofs.Common.{◌≡◌, ◌⊎◌, inr, ⊎_elim, ℕ, ◌==◌, [], List, true, false, Some, Ok, Err, refl, sym, ap, subst, ◌∙◌, arith}
use Rattle.std.specs.Prelude.{Contains, IsFalse, IsTrue}
use Rattle.std.proofs.lemmas.Bool.{eqb-true}
use Rattle.std.proofs.lemmas.List.Elements.{All-contains}
use Rattle.lvm_num.specs.declared.descriptor.Descriptor.{Descriptor}
use Rattle.lvm_num.specs.declared.descriptor.LvRow.{LvRow}
use Rattle.lvm_num.specs.declared.place.Pp.{Pp}
use Rattle.lvm_num.specs.Descriptor.{IsPartitionOf, IsValid, copies_of, is_member, volume_of}
use Rattle.lvm_num.specs.Status.{calls_stale}
use Rattle.lvm_kept.specs.Group.{IsOneOf}
use Rattle.lvm_session.specs.State.{Core, State, is_there}
use Rattle.lvm_session.specs.Judging.{copies_in}
use Rattle.lvm_session.specs.Marks.{is_among}
use Rattle.lvm_session.specs.Sound.{IsSound}
use Rattle.lvm_tie_commands.specs.passed.Core.{Leaves, NoPartition, NoVolume, IsSettled}
use Rattle.lvm_write.proofs.NextLemmas.{copy_is_placed, is_member_of}
use Rattle.lvm_volumes.proofs.passed.Even.{row_is_volume}
use Rattle.lvm_tie_commands.specs.passed.VolumePlanFaultGroupFault as fault
use Rattle.lvm_volumes.specs.Endings.{HasFresh, KeepsFresh, StillHeld}
use Rattle.lvm_volumes.specs.passed.VolumePlan.{further_copies, with_copies, with_map, HasFurtherPlaces}
use Rattle.lvm_volumes.proofs.passed.CopyPlanCopiesLemmasMore as more
use Rattle.lvm_volumes.specs.Mirrors.{AreAdded, IsFurther, IsWithMore, to_add}
use Rattle.lvm_tie_commands.proofs.passed.Handover.{copies_at, found, had_fresh, its_row, may_serve, refused_serves}
use Rattle.lvm_tie_commands.specs.Serving.{MayServeWith, MklvcopyServes}
use Rattle.lvm_tie_commands.proofs.CopiesLemmas.Adding.{same_further}
use Rattle.lvm_tie_commands.proofs.ServingLemmas.Rows.{IsCopyIn, among_is, were_or}

-- where nothing has happened
pub refused : (old new : State) → IsSound old → IsSettled old.core → new ≡ old → MayServeWith [] new
refused old new sound began same = let both = refused_serves old new sound began same in (both.0, λ none. both.1)

-- a copy of a valid group is on a member
pub its_member : (d : Descriptor) → IsValid d → (number lp : ℕ) (p : Pp) → IsCopyIn d number lp p → IsTrue (is_member d p.disk)
its_member d valid number lp p its = is_member_of d p (copy_is_placed d valid its.row lp p its.volume its.one)

-- and one of those of its number
pub among_copies : (d : Descriptor) → IsValid d → (number lp : ℕ) (p : Pp) → IsCopyIn d number lp p → IsOneOf (copies_in d number lp) p
among_copies d valid number lp p its =
    let volume : volume_of d number ≡ Some its.row = subst (λ (n : ℕ). volume_of d n ≡ Some its.row) its.number_is (row_is_volume d its.row valid its.volume) in
    subst (λ (ps : List Pp). IsOneOf ps p) (sym (copies_at d number lp its.row volume)) its.one

module _ (lv copies before after : ℕ) (old new : State) (sound : IsSound old) (began : IsSettled old.core) (leaves : Leaves (to_add lv copies old.core) before after old new)
    (on : IsSettled new.core) (still : StillHeld old new) (keeps : KeepsFresh old new) where
  abbrev d : Descriptor
  d = old.core.descriptor

  valid : IsValid d
  valid = sound.fitting.valid

  module _ (row : LvRow) (pps : List Pp) (places : HasFurtherPlaces lv copies old.core row pps) where
    old_or_further : (r : LvRow) (lp : ℕ) (p : Pp) → IsOneOf (with_copies d lv copies pps).lvs r → IsOneOf (copies_of r lp) p → IsCopyIn d r.number lp p ⊎ Contains (further_copies (with_map row copies pps) row.copies) p
    old_or_further r lp p there one = were_or d valid lv copies row pps places.grows.found.volume (λ (q : Pp). Contains (further_copies (with_map row copies pps) row.copies) q)
        (more.old_or_further d (is_there old.core) lv copies row pps valid places.grows.found.volume places.grows.are.more places.placed) r lp p there one

    on_member : (r : LvRow) (lp : ℕ) (p : Pp) → IsOneOf (with_copies d lv copies pps).lvs r → IsOneOf (copies_of r lp) p → IsTrue (is_member d p.disk)
    on_member r lp p there one = ⊎_elim
        (λ (its : IsCopyIn d r.number lp p). its_member d valid r.number lp p its)
        (λ (further : Contains (further_copies (with_map row copies pps) row.copies) p).
        is_member_of d p (All-contains (IsPartitionOf d) (further_copies (with_map row copies pps) row.copies) p (more.places_of d (is_there old.core) lv copies row pps valid places.grows.found.volume places.grows.are.more places.placed) further))
        (old_or_further r lp p there one)

  members : (g : Descriptor) → IsWithMore lv copies old.core g → (r : LvRow) (lp : ℕ) (p : Pp) → IsOneOf g.lvs r → IsOneOf (copies_of r lp) p → IsTrue (is_member d p.disk)
  members g next r lp p there one = on_member next.0 next.1.0 next.1.1 r lp p (subst (λ (x : Descriptor). IsOneOf x.lvs r) next.1.2 there) one

  module _ (added : List Pp) (it : AreAdded lv copies old new added) where
    abbrev next : Descriptor
    next = with_copies d lv copies it.pps

    fresh : (n lp : ℕ) (p : Pp) → IsOneOf (copies_in next n lp) p → IsFalse (calls_stale old.core.origin.table p) → IsFalse (is_among added p) → HasFresh new.core n lp
    fresh n lp p one was apart =
        let its = its_row next n lp p one in
        let at = found (λ (r : LvRow). r.number == n) next.lvs its.row its.volume in
        let here : IsOneOf (copies_in new.core.descriptor n lp) p = subst (λ (g : Descriptor). IsOneOf (copies_in g n lp) p) (sym (ap (λ (s : Core). s.descriptor) it.is)) one in
        ⊎_elim
        (λ (old_one : IsCopyIn d its.row.number lp p).
        let before : IsOneOf (copies_in d n lp) p = subst (λ (m : ℕ). IsOneOf (copies_in d m lp) p) (eqb-true its.row.number n at.1) (among_copies d valid its.row.number lp p old_one) in
        keeps n lp p here (inr (had_fresh old sound began n lp p before was)))
        (λ (further : Contains (further_copies (with_map it.row copies it.pps) it.row.copies) p).
        absurd (let same : true ≡ false = sym (among_is added p (subst (λ (l : List Pp). Contains l p) (sym it.added_is) further)) ∙ apart in cc same))
        (old_or_further it.row it.pps it.may.places its.row lp p at.0 its.one)

    serves : MayServeWith added new
    serves = may_serve old sound began new on still added next old.core.history (IsWithMore lv copies old.core) (IsFurther lv copies old.core) NoPartition NoVolume 2 old.core.last it.is refl sound.told.ordered refl leaves.status
        (λ p further. among_is added p (subst (λ (l : List Pp). Contains l p) (sym it.added_is) (same_further lv copies old.core it.row it.pps p it.may.places further)))
        leaves.falls leaves.writes.sizes leaves.numbers (omega arith) it.may.room members fresh

pub mklvcopy_serves : MklvcopyServes
mklvcopy_serves lv copies before after old new (Ok added) sound c gives = serves lv copies before after old new sound c.began c.leaves c.on c.still c.fresh added gives
mklvcopy_serves lv copies before after old new (Err fault.Dark) sound c gives = tt
mklvcopy_serves lv copies before after old new (Err (fault.WentOff have total)) sound c gives = tt
mklvcopy_serves lv copies before after old new (Err fault.Stuck) sound c gives = tt
mklvcopy_serves lv copies before after old new (Err (fault.DiskFailed disk)) sound c gives = absurd gives
mklvcopy_serves lv copies before after old new (Err fault.Busy) sound c gives = refused old new sound c.began gives.0
mklvcopy_serves lv copies before after old new (Err fault.NoVolume) sound c gives = refused old new sound c.began gives.0
mklvcopy_serves lv copies before after old new (Err fault.VolumeExists) sound c gives = absurd gives
mklvcopy_serves lv copies before after old new (Err (fault.CopyLimit now)) sound c gives = refused old new sound c.began gives.0
mklvcopy_serves lv copies before after old new (Err (fault.StaleCopy lp)) sound c gives = absurd gives
mklvcopy_serves lv copies before after old new (Err (fault.LastFresh lp)) sound c gives = absurd gives
mklvcopy_serves lv copies before after old new (Err (fault.TooMany limit)) sound c gives = absurd gives
mklvcopy_serves lv copies before after old new (Err (fault.NoRoom free)) sound c gives = refused old new sound c.began gives.0
mklvcopy_serves lv copies before after old new (Err fault.HistoryFull) sound c gives = refused old new sound c.began gives.0
mklvcopy_serves lv copies before after old new (Err fault.Memory) sound c gives = refused old new sound c.began gives.0
