-- And after a volume was split.
use Rattle.std.proofs.Common.{◌≡◌, inl, inr, ⊎_elim, ℕ, ◌-◌, ◌==◌, List, [], Some, None, Ok, Err, refl, sym, ap, subst, ◌∙◌, arith}
use Rattle.std.specs.Prelude.{IsFalse, IsTrue, slice_set}
use Rattle.std.proofs.lemmas.Bool.{eqb-true}
use Rattle.lvm_num.specs.declared.descriptor.Descriptor.{Descriptor}
use Rattle.lvm_num.specs.declared.descriptor.LvRow.{LvRow}
use Rattle.lvm_num.specs.declared.place.Pp.{Pp}
use Rattle.lvm_num.specs.Descriptor.{IsValid, copies_of, is_member, volume_of}
use Rattle.lvm_num.specs.Status.{calls_stale}
use Rattle.lvm_vol.specs.Facts.{Made, Split}
use Rattle.lvm_vol.specs.Log.{with_fact}
use Rattle.lvm_vol.proofs.FactsLemmas.Order.{ordered-push}
use Rattle.lvm_kept.specs.Group.{IsOneOf}
use Rattle.lvm_map.proofs.PlacesLemmas.{volume_at}
use Rattle.lvm_session.specs.State.{Core, State}
use Rattle.lvm_session.specs.Judging.{copies_in}
use Rattle.lvm_session.specs.Sound.{IsSound}
use Rattle.lvm_tie_commands.specs.passed.Core.{Leaves, NoPartition, IsSettled}
use Rattle.lvm_tie_commands.specs.passed.VolumePlan.{GroupFault}
use Rattle.lvm_tie_commands.specs.passed.VolumePlanFaultGroupFault as fault
use Rattle.lvm_volume_plan.specs.CopiesFaults.{AreFewer}
use Rattle.lvm_volume_plan.specs.NewVolume.{IsLowestFree}
use Rattle.lvm_volume_plan.specs.Split.{MayBeSplit, split_row, with_split}
use Rattle.lvm_volume_plan.proofs.SplitLemmas.Behind as behind
use Rattle.lvm_volumes.specs.Endings.{HasFresh, KeepsFresh, StillHeld}
use Rattle.lvm_volumes.specs.passed.VolumePlan.{first_copies, with_copies}
use Rattle.lvm_volumes.proofs.passed.CopyPlanCopiesLemmasFewer as fewer
use Rattle.lvm_volumes.proofs.passed.VolumePlan.{one_found, one_insert}
use Rattle.lvm_split.specs.Parting.{splitting}
use Rattle.lvm_split.specs.Splitting.{IsSplit, IsVolumeSplit, SplittingHalts, to_split}
use Rattle.lvm_tie_commands.proofs.passed.Handover.{found, had_fresh, its_row, may_serve}
use Rattle.lvm_tie_commands.specs.Serving.{MayServeWith}
use Rattle.lvm_tie_commands.specs.SplitServing.{SplitLeavesServing}
use Rattle.lvm_tie_commands.proofs.ServingLemmas.Rows.{IsCopyIn, were_or}
use Rattle.lvm_tie_commands.proofs.ServingLemmas.More.{among_copies, its_member, refused}

-- a copy of the new volume was one of the other's; each other copy was one of its volume's
module _ (d : Descriptor) (valid : IsValid d) (row : LvRow) (copies number : ℕ) (name : List ℕ) (volume : volume_of d row.number ≡ Some row) (are : AreFewer row copies) where
  abbrev next : Descriptor
  next = with_split d row copies number name

  abbrev new_row : LvRow
  new_row = split_row row copies number name

  old_one : (r : LvRow) (lp : ℕ) (p : Pp) → IsOneOf (with_copies d row.number copies (first_copies row copies)).lvs r → IsOneOf (copies_of r lp) p → IsCopyIn d r.number lp p
  old_one r lp p there one = ⊎_elim (λ (its : IsCopyIn d r.number lp p). its) (λ (none : ⊥). absurd none)
      (were_or d valid row.number copies row (first_copies row copies) volume (λ (q : Pp). ⊥) (λ lp p one. inl (fewer.old_copies d row.number copies row valid volume are.fewer lp p one)) r lp p there one)

  split_off : (r : LvRow) (lp : ℕ) (p : Pp) → r ≡ new_row → IsOneOf (copies_of r lp) p → IsCopyIn d row.number lp p
  split_off r lp p is one = record {
    row = row;
    volume = one_found row.number d.lvs row volume;
    number_is = refl;
    one = behind.old_copies d copies row valid volume are.fewer number name lp p (subst (λ (x : LvRow). IsOneOf (copies_of x lp) p) is one);
  }

  on_member : (r : LvRow) (lp : ℕ) (p : Pp) → IsOneOf next.lvs r → IsOneOf (copies_of r lp) p → IsTrue (is_member d p.disk)
  on_member r lp p there one = ⊎_elim
      (λ (new : r ≡ new_row). its_member d valid row.number lp p (split_off r lp p new one))
      (λ (was : IsOneOf (with_copies d row.number copies (first_copies row copies)).lvs r). its_member d valid r.number lp p (old_one r lp p was one))
      (one_insert (with_copies d row.number copies (first_copies row copies)).lvs (number - 1) new_row r there)

module _ (lv : ℕ) (name : List ℕ) (copies before after : ℕ) (old new : State) (sound : IsSound old) (began : IsSettled old.core) (leaves : Leaves (to_split lv name copies old.core) before after old new)
    (on : IsSettled new.core) (still : StillHeld old new) (keeps : KeepsFresh old new) where
  abbrev d : Descriptor
  d = old.core.descriptor

  valid : IsValid d
  valid = sound.fitting.valid

  its_volume : (row : LvRow) → MayBeSplit lv name copies old.core row → volume_of d row.number ≡ Some row
  its_volume row may = let found_so = may.counted.copies_for.parts.named.found.volume in ap (volume_of d) (volume_at d lv row found_so).its ∙ found_so

  members : (g : Descriptor) → IsSplit lv name copies old.core g → (r : LvRow) (lp : ℕ) (p : Pp) → IsOneOf g.lvs r → IsOneOf (copies_of r lp) p → IsTrue (is_member d p.disk)
  members g next_is r lp p there one =
      let row = next_is.0 in
      let may = next_is.1 in
      on_member d valid row copies next_is.2.0 name (its_volume row may) may.counted.copies_for.parts.are r lp p (subst (λ (x : Descriptor). IsOneOf x.lvs r) next_is.2.2 there) one

  module _ (number : ℕ) (it : IsVolumeSplit lv name copies number old new) where
    volume : volume_of d it.row.number ≡ Some it.row
    volume = its_volume it.row it.may

    are : AreFewer it.row copies
    are = it.may.counted.copies_for.parts.are

    abbrev both : Descriptor
    both = with_split d it.row copies number name

    both_is : new.core.descriptor ≡ both
    both_is = ap (λ (c : Core). c.descriptor) it.is

    fresh : (n lp : ℕ) (p : Pp) → IsOneOf (copies_in both n lp) p → IsFalse (calls_stale old.core.origin.table p) → HasFresh new.core n lp
    fresh n lp p one was =
        let its = its_row both n lp p one in
        let at = found (λ (r : LvRow). r.number == n) both.lvs its.row its.volume in
        let here : IsOneOf (copies_in new.core.descriptor n lp) p = subst (λ (g : Descriptor). IsOneOf (copies_in g n lp) p) (sym both_is) one in
        ⊎_elim
        (λ (new_one : its.row ≡ split_row it.row copies number name).
        let same : number ≡ n = sym (ap (λ (r : LvRow). r.number) new_one) ∙ eqb-true its.row.number n at.1 in
        keeps n lp p here (inl (subst (λ (m : ℕ). volume_of d m ≡ None) same it.lowest.free)))
        (λ (old_row : IsOneOf (with_copies d it.row.number copies (first_copies it.row copies)).lvs its.row).
        let was_copy = old_one d valid it.row copies number name volume are its.row lp p old_row its.one in
        let earlier : IsOneOf (copies_in d n lp) p = subst (λ (m : ℕ). IsOneOf (copies_in d m lp) p) (eqb-true its.row.number n at.1) (among_copies d valid its.row.number lp p was_copy) in
        keeps n lp p here (inr (had_fresh old sound began n lp p earlier was)))
        (one_insert (with_copies d it.row.number copies (first_copies it.row copies)).lvs (number - 1) (split_row it.row copies number name) its.row at.0)

    split_serves : MayServeWith [] new
    split_serves = may_serve old sound began new on still [] both (with_fact (splitting lv number old) (Made number)) (IsSplit lv name copies old.core) NoPartition NoPartition (IsLowestFree d) 2 (slice_set old.core.last number 0) it.is refl
        (ordered-push old.core.history.run [] (splitting lv number old).facts (Made number) (ordered-push old.core.history.run [] old.core.history.facts (Split lv number) sound.told.ordered tt) tt)
        refl leaves.status (λ p none. absurd none) leaves.falls leaves.writes.sizes leaves.numbers (omega arith) it.may.room members (λ n lp p one was apart. fresh n lp p one was)

  -- a status was committed, and nothing is split
  module _ (why : GroupFault) (it : SplittingHalts lv name copies why old new) where
    as_they_were : (n lp : ℕ) (p : Pp) → IsOneOf (copies_in d n lp) p → IsFalse (calls_stale old.core.origin.table p) → HasFresh new.core n lp
    as_they_were n lp p one was =
        keeps n lp p (subst (λ (g : Descriptor). IsOneOf (copies_in g n lp) p) (sym (ap (λ (c : Core). c.descriptor) it.halts.is)) one) (inr (had_fresh old sound began n lp p one was))

    halted_serves : MayServeWith [] new
    halted_serves = may_serve old sound began new on still [] d old.core.history (IsSplit lv name copies old.core) NoPartition NoPartition (IsLowestFree d) 2 old.core.last it.halts.is refl
        sound.told.ordered refl leaves.status (λ p none. absurd none) leaves.falls leaves.writes.sizes leaves.numbers (omega arith) it.may.room members (λ n lp p one was apart. as_they_were n lp p one was)

pub split_leaves_serving : SplitLeavesServing
split_leaves_serving lv name copies before after old new (Ok number) sound c gives = split_serves lv name copies before after old new sound c.began c.leaves c.on c.still c.fresh number gives
split_leaves_serving lv name copies before after old new (Err fault.Dark) sound c gives = tt
split_leaves_serving lv name copies before after old new (Err (fault.WentOff have total)) sound c gives = tt
split_leaves_serving lv name copies before after old new (Err fault.Stuck) sound c gives = tt
split_leaves_serving lv name copies before after old new (Err (fault.StaleCopy lp)) sound c gives = ⊎_elim
    (λ no. refused old new sound c.began no.0)
    (λ halted. halted_serves lv name copies before after old new sound c.began c.leaves c.on c.still c.fresh (fault.StaleCopy lp) halted)
    gives
split_leaves_serving lv name copies before after old new (Err (fault.LastFresh lp)) sound c gives = ⊎_elim
    (λ no. refused old new sound c.began no.0)
    (λ halted. halted_serves lv name copies before after old new sound c.began c.leaves c.on c.still c.fresh (fault.LastFresh lp) halted)
    gives
split_leaves_serving lv name copies before after old new (Err fault.Busy) sound c gives = refused old new sound c.began gives.0
split_leaves_serving lv name copies before after old new (Err fault.NoVolume) sound c gives = refused old new sound c.began gives.0
split_leaves_serving lv name copies before after old new (Err fault.VolumeExists) sound c gives = refused old new sound c.began gives.0
split_leaves_serving lv name copies before after old new (Err (fault.CopyLimit now)) sound c gives = refused old new sound c.began gives.0
split_leaves_serving lv name copies before after old new (Err (fault.TooMany limit)) sound c gives = refused old new sound c.began gives.0
split_leaves_serving lv name copies before after old new (Err (fault.NoRoom free)) sound c gives = absurd gives
split_leaves_serving lv name copies before after old new (Err fault.HistoryFull) sound c gives = refused old new sound c.began gives.0
split_leaves_serving lv name copies before after old new (Err (fault.DiskFailed disk)) sound c gives = absurd gives
split_leaves_serving lv name copies before after old new (Err fault.Memory) sound c gives = refused old new sound c.began gives.0
