-- Over the addition of copies.
use Rattle.std.proofs.Common.{◌≡◌, ◌⊎◌, inl, inr, ⊎_elim, ℕ, ◌==◌, [], List, None, Some, Result, Ok, Err, sym, ap, subst, ◌∙◌}
use Rattle.std.specs.Prelude.{◌≢◌, Contains, IsTrue, find}
use Rattle.std.proofs.lemmas.List.Elements.{All-contains}
use Rattle.lvm_num.specs.declared.descriptor.Descriptor.{Descriptor}
use Rattle.lvm_num.specs.declared.descriptor.LvRow.{LvRow}
use Rattle.lvm_num.specs.declared.place.Pp.{Pp}
use Rattle.lvm_num.specs.declared.status.Status.{Status}
use Rattle.lvm_num.specs.Descriptor.{is_member, volume_of}
use Rattle.lvm_num.specs.Record.{Stamped}
use Rattle.lvm_num.specs.Status.{calls_stale}
use Rattle.lvm_disk.specs.Device.{image_of}
use Rattle.lvm_kept.specs.Contents.{contents_of}
use Rattle.lvm_kept.specs.Moments.{Moment}
use Rattle.lvm_steps.specs.Moments.{Keeps}
use Rattle.lvm_tie_commands.specs.passed.Commit.{IsOneFoundOn}
use Rattle.lvm_tie_commands.specs.passed.Core.{moment_of, NoPartition, NoVolume, IsSettled}
use Rattle.lvm_tie_commands.specs.passed.VolumePlan.{GroupFault, IfOn}
use Rattle.lvm_map.specs.FirstFit.{IsAllocated, more_copies}
use Rattle.lvm_map.proofs.FirstFitLemmas.OneAnswer.{map_is_one}
use Rattle.lvm_session.specs.State.{Core, State, is_there}
use Rattle.lvm_tie_commands.specs.passed.VolumePlanFaultGroupFault as fault
use Rattle.lvm_volumes.specs.Endings.{StillHeld}
use Rattle.lvm_volumes.specs.passed.VolumePlan.{further_copies, with_copies, with_map, HasFurtherPlaces}
use Rattle.lvm_volumes.specs.passed.Even.{IsEven}
use Rattle.lvm_volumes.specs.Mirrors.{AreAdded, IsFurther, IsWithMore, MklvcopyGives, to_add}
use Rattle.lvm_volumes.proofs.LawsLemmas.{more_are_even}
use Rattle.lvm_tie_commands.specs.passed.Handover.{IsCommanded}
use Rattle.lvm_volumes.proofs.EvenLemmas.Even.{kept_even}
use Rattle.lvm_tie_commands.specs.Commands.{IsLeftStandingSince, MayBeCommanded}
use Rattle.lvm_tie_commands.proofs.CommandsLemmas.Commands.{KeepsEven, keeps_on, left_standing, on_all}
use Rattle.lvm_tie_commands.specs.Copies.{MklvcopyGoesOn}

-- ---- the plan

-- first fit gives the volume no other partitions for its further copies
pub same_further : (lv copies : ℕ) (core : Core) (row : LvRow) (pps : List Pp) (p : Pp) → HasFurtherPlaces lv copies core row pps → IsFurther lv copies core p → Contains (further_copies (with_map row copies pps) row.copies) p
same_further lv copies core row pps p places further =
    let both : Some further.0 ≡ Some row = sym further.1.1.grows.found.volume ∙ places.grows.found.volume in
    let same : further.0 ≡ row = cc both in
    let at : IsAllocated core.descriptor (is_there core) (more_copies row copies) further.1.0 = subst (λ (r : LvRow). IsAllocated core.descriptor (is_there core) (more_copies r copies) further.1.0) same further.1.1.placed in
    let one : further.1.0 ≡ pps = map_is_one core.descriptor (is_there core) (more_copies row copies) further.1.0 pps at places.placed in
    subst (λ (l : List Pp). Contains (further_copies (with_map row copies l) row.copies) p) one (subst (λ (r : LvRow). Contains (further_copies (with_map r copies further.1.0) r.copies) p) same further.1.2)

-- ---- what is left

-- the descriptor is as it was, or the volume has more copies
abbrev AreAddedOrNot : ℕ → ℕ → State → State → Type 0
AreAddedOrNot lv copies old new = (new.core.descriptor ≡ old.core.descriptor) ⊎ ((added : List Pp) × AreAdded lv copies old new added)

refused : (lv copies : ℕ) (old new : State) → new ≡ old → AreAddedOrNot lv copies old new
refused lv copies old new same = inl (ap (λ (s : State). s.core.descriptor) same)

added_or_not : (lv copies before : ℕ) (old new : State) (answer : Result (List Pp) GroupFault) → MklvcopyGives lv copies before old new answer → IfOn answer (AreAddedOrNot lv copies old new)
added_or_not lv copies before old new (Ok added) gives = inr (added, gives)
added_or_not lv copies before old new (Err fault.Dark) gives = tt
added_or_not lv copies before old new (Err (fault.WentOff have total)) gives = tt
added_or_not lv copies before old new (Err fault.Stuck) gives = tt
added_or_not lv copies before old new (Err (fault.DiskFailed disk)) gives = absurd gives
added_or_not lv copies before old new (Err fault.Busy) gives = refused lv copies old new gives.0
added_or_not lv copies before old new (Err fault.NoVolume) gives = refused lv copies old new gives.0
added_or_not lv copies before old new (Err fault.VolumeExists) gives = absurd gives
added_or_not lv copies before old new (Err (fault.CopyLimit now)) gives = refused lv copies old new gives.0
added_or_not lv copies before old new (Err (fault.StaleCopy lp)) gives = absurd gives
added_or_not lv copies before old new (Err (fault.LastFresh lp)) gives = absurd gives
added_or_not lv copies before old new (Err (fault.TooMany limit)) gives = absurd gives
added_or_not lv copies before old new (Err (fault.NoRoom free)) gives = refused lv copies old new gives.0
added_or_not lv copies before old new (Err fault.HistoryFull) gives = refused lv copies old new gives.0
added_or_not lv copies before old new (Err fault.Memory) gives = refused lv copies old new gives.0

-- a group without volumes has none of the number
pub no_volume : (d : Descriptor) (lv : ℕ) (row : LvRow) → d.lvs ≡ [] → volume_of d lv ≡ Some row → ⊥
no_volume d lv row none some = absurd (let no : None ≡ Some row = sym (ap (λ (rows : List LvRow). find (λ (r : LvRow). r.number == lv) rows) none) ∙ some in cc no)

module _ (run : ℕ) (first : Moment) (lv copies before after : ℕ) (old new : State) (answer : Result (List Pp) GroupFault)
    (may : MayBeCommanded run first old) (c : IsCommanded (to_add lv copies old.core) before after old new answer) where
  keeps : Keeps run first (moment_of new)
  keeps = keeps_on run first old new may c.began (to_add lv copies old.core) before after c.leaves tt

  module _ (on : IsSettled new.core) (added : AreAddedOrNot lv copies old new) where
    descriptor_is : (it : (added : List Pp) × AreAdded lv copies old new added) → new.core.descriptor ≡ with_copies old.core.descriptor lv copies it.1.pps
    descriptor_is it = ap (λ (s : Core). s.descriptor) it.1.is

    members : (d : ℕ) → is_member new.core.descriptor d ≡ is_member old.core.descriptor d
    members d = ⊎_elim (λ (same : new.core.descriptor ≡ old.core.descriptor). ap (λ (g : Descriptor). is_member g d) same) (λ (it : (added : List Pp) × AreAdded lv copies old new added). ap (λ (g : Descriptor). is_member g d) (descriptor_is it)) added

    further_stale : (it : (added : List Pp) × AreAdded lv copies old new added) (stands : Stamped Status) → stands.value ≡ new.core.status.wanted → (p : Pp) → IsFurther lv copies old.core p → IsTrue (calls_stale stands.value p)
    further_stale it stands after p further =
        let among : Contains it.0 p = subst (λ (l : List Pp). Contains l p) (sym it.1.added_is) (same_further lv copies old.core it.1.row it.1.pps p it.1.may.places further) in
        ap (λ (s : Status). calls_stale s p) (after ∙ sym on.committed) ∙ All-contains (λ (q : Pp). IsTrue (calls_stale new.core.status.committed q)) it.0 p it.1.stale among

    keeps_even : KeepsEven old new
    keeps_even was is stood stands told told_new wanted even =
        let kept : IsEven (contents_of (image_of new.device.sizes is)) old.core.descriptor (Some stands) (is_there new.core) = kept_even (IsWithMore lv copies old.core) (IsFurther lv copies old.core) NoPartition NoVolume old new was is stood stands c.leaves.writes c.leaves.status (λ pp none. absurd none) told told_new wanted even in
        ⊎_elim
        (λ (same : new.core.descriptor ≡ old.core.descriptor). subst (λ (g : Descriptor). IsEven (contents_of (image_of new.device.sizes is)) g (Some stands) (is_there new.core)) (sym same) kept)
        (λ (it : (added : List Pp) × AreAdded lv copies old new added). subst (λ (g : Descriptor). IsEven (contents_of (image_of new.device.sizes is)) g (Some stands) (is_there new.core)) (sym (descriptor_is it))
        (more_are_even (contents_of (image_of new.device.sizes is)) old lv copies it.1.row it.1.pps stands (is_there new.core) may.sound.fitting.valid it.1.may (further_stale it stands wanted.after) kept))
        added

    had_some : new.core.descriptor.lvs ≢ [] → old.core.descriptor.lvs ≡ [] → IsOneFoundOn old.device
    had_some some none = absurd (⊎_elim
        (λ (same : new.core.descriptor ≡ old.core.descriptor). some (ap (λ (g : Descriptor). g.lvs) same ∙ none))
        (λ (it : (added : List Pp) × AreAdded lv copies old new added). no_volume old.core.descriptor lv it.1.row none it.1.may.places.grows.found.volume)
        added)

    left_so : StillHeld old new → IsLeftStandingSince run first new
    left_so still whole past begins = left_standing run first old new may c.began (to_add lv copies old.core) before after c.leaves on still members keeps_even had_some keeps whole past begins

pub mklvcopy_goes_on : MklvcopyGoesOn
mklvcopy_goes_on run first lv copies before after old new answer may c gives = (
  keeps run first lv copies before after old new answer may c,
  on_all answer (IsSettled new.core) (StillHeld old new) (AreAddedOrNot lv copies old new) (IsLeftStandingSince run first new) c.on c.still (added_or_not lv copies before old new answer gives)
      (λ on still added. left_so run first lv copies before after old new answer may c on added still),
)
