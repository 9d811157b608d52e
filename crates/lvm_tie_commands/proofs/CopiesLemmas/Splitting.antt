-- Over the split of a volume.
use Rattle.std.proofs.Common.{◌≡◌, ◌⊎◌, inl, inr, ⊎_elim, ℕ, List, [], Some, Result, Ok, Err, sym, ap, subst, ◌∙◌, arith}
use Rattle.std.specs.Prelude.{◌≢◌}
use Rattle.lvm_num.specs.declared.descriptor.Descriptor.{Descriptor}
use Rattle.lvm_num.specs.declared.descriptor.LvRow.{LvRow}
use Rattle.lvm_num.specs.Descriptor.{is_member, volume_of}
use Rattle.lvm_disk.specs.Device.{Media, image_of}
use Rattle.lvm_vol.specs.declared.entry.Vol.TheVariants.{Lv}
use Rattle.lvm_vol.specs.Facts.{Fact}
use Rattle.lvm_vol.specs.Order.{Ordered}
use Rattle.lvm_kept.specs.Contents.{contents_of}
use Rattle.lvm_kept.specs.Moments.{Moment}
use Rattle.lvm_steps.specs.Moments.{RunBegins, Keeps}
use Rattle.lvm_handover.specs.passed.Core.{EntersVolumes}
use Rattle.lvm_tie_commands.specs.passed.Commit.{IsOneFoundOn}
use Rattle.lvm_tie_commands.specs.passed.Core.{moment_of, NoPartition, IsSettled}
use Rattle.lvm_tie_commands.specs.passed.VolumePlan.{GroupFault, IfOn}
use Rattle.lvm_session.specs.State.{Core, State, is_there}
use Rattle.lvm_tie_commands.specs.passed.VolumePlanFaultGroupFault as fault
use Rattle.lvm_volume_plan.specs.NewVolume.{IsLowestFree}
use Rattle.lvm_volume_plan.specs.Split.{kept_row, split_row, with_split}
use Rattle.lvm_volume_plan.proofs.CopiesLemmas.Rows.{one_found}
use Rattle.lvm_volumes.specs.Endings.{StillHeld}
use Rattle.lvm_volumes.specs.passed.Even.{IsEven}
use Rattle.lvm_map.proofs.PlacesLemmas.{volume_at}
use Rattle.lvm_write.proofs.WrittenLemmas.Writing.{if_told}
use Rattle.lvm_parted.proofs.PartedLemmas.{split_stays_even}
use Rattle.lvm_split.specs.Premises.{IsEvenOn, MaySplitSince}
use Rattle.lvm_split.specs.Splitting.{IsSplit, IsVolumeSplit, SplitGives, to_split}
use Rattle.lvm_split.proofs.SplittingLemmas.Copies as copies_
use Rattle.lvm_tie_commands.specs.passed.Handover.{IsCommanded}
use Rattle.lvm_volumes.proofs.EvenLemmas.Even.{kept_even}
use Rattle.lvm_tie_commands.specs.Commands.{IsLeftStandingSince, MayBeCommanded}
use Rattle.lvm_tie_commands.specs.Copies.{SplitGoesOn}
use Rattle.lvm_tie_commands.proofs.CommandsLemmas.Commands.{KeepsEven, is_alone, keeps_on, left_standing, on_all}
use Rattle.lvm_tie_commands.proofs.CopiesLemmas.Adding.{no_volume}
use Rattle.lvm_tie_commands.proofs.HeldLemmas.{Carries, carries}
use Rattle.lvm_tie_commands.proofs.MomentsLemmas.{calm_at}
use Rattle.lvm_tie_commands.proofs.Resting.{landed, left}

-- nothing has happened, or the group had the volume
abbrev HadOrNot : ℕ → State → State → Type 0
HadOrNot lv old new = (new ≡ old) ⊎ ((row : LvRow) × (volume_of old.core.descriptor lv ≡ Some row))

had_or_not : (lv : ℕ) (name : List ℕ) (copies before : ℕ) (old new : State) (answer : Result ℕ GroupFault) → SplitGives lv name copies before old new answer → HadOrNot lv old new
had_or_not lv name copies before old new (Ok number) gives = inr (gives.row, gives.may.counted.copies_for.parts.named.found.volume)
had_or_not lv name copies before old new (Err fault.Dark) gives = ⊎_elim (λ refused. inl refused.0) (λ ended. inr (ended.row, ended.may.counted.copies_for.parts.named.found.volume)) gives
had_or_not lv name copies before old new (Err (fault.WentOff have total)) gives = ⊎_elim (λ refused. inl refused.0) (λ ended. inr (ended.row, ended.may.counted.copies_for.parts.named.found.volume)) gives
had_or_not lv name copies before old new (Err fault.Stuck) gives = inr (gives.row, gives.may.counted.copies_for.parts.named.found.volume)
had_or_not lv name copies before old new (Err (fault.StaleCopy lp)) gives = ⊎_elim (λ refused. inl refused.0) (λ halted. inr (halted.row, halted.may.counted.copies_for.parts.named.found.volume)) gives
had_or_not lv name copies before old new (Err (fault.LastFresh lp)) gives = ⊎_elim (λ refused. inl refused.0) (λ halted. inr (halted.row, halted.may.counted.copies_for.parts.named.found.volume)) gives
had_or_not lv name copies before old new (Err fault.Busy) gives = inl gives.0
had_or_not lv name copies before old new (Err fault.NoVolume) gives = inl gives.0
had_or_not lv name copies before old new (Err fault.VolumeExists) gives = inl gives.0
had_or_not lv name copies before old new (Err (fault.CopyLimit now)) gives = inl gives.0
had_or_not lv name copies before old new (Err (fault.TooMany limit)) gives = inl gives.0
had_or_not lv name copies before old new (Err (fault.NoRoom free)) gives = absurd gives
had_or_not lv name copies before old new (Err fault.HistoryFull) gives = inl gives.0
had_or_not lv name copies before old new (Err (fault.DiskFailed disk)) gives = absurd gives
had_or_not lv name copies before old new (Err fault.Memory) gives = inl gives.0

-- the descriptor is as it was, or names both volumes
abbrev IsSplitOrNot : ℕ → List ℕ → ℕ → State → State → Type 0
IsSplitOrNot lv name copies old new = (new.core.descriptor ≡ old.core.descriptor) ⊎ ((number : ℕ) × IsVolumeSplit lv name copies number old new)

refused : (lv : ℕ) (name : List ℕ) (copies : ℕ) (old new : State) → new ≡ old → IsSplitOrNot lv name copies old new
refused lv name copies old new same = inl (ap (λ (s : State). s.core.descriptor) same)

split_or_not : (lv : ℕ) (name : List ℕ) (copies before : ℕ) (old new : State) (answer : Result ℕ GroupFault) → SplitGives lv name copies before old new answer → IfOn answer (IsSplitOrNot lv name copies old new)
split_or_not lv name copies before old new (Ok number) gives = inr (number, gives)
split_or_not lv name copies before old new (Err fault.Dark) gives = tt
split_or_not lv name copies before old new (Err (fault.WentOff have total)) gives = tt
split_or_not lv name copies before old new (Err fault.Stuck) gives = tt
split_or_not lv name copies before old new (Err (fault.StaleCopy lp)) gives = ⊎_elim (λ no. refused lv name copies old new no.0) (λ halted. inl (ap (λ (c : Core). c.descriptor) halted.halts.is)) gives
split_or_not lv name copies before old new (Err (fault.LastFresh lp)) gives = ⊎_elim (λ no. refused lv name copies old new no.0) (λ halted. inl (ap (λ (c : Core). c.descriptor) halted.halts.is)) gives
split_or_not lv name copies before old new (Err fault.Busy) gives = refused lv name copies old new gives.0
split_or_not lv name copies before old new (Err fault.NoVolume) gives = refused lv name copies old new gives.0
split_or_not lv name copies before old new (Err fault.VolumeExists) gives = refused lv name copies old new gives.0
split_or_not lv name copies before old new (Err (fault.CopyLimit now)) gives = refused lv name copies old new gives.0
split_or_not lv name copies before old new (Err (fault.TooMany limit)) gives = refused lv name copies old new gives.0
split_or_not lv name copies before old new (Err (fault.NoRoom free)) gives = absurd gives
split_or_not lv name copies before old new (Err fault.HistoryFull) gives = refused lv name copies old new gives.0
split_or_not lv name copies before old new (Err (fault.DiskFailed disk)) gives = absurd gives
split_or_not lv name copies before old new (Err fault.Memory) gives = refused lv name copies old new gives.0

module _ (run : ℕ) (first : Moment) (lv : ℕ) (name : List ℕ) (copies before after : ℕ) (old new : State) (answer : Result ℕ GroupFault)
    (may : MayBeCommanded run first old) (c : IsCommanded (to_split lv name copies old.core) before after old new answer) where
  -- a group without volumes has none of the number
  not_entered : HadOrNot lv old new → old.core.descriptor.lvs ≡ [] → EntersVolumes old.core.history.facts new.core.history.facts → ⊥
  not_entered (inl same) none enters = absurd (let lower = subst (λ (s : State). EntersVolumes old.core.history.facts s.core.history.facts) same enters in omega (arith, lower))
  not_entered (inr had) none enters = no_volume old.core.descriptor lv had.0 none had.1

  -- what lets it be
  module _ (had : HadOrNot lv old new) (row : LvRow) (volume : volume_of old.core.descriptor lv ≡ Some row) where
    even : (past : List Fact) → RunBegins run past first → IsEvenOn old
    even past begins =
        let it : (media : Media) × Carries old media = carries run first old may c.began past begins (λ none. absurd (no_volume old.core.descriptor lv row none volume)) in
        if_told old.device.media _ (λ media told.
        let same : it.0 ≡ media = let both : Some it.0 ≡ Some media = sym it.1.told ∙ told in cc both in
        let its : Carries old media = subst (λ (m : Media). Carries old m) same it.1 in
        (its.held.shows, its.even))

    lets : MaySplitSince lv old new run first
    lets = record {
      alone = is_alone run first old new may c.began (λ none enters. absurd (not_entered had none enters));
      left = left old may.sound c.began;
      even = even;
      closed = λ past begins b. calm_at run first (moment_of old) may.keeps (subst (λ (n : ℕ). Ordered n [] old.core.history.facts) may.run_is may.sound.told.ordered) (landed old may.sound c.began) past begins (Lv lv) b;
    }

  keeps : HadOrNot lv old new → Keeps run first (moment_of new)
  keeps had = ⊎_elim
      (λ (same : new ≡ old). subst (λ (s : State). Keeps run first (moment_of s)) (sym same) may.keeps)
      (λ some. keeps_on run first old new may c.began (to_split lv name copies old.core) before after c.leaves (lets had some.0 some.1))
      had

  module _ (split : IsSplitOrNot lv name copies old new) where
    next_is : (number : ℕ) (it : IsVolumeSplit lv name copies number old new) → new.core.descriptor ≡ with_split old.core.descriptor it.row copies number name
    next_is number it = ap (λ (s : Core). s.descriptor) it.is

    members : (d : ℕ) → is_member new.core.descriptor d ≡ is_member old.core.descriptor d
    members d = ⊎_elim (λ (same : new.core.descriptor ≡ old.core.descriptor). ap (λ (g : Descriptor). is_member g d) same) (λ it. ap (λ (g : Descriptor). is_member g d) (next_is it.0 it.1)) split

    keeps_even : KeepsEven old new
    keeps_even was is stood stands told told_new wanted even =
        let kept : IsEven (contents_of (image_of new.device.sizes is)) old.core.descriptor (Some stands) (is_there new.core) = kept_even (IsSplit lv name copies old.core) NoPartition NoPartition (IsLowestFree old.core.descriptor) old new was is stood stands c.leaves.writes c.leaves.status (λ pp none. absurd none) told told_new wanted even in
        ⊎_elim
        (λ (same : new.core.descriptor ≡ old.core.descriptor). subst (λ (g : Descriptor). IsEven (contents_of (image_of new.device.sizes is)) g (Some stands) (is_there new.core)) (sym same) kept)
        (λ split. subst (λ (g : Descriptor). IsEven (contents_of (image_of new.device.sizes is)) g (Some stands) (is_there new.core)) (sym (next_is split.0 split.1)) (both split.0 split.1 kept))
        split
      where
        both : (number : ℕ) (it : IsVolumeSplit lv name copies number old new) → IsEven (contents_of (image_of new.device.sizes is)) old.core.descriptor (Some stands) (is_there new.core)
            → IsEven (contents_of (image_of new.device.sizes is)) (with_split old.core.descriptor it.row copies number name) (Some stands) (is_there new.core)
        both number it kept =
            let d : Descriptor = old.core.descriptor in
            let valid = may.sound.fitting.valid in
            let found = it.may.counted.copies_for.parts.named.found.volume in
            let volume : volume_of d it.row.number ≡ Some it.row = ap (volume_of d) (volume_at d lv it.row found).its ∙ found in
            let are = it.may.counted.copies_for.parts.are in
            let order = it.order in
            split_stays_even (contents_of (image_of new.device.sizes is)) d (with_split d it.row copies number name) (Some stands) (is_there new.core) it.row
            (kept_row it.row copies) (split_row it.row copies number name)
            (one_found it.row.number d.lvs it.row volume)
            (copies_.stays_part d copies number name it.row valid volume are it.lowest order) (copies_.new_part d copies number name it.row valid volume are it.lowest order)
            (copies_.is_split_into d copies number name it.row valid volume are it.lowest order) kept

    had_some : new.core.descriptor.lvs ≢ [] → old.core.descriptor.lvs ≡ [] → IsOneFoundOn old.device
    had_some some none = absurd (⊎_elim
        (λ (same : new.core.descriptor ≡ old.core.descriptor). some (ap (λ (g : Descriptor). g.lvs) same ∙ none))
        (λ it. no_volume old.core.descriptor lv it.1.row none it.1.may.counted.copies_for.parts.named.found.volume)
        split)

    left_so : Keeps run first (moment_of new) → IsSettled new.core → StillHeld old new → IsLeftStandingSince run first new
    left_so span on still whole past begins = left_standing run first old new may c.began (to_split lv name copies old.core) before after c.leaves on still members keeps_even had_some span whole past begins

pub split_goes_on : SplitGoesOn
split_goes_on run first lv name copies before after old new answer may c gives =
    let span : Keeps run first (moment_of new) = keeps run first lv name copies before after old new answer may c (had_or_not lv name copies before old new answer gives) in (
      span,
      on_all answer (IsSettled new.core) (StillHeld old new) (IsSplitOrNot lv name copies old new) (IsLeftStandingSince run first new) c.on c.still (split_or_not lv name copies before old new answer gives)
          (λ on still split. left_so run first lv name copies before after old new answer may c split span on still),
    )
