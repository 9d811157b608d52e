-- Over the removal of copies.
use Rattle.std.proofs.Common.{◌≡◌, ◌⊎◌, inl, inr, ⊎_elim, ℕ, [], Some, Result, Ok, Err, sym, ap, subst, ◌∙◌}
use Rattle.std.specs.Prelude.{◌≢◌}
use Rattle.lvm_num.specs.declared.descriptor.Descriptor.{Descriptor}
use Rattle.lvm_num.specs.Descriptor.{is_member}
use Rattle.lvm_disk.specs.Device.{image_of}
use Rattle.lvm_kept.specs.Contents.{contents_of}
use Rattle.lvm_kept.specs.Moments.{Moment}
use Rattle.lvm_steps.specs.Moments.{Keeps}
use Rattle.lvm_tie_commands.specs.passed.Commit.{IsOneFoundOn}
use Rattle.lvm_tie_commands.specs.passed.Core.{moment_of, NoPartition, NoVolume, IsSettled}
use Rattle.lvm_tie_commands.specs.passed.VolumePlan.{GroupFault, IfOn}
use Rattle.lvm_session.specs.State.{Core, State, is_there}
use Rattle.lvm_tie_commands.specs.passed.VolumePlanFaultGroupFault as fault
use Rattle.lvm_volumes.specs.Endings.{StillHeld}
use Rattle.lvm_volumes.specs.passed.VolumePlan.{first_copies, with_copies}
use Rattle.lvm_volumes.specs.passed.Even.{IsEven}
use Rattle.lvm_volumes.specs.Mirrors.{AreTaken, IsWithFirst, RmlvcopyGives, to_take}
use Rattle.lvm_volumes.proofs.LawsLemmas.{first_are_even}
use Rattle.lvm_tie_commands.specs.passed.Handover.{IsCommanded}
use Rattle.lvm_volumes.proofs.EvenLemmas.Even.{kept_even}
use Rattle.lvm_tie_commands.specs.Commands.{IsLeftStandingSince, MayBeCommanded}
use Rattle.lvm_tie_commands.proofs.CommandsLemmas.Commands.{KeepsEven, keeps_on, left_standing, on_all}
use Rattle.lvm_tie_commands.specs.Copies.{RmlvcopyGoesOn}
use Rattle.lvm_tie_commands.proofs.CopiesLemmas.Adding.{no_volume}

-- the descriptor is as it was, or the volume has fewer copies
abbrev AreTakenOrNot : ℕ → ℕ → State → State → Type 0
AreTakenOrNot lv copies old new = (new.core.descriptor ≡ old.core.descriptor) ⊎ AreTaken lv copies old new

refused : (lv copies : ℕ) (old new : State) → new ≡ old → AreTakenOrNot lv copies old new
refused lv copies old new same = inl (ap (λ (s : State). s.core.descriptor) same)

taken_or_not : (lv copies before : ℕ) (old new : State) (answer : Result (Unit {0}) GroupFault) → RmlvcopyGives lv copies before old new answer → IfOn answer (AreTakenOrNot lv copies old new)
taken_or_not lv copies before old new (Ok done) gives = inr gives
taken_or_not lv copies before old new (Err fault.Dark) gives = tt
taken_or_not lv copies before old new (Err (fault.WentOff have total)) gives = tt
taken_or_not lv copies before old new (Err fault.Stuck) gives = tt
taken_or_not lv copies before old new (Err (fault.DiskFailed disk)) gives = absurd gives
taken_or_not lv copies before old new (Err fault.Busy) gives = refused lv copies old new gives.0
taken_or_not lv copies before old new (Err fault.NoVolume) gives = refused lv copies old new gives.0
taken_or_not lv copies before old new (Err fault.VolumeExists) gives = absurd gives
taken_or_not lv copies before old new (Err (fault.CopyLimit now)) gives = refused lv copies old new gives.0
taken_or_not lv copies before old new (Err (fault.StaleCopy lp)) gives = absurd gives
taken_or_not lv copies before old new (Err (fault.LastFresh lp)) gives = refused lv copies old new gives.0
taken_or_not lv copies before old new (Err (fault.TooMany limit)) gives = absurd gives
taken_or_not lv copies before old new (Err (fault.NoRoom free)) gives = absurd gives
taken_or_not lv copies before old new (Err fault.HistoryFull) gives = refused lv copies old new gives.0
taken_or_not lv copies before old new (Err fault.Memory) gives = refused lv copies old new gives.0

module _ (run : ℕ) (first : Moment) (lv copies before after : ℕ) (old new : State) (answer : Result (Unit {0}) GroupFault)
    (may : MayBeCommanded run first old) (c : IsCommanded (to_take lv copies old.core) before after old new answer) where
  keeps : Keeps run first (moment_of new)
  keeps = keeps_on run first old new may c.began (to_take lv copies old.core) before after c.leaves tt

  module _ (taken : AreTakenOrNot lv copies old new) where
    descriptor_is : (it : AreTaken lv copies old new) → new.core.descriptor ≡ with_copies old.core.descriptor lv copies (first_copies it.row copies)
    descriptor_is it = ap (λ (s : Core). s.descriptor) it.is

    members : (d : ℕ) → is_member new.core.descriptor d ≡ is_member old.core.descriptor d
    members d = ⊎_elim (λ (same : new.core.descriptor ≡ old.core.descriptor). ap (λ (g : Descriptor). is_member g d) same) (λ (it : AreTaken lv copies old new). ap (λ (g : Descriptor). is_member g d) (descriptor_is it)) taken

    keeps_even : KeepsEven old new
    keeps_even was is stood stands told told_new wanted even =
        let kept : IsEven (contents_of (image_of new.device.sizes is)) old.core.descriptor (Some stands) (is_there new.core) = kept_even (IsWithFirst lv copies old.core) NoPartition NoPartition NoVolume old new was is stood stands c.leaves.writes c.leaves.status (λ pp none. absurd none) told told_new wanted even in
        ⊎_elim
        (λ (same : new.core.descriptor ≡ old.core.descriptor). subst (λ (g : Descriptor). IsEven (contents_of (image_of new.device.sizes is)) g (Some stands) (is_there new.core)) (sym same) kept)
        (λ (it : AreTaken lv copies old new). subst (λ (g : Descriptor). IsEven (contents_of (image_of new.device.sizes is)) g (Some stands) (is_there new.core)) (sym (descriptor_is it))
        (first_are_even (contents_of (image_of new.device.sizes is)) old lv copies it.row stands (is_there new.core) may.sound.fitting.valid it.may kept))
        taken

    had_some : new.core.descriptor.lvs ≢ [] → old.core.descriptor.lvs ≡ [] → IsOneFoundOn old.device
    had_some some none = absurd (⊎_elim
        (λ (same : new.core.descriptor ≡ old.core.descriptor). some (ap (λ (g : Descriptor). g.lvs) same ∙ none))
        (λ (it : AreTaken lv copies old new). no_volume old.core.descriptor lv it.row none it.may.keeps.shrinks.found.volume)
        taken)

    left_so : Keeps run first (moment_of new) → IsSettled new.core → StillHeld old new → IsLeftStandingSince run first new
    left_so span on still whole past begins = left_standing run first old new may c.began (to_take lv copies old.core) before after c.leaves on still members keeps_even had_some span whole past begins

pub rmlvcopy_goes_on : RmlvcopyGoesOn
rmlvcopy_goes_on run first lv copies before after old new answer may c gives =
    let span : Keeps run first (moment_of new) = keeps run first lv copies before after old new answer may c in (
      span,
      on_all answer (IsSettled new.core) (StillHeld old new) (AreTakenOrNot lv copies old new) (IsLeftStandingSince run first new) c.on c.still (taken_or_not lv copies before old new answer gives)
          (λ on still taken. left_so run first lv copies before after old new answer may c taken span on still),
    )
