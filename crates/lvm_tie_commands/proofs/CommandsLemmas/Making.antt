-- Over the making of a volume.
use Rattle.std.proofs.Common.{◌≡◌, ◌⊎◌, inl, inr, ⊎_elim, ℕ, [], List, Some, Result, Ok, Err, refl, sym, ap, subst, ◌∙◌, arith}
use Rattle.std.specs.Prelude.{◌≢◌}
use Rattle.std.proofs.lemmas.List.Elements.{All-contains}
use Rattle.lvm_num.specs.declared.descriptor.Descriptor.{Descriptor}
use Rattle.lvm_num.specs.declared.place.Pp.{Pp}
use Rattle.lvm_num.specs.Descriptor.{is_member}
use Rattle.lvm_num.specs.Geometry.{volume_blocks}
use Rattle.lvm_vol.specs.Facts.{Fact, Made, Making as Making_}
use Rattle.lvm_kept.specs.Moments.{Moment}
use Rattle.lvm_steps.specs.Moments.{Keeps}
use Rattle.lvm_commit.specs.LawsOfData.{IsFree}
use Rattle.lvm_commit.specs.LawsOfVolumes.{IsOneFoundOn}
use Rattle.lvm_session.specs.State.{Core, State, is_there}
use Rattle.lvm_handover.specs.passed.Core.{moment_of, EntersVolumes, IsSettled}
use Rattle.lvm_handover.specs.passed.VolumePlan.{GroupFault, NewVolume, row_for, with_volume, IfOn}
use Rattle.lvm_handover.proofs.passed.Core.{enters_one}
use Rattle.lvm_handover.specs.passed.VolumePlanFaultGroupFault as fault
use Rattle.lvm_volumes.specs.Volumes.{AreZeroed}
use Rattle.lvm_handover.specs.passed.Volumes.{StillHeld, IsChosen, IsVolumeMade, MklvGives, making, to_make}
use Rattle.lvm_handover.proofs.passed.Volumes.{free_of}
use Rattle.lvm_handover.specs.Serving.{IsCommanded}
use Rattle.lvm_volumes.proofs.EvenLemmas.Even.{mklv_keeps_even}
use Rattle.lvm_volumes.proofs.EvenLemmas.Off.{zeroed_volume_is_even}
use Rattle.lvm_settled.specs.passed.Even.{IsEven}
use Rattle.lvm_settled.proofs.passed.Even.{mib_positive}
use Rattle.lvm_tie.specs.Begins.{shown_to}
use Rattle.lvm_tie_commands.specs.Commands.{IsAloneAtFirst, IsLeftStandingSince, MayBeCommanded, MklvGoesOn}
use Rattle.lvm_tie_commands.proofs.CommandsLemmas.Commands.{KeepsEven, is_alone, keeps_on, left_standing, on_all}

-- the descriptor has the volume, and its making was entered
record IsMade (v : NewVolume) (old new : State) : Type 0 where
  lv : ℕ
  map : List Pp
  is : new.core.descriptor ≡ with_volume old.core.descriptor (row_for v lv map)
  enters : EntersVolumes old.core.history.facts new.core.history.facts
  zeros : AreZeroed old.core.descriptor.mib map new.device

abbrev IsMadeOrNot : NewVolume → State → State → Type 0
IsMadeOrNot v old new = (new.core.descriptor ≡ old.core.descriptor) ⊎ IsMade v old new

made : (v : NewVolume) (lv : ℕ) (old new : State) → IsVolumeMade v lv old new → IsMadeOrNot v old new
made v lv old new it = inr (record {
  lv = lv;
  map = it.map;
  zeros = it.zeros;
  is = ap (λ (c : Core). c.descriptor) it.is;
  enters = subst (λ (facts : List Fact). EntersVolumes old.core.history.facts facts) (sym (ap (λ (c : Core). c.history.facts) it.is))
      (let one = enters_one old.core.history.facts (Making_ lv (volume_blocks old.core.descriptor.mib v.lps) v.mode) refl in
      let two = enters_one (making v lv old).facts (Made lv) refl in omega (arith, one, two));
})

refused : (v : NewVolume) (old new : State) → new ≡ old → IsMadeOrNot v old new
refused v old new same = inl (ap (λ (s : State). s.core.descriptor) same)

made_or_not : (v : NewVolume) (before : ℕ) (old new : State) (answer : Result ℕ GroupFault) → MklvGives v before old new answer → IfOn answer (IsMadeOrNot v old new)
made_or_not v before old new (Ok lv) gives = made v lv old new gives
made_or_not v before old new (Err fault.Dark) gives = tt
made_or_not v before old new (Err (fault.WentOff have total)) gives = tt
made_or_not v before old new (Err fault.Stuck) gives = tt
made_or_not v before old new (Err (fault.DiskFailed disk)) gives = inl (ap (λ (c : Core). c.descriptor) gives.ends.is)
made_or_not v before old new (Err fault.Busy) gives = refused v old new gives.0
made_or_not v before old new (Err fault.NoVolume) gives = absurd gives
made_or_not v before old new (Err fault.VolumeExists) gives = refused v old new gives.0
made_or_not v before old new (Err (fault.CopyLimit now)) gives = refused v old new gives.0
made_or_not v before old new (Err (fault.StaleCopy lp)) gives = absurd gives
made_or_not v before old new (Err (fault.LastFresh lp)) gives = absurd gives
made_or_not v before old new (Err (fault.TooMany limit)) gives = refused v old new gives.0
made_or_not v before old new (Err (fault.NoRoom free)) gives = refused v old new gives.0
made_or_not v before old new (Err fault.HistoryFull) gives = refused v old new gives.0
made_or_not v before old new (Err fault.Memory) gives = refused v old new gives.0

module _ (run : ℕ) (first : Moment) (v : NewVolume) (before after : ℕ) (old new : State) (answer : Result ℕ GroupFault)
    (may : MayBeCommanded run first old) (one : IsAloneAtFirst old new) (c : IsCommanded (to_make v old.core) before after old new answer) where
  keeps : Keeps run first (moment_of new)
  keeps = keeps_on run first old new may c.began (to_make v old.core) before after c.leaves (is_alone run first old new may c.began one)

  free : (pp : Pp) → IsChosen v old.core pp → IsFree old.core.descriptor pp
  free pp chosen = All-contains (IsFree old.core.descriptor) chosen.0 pp (free_of old.core.descriptor (is_there old.core) v.lps v.copies chosen.0 may.sound.fitting.valid chosen.1.placed) chosen.2

  module _ (made : IsMadeOrNot v old new) where
    members : (d : ℕ) → is_member new.core.descriptor d ≡ is_member old.core.descriptor d
    members d = ⊎_elim (λ (same : new.core.descriptor ≡ old.core.descriptor). ap (λ (g : Descriptor). is_member g d) same) (λ (it : IsMade v old new). ap (λ (g : Descriptor). is_member g d) it.is) made

    keeps_even : KeepsEven old new
    keeps_even was is stood stands told told_new wanted even =
        let kept : IsEven (shown_to new is) old.core.descriptor (Some stands) (is_there new.core) = mklv_keeps_even v old new was is stood stands c.leaves.writes c.leaves.status free told told_new wanted even in
        ⊎_elim
        (λ (same : new.core.descriptor ≡ old.core.descriptor). subst (λ (g : Descriptor). IsEven (shown_to new is) g (Some stands) (is_there new.core)) (sym same) kept)
        (λ (it : IsMade v old new). subst (λ (g : Descriptor). IsEven (shown_to new is) g (Some stands) (is_there new.core)) (sym it.is)
        (zeroed_volume_is_even new.device is old.core.descriptor (Some stands) (is_there new.core) v it.lv it.map (mib_positive old.core.descriptor may.sound.fitting.valid) told_new it.zeros kept))
        made

    enters : new.core.descriptor.lvs ≢ [] → old.core.descriptor.lvs ≡ [] → IsOneFoundOn old.device
    enters some none = ⊎_elim (λ (same : new.core.descriptor ≡ old.core.descriptor). absurd (some (ap (λ (g : Descriptor). g.lvs) same ∙ none))) (λ (it : IsMade v old new). one none it.enters) made

    left_so : IsSettled new.core → StillHeld old new → IsLeftStandingSince run first new
    left_so on still whole past begins =
        left_standing run first old new may c.began (to_make v old.core) before after c.leaves on still members keeps_even enters keeps whole past begins

pub mklv_goes_on : MklvGoesOn
mklv_goes_on run first v before after old new answer may one c gives = (
  keeps run first v before after old new answer may one c,
  on_all answer (IsSettled new.core) (StillHeld old new) (IsMadeOrNot v old new) (IsLeftStandingSince run first new) c.on c.still (made_or_not v before old new answer gives)
      (λ on still made. left_so run first v before after old new answer may one c made on still),
)
