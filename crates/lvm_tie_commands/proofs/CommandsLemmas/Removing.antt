-- Over the removal of a volume.
use Rattle.std.proofs.Common.{◌≡◌, ◌⊎◌, inl, inr, ⊎_elim, ℕ, ◌==◌, [], List, Some, Result, Ok, Err, not, sym, ap, subst, ◌∙◌, arith}
use Rattle.std.specs.Prelude.{◌≢◌, IsSome, filter, find}
use Rattle.lvm_num.specs.declared.descriptor.Descriptor.{Descriptor}
use Rattle.lvm_num.specs.declared.descriptor.LvRow.{LvRow}
use Rattle.lvm_num.specs.Descriptor.{is_member, volume_of}
use Rattle.lvm_kept.specs.Moments.{Moment}
use Rattle.lvm_steps.specs.Moments.{Keeps}
use Rattle.lvm_commit.specs.LawsOfVolumes.{IsOneFoundOn}
use Rattle.lvm_session.specs.State.{Core, State, is_there}
use Rattle.lvm_handover.specs.passed.Core.{moment_of, EntersVolumes, IsSettled}
use Rattle.lvm_handover.specs.passed.VolumePlan.{GroupFault, without_volume, IfOn}
use Rattle.lvm_handover.specs.passed.VolumePlanFaultGroupFault as fault
use Rattle.lvm_handover.specs.passed.Volumes.{StillHeld, RmlvGives, to_remove}
use Rattle.lvm_handover.specs.Serving.{IsCommanded}
use Rattle.lvm_volumes.proofs.EvenLemmas.Even.{rmlv_keeps_even}
use Rattle.lvm_volumes.proofs.EvenLemmas.Off.{fewer_are_even}
use Rattle.lvm_settled.specs.passed.Even.{IsEven}
use Rattle.lvm_tie.specs.Begins.{shown_to}
use Rattle.lvm_tie_commands.specs.Commands.{IsLeftStandingSince, MayBeCommanded, RmlvGoesOn}
use Rattle.lvm_tie_commands.proofs.CommandsLemmas.Commands.{KeepsEven, is_alone, keeps_on, left_standing, on_all}

-- nothing has happened, or the group had the volume
abbrev HadOrNot : ℕ → State → State → Type 0
HadOrNot lv old new = (new ≡ old) ⊎ IsSome (volume_of old.core.descriptor lv)

had_or_not : (lv before : ℕ) (old new : State) (answer : Result (Unit {0}) GroupFault) → RmlvGives lv before old new answer → HadOrNot lv old new
had_or_not lv before old new (Ok done) gives = inr gives.may.there
had_or_not lv before old new (Err fault.Dark) gives = ⊎_elim (λ refused. inl refused.0) (λ ended. inr ended.may.there) gives
had_or_not lv before old new (Err (fault.WentOff have total)) gives = ⊎_elim (λ refused. inl refused.0) (λ ended. inr ended.may.there) gives
had_or_not lv before old new (Err fault.Stuck) gives = inr gives.may.there
had_or_not lv before old new (Err (fault.DiskFailed disk)) gives = absurd gives
had_or_not lv before old new (Err fault.Busy) gives = inl gives.0
had_or_not lv before old new (Err fault.NoVolume) gives = inl gives.0
had_or_not lv before old new (Err fault.VolumeExists) gives = absurd gives
had_or_not lv before old new (Err (fault.CopyLimit now)) gives = absurd gives
had_or_not lv before old new (Err (fault.StaleCopy lp)) gives = absurd gives
had_or_not lv before old new (Err (fault.LastFresh lp)) gives = absurd gives
had_or_not lv before old new (Err (fault.TooMany limit)) gives = absurd gives
had_or_not lv before old new (Err (fault.NoRoom free)) gives = absurd gives
had_or_not lv before old new (Err fault.HistoryFull) gives = inl gives.0
had_or_not lv before old new (Err fault.Memory) gives = inl gives.0

-- the descriptor is as it was, or without the volume
abbrev IsRemovedOrNot : ℕ → State → State → Type 0
IsRemovedOrNot lv old new = (new.core.descriptor ≡ old.core.descriptor) ⊎ (new.core.descriptor ≡ without_volume old.core.descriptor lv)

refused : (lv : ℕ) (old new : State) → new ≡ old → IsRemovedOrNot lv old new
refused lv old new same = inl (ap (λ (s : State). s.core.descriptor) same)

removed_or_not : (lv before : ℕ) (old new : State) (answer : Result (Unit {0}) GroupFault) → RmlvGives lv before old new answer → IfOn answer (IsRemovedOrNot lv old new)
removed_or_not lv before old new (Ok done) gives = inr (ap (λ (c : Core). c.descriptor) gives.is)
removed_or_not lv before old new (Err fault.Dark) gives = tt
removed_or_not lv before old new (Err (fault.WentOff have total)) gives = tt
removed_or_not lv before old new (Err fault.Stuck) gives = tt
removed_or_not lv before old new (Err (fault.DiskFailed disk)) gives = absurd gives
removed_or_not lv before old new (Err fault.Busy) gives = refused lv old new gives.0
removed_or_not lv before old new (Err fault.NoVolume) gives = refused lv old new gives.0
removed_or_not lv before old new (Err fault.VolumeExists) gives = absurd gives
removed_or_not lv before old new (Err (fault.CopyLimit now)) gives = absurd gives
removed_or_not lv before old new (Err (fault.StaleCopy lp)) gives = absurd gives
removed_or_not lv before old new (Err (fault.LastFresh lp)) gives = absurd gives
removed_or_not lv before old new (Err (fault.TooMany limit)) gives = absurd gives
removed_or_not lv before old new (Err (fault.NoRoom free)) gives = absurd gives
removed_or_not lv before old new (Err fault.HistoryFull) gives = refused lv old new gives.0
removed_or_not lv before old new (Err fault.Memory) gives = refused lv old new gives.0

-- a group without volumes has none of the number, so no removal is entered
not_entered : (lv : ℕ) (old new : State) → HadOrNot lv old new → old.core.descriptor.lvs ≡ [] → EntersVolumes old.core.history.facts new.core.history.facts → ⊥
not_entered lv old new (inl same) none enters = absurd (let lower = subst (λ (s : State). EntersVolumes old.core.history.facts s.core.history.facts) same enters in omega (arith, lower))
not_entered lv old new (inr had) none enters = absurd (let no = subst (λ (rows : List LvRow). IsSome (find (λ (r : LvRow). r.number == lv) rows)) none had in cc no)

module _ (run : ℕ) (first : Moment) (lv before after : ℕ) (old new : State) (answer : Result (Unit {0}) GroupFault)
    (may : MayBeCommanded run first old) (c : IsCommanded (to_remove lv old.core) before after old new answer) where
  keeps : HadOrNot lv old new → Keeps run first (moment_of new)
  keeps had = keeps_on run first old new may c.began (to_remove lv old.core) before after c.leaves (is_alone run first old new may c.began (λ none enters. absurd (not_entered lv old new had none enters)))

  module _ (removed : IsRemovedOrNot lv old new) where
    members : (d : ℕ) → is_member new.core.descriptor d ≡ is_member old.core.descriptor d
    members d = ⊎_elim (λ (same : new.core.descriptor ≡ old.core.descriptor). ap (λ (g : Descriptor). is_member g d) same)
        (λ (is : new.core.descriptor ≡ without_volume old.core.descriptor lv). ap (λ (g : Descriptor). is_member g d) is) removed

    keeps_even : KeepsEven old new
    keeps_even was is stood stands told told_new wanted even =
        let kept : IsEven (shown_to new is) old.core.descriptor (Some stands) (is_there new.core) = rmlv_keeps_even lv old new was is stood stands c.leaves.writes c.leaves.status told told_new wanted even in
        ⊎_elim
        (λ (same : new.core.descriptor ≡ old.core.descriptor). subst (λ (g : Descriptor). IsEven (shown_to new is) g (Some stands) (is_there new.core)) (sym same) kept)
        (λ (next : new.core.descriptor ≡ without_volume old.core.descriptor lv). subst (λ (g : Descriptor). IsEven (shown_to new is) g (Some stands) (is_there new.core)) (sym next)
        (fewer_are_even (shown_to new is) old.core.descriptor (Some stands) (is_there new.core) lv kept))
        removed

    -- a group has no volume more
    had_some : new.core.descriptor.lvs ≢ [] → old.core.descriptor.lvs ≡ [] → IsOneFoundOn old.device
    had_some some none = absurd (some (⊎_elim
        (λ (same : new.core.descriptor ≡ old.core.descriptor). ap (λ (g : Descriptor). g.lvs) same ∙ none)
        (λ (next : new.core.descriptor ≡ without_volume old.core.descriptor lv). ap (λ (g : Descriptor). g.lvs) next ∙ ap (λ (rows : List LvRow). filter (λ (r : LvRow). not (r.number == lv)) rows) none)
        removed))

    left_so : Keeps run first (moment_of new) → IsSettled new.core → StillHeld old new → IsLeftStandingSince run first new
    left_so span on still whole past begins =
        left_standing run first old new may c.began (to_remove lv old.core) before after c.leaves on still members keeps_even had_some span whole past begins

pub rmlv_goes_on : RmlvGoesOn
rmlv_goes_on run first lv before after old new answer may c gives =
    let span : Keeps run first (moment_of new) = keeps run first lv before after old new answer may c (had_or_not lv before old new answer gives) in (
      span,
      on_all answer (IsSettled new.core) (StillHeld old new) (IsRemovedOrNot lv old new) (IsLeftStandingSince run first new) c.on c.still (removed_or_not lv before old new answer gives)
          (λ on still removed. left_so run first lv before after old new answer may c removed span on still),
    )
