-- What stands on the disks of a session before a command.
use Rattle.std.proofs.Common.{◌≡◌, ⊎_elim, ℕ, List, [], Option, Some, sym, subst}
use Rattle.std.specs.Prelude.{◌≢◌, IfSome}
use Rattle.lvm_num.specs.declared.descriptor.LvRow.{LvRow}
use Rattle.lvm_num.proofs.Lists.{none_or_some, some_told, of_told}
use Rattle.lvm_disk.specs.Device.{Media, image_of}
use Rattle.lvm_vol.specs.Facts.{Fact}
use Rattle.lvm_kept.specs.Group.{IsOneOf}
use Rattle.lvm_kept.specs.Moments.{Moment}
use Rattle.lvm_kept.proofs.MomentsLemmas.Chaining.{span_told}
use Rattle.lvm_steps.specs.Moments.{RunBegins}
use Rattle.lvm_commit.specs.LawsOfVolumes.{IsOneFoundOn, IsOnlyGroupOn}
use Rattle.lvm_commit.proofs.LawsOfVolumesLemmas.Others.{one_found_is_only_since}
use Rattle.lvm_commit.proofs.LawsOfDataLemmas.Still.{still_holds_committed}
use Rattle.lvm_session.specs.State.{State, is_there}
use Rattle.lvm_handover.specs.passed.Core.{AreNotesHome, IsHeld, NotesAreHome, StartsHeld, IsSettled}
use Rattle.lvm_settled.specs.passed.Even.{IsEven}
use Rattle.lvm_volumes.proofs.EvenLemmas.Off.{off_is_even}
use Rattle.lvm_tie.specs.Spares.{SparesDescriptors, SparesOn}
use Rattle.lvm_tie.specs.Tied.{IsTied}
use Rattle.lvm_tie.specs.Begins.{IsRested, IsCoreAtRest, NotesAreHomeIn as AreHome, shown_to}
use Rattle.lvm_tie_commands.proofs.SettledLemmas.Leaving.{its_disks_hold, its_rest}
use Rattle.lvm_tie_commands.specs.Commands.{MayBeCommanded}
use Rattle.lvm_tie_commands.specs.Standing.{StandsAfter}
use Rattle.lvm_tie_commands.proofs.LawsOfVolumesLemmas.{alone_is_only}
use Rattle.lvm_tie_commands.proofs.Resting.{rests, still}
use Rattle.lvm_tie_commands.proofs.BeginsLemmas.{Held}

-- The disks hold what the session says, their notes are home, no other group is found on them, and the usable copies are even.
pub record Carries (s : State) (media : Media) : Type 0 where
  pub told : s.device.media ≡ Some media
  pub held : Held s media
  pub notes : AreHome s.core (shown_to s media)
  pub only : IsOnlyGroupOn s.device s.core.descriptor.id
  pub even : IsEven (shown_to s media) s.core.descriptor (Some held.shows.stands) (is_there s.core)

pub is_held : (s : State) (media : Media) → s.device.media ≡ Some media → Held s media → IsHeld s.device s.core
is_held s media told held = subst (λ (o : Option Media). IfSome o (λ (m : Media). Held s m)) (sym told) held

pub are_home : (s : State) (media : Media) → s.device.media ≡ Some media → AreHome s.core (shown_to s media) → AreNotesHome s.device s.core
are_home s media told notes = subst (λ (o : Option Media). IfSome o (λ (m : Media). NotesAreHome s.core (image_of s.device.sizes m))) (sym told) notes

-- ---- with a volume

module _ (past : List Fact) (s : State) (tied : IsTied past s) (settled : IsSettled s.core) (spares : SparesDescriptors s) where
  resting : IsCoreAtRest s.core
  resting = rests s tied.orderly.sound settled

  spared : SparesOn s.core tied.media
  spared = of_told (SparesOn s.core) s.device.media tied.media tied.setting.told spares

  abbrev held_by : Held s tied.media
  held_by = its_disks_hold past s tied resting settled.votes spared

  rested : IsRested past s tied.media held_by.shows
  rested = its_rest past s tied resting settled.votes spared

  tied_carries : s.core.descriptor.lvs ≢ [] → Carries s tied.media
  tied_carries some = record {
    told = tied.setting.told;
    held = held_by;
    notes = rested.notes;
    only = alone_is_only s.device tied.media s.core.descriptor tied.setting.told (still s tied.orderly.sound settled) some rested.rest.alone;
    even = rested.rest.even;
  }

-- ---- either way

module _ (run : ℕ) (first : Moment) (s : State) (may : MayBeCommanded run first s) (settled : IsSettled s.core) (past : List Fact) (begins : RunBegins run past first) where
  standing : StandsAfter past s.device s.core
  standing = may.stands past begins

  told : (media : Media) × (s.device.media ≡ Some media)
  told = some_told s.device.media (span_told may.keeps begins.told)

  empty_carries : s.core.descriptor.lvs ≡ [] → IsOneFoundOn s.device → Carries s told.0
  empty_carries none one =
      let empty : StartsHeld s.device s.core = standing.empty none in
      let held : Held s told.0 = of_told (λ (m : Media). Held s m) s.device.media told.0 told.1 empty.held in
      record {
        told = told.1;
        held = held;
        notes = of_told (λ (m : Media). NotesAreHome s.core (image_of s.device.sizes m)) s.device.media told.0 told.1 empty.notes;
        only = one_found_is_only_since run first s.device s.core.history.facts s.core.descriptor may.keeps
            (λ image left. (still_holds_committed s.core.descriptor s.core.status.committed (is_there s.core) s.core.status.stamp s.core.homes s.device told.0 told.1 (still s may.sound settled) held image left).shows.found)
            one past begins;
        even = off_is_even (shown_to s told.0) s.core.descriptor (Some held.shows.stands) (is_there s.core) (λ row volume. absurd (subst (λ (rows : List LvRow). IsOneOf rows row) none volume));
      }

  -- where it has a volume, or whatever any disks find is of one group
  pub carries : (s.core.descriptor.lvs ≡ [] → IsOneFoundOn s.device) → (media : Media) × Carries s media
  carries one = ⊎_elim
      (λ (none : s.core.descriptor.lvs ≡ []). (told.0, empty_carries none (one none)))
      (λ (some : s.core.descriptor.lvs ≢ []). let tied : IsTied past s = standing.tied some in (tied.media, tied_carries past s tied settled (standing.spares some) some))
      (none_or_some s.core.descriptor.lvs)

  pub holds_before : IsHeld s.device s.core × AreNotesHome s.device s.core
  holds_before = ⊎_elim
      (λ (none : s.core.descriptor.lvs ≡ []). let empty : StartsHeld s.device s.core = standing.empty none in (empty.held, empty.notes))
      (λ (some : s.core.descriptor.lvs ≢ []).
      let tied : IsTied past s = standing.tied some in
      let it : Carries s tied.media = tied_carries past s tied settled (standing.spares some) some in
      (is_held s tied.media it.told it.held, are_home s tied.media it.told it.notes))
      (none_or_some s.core.descriptor.lvs)
