-- A settled session is tied, by what stands on its disks.
use Rattle.std.proofs.Common.{◌≡◌, ℕ, ◌<◌, ◌^◌, ◌++◌, not, false, true, List, Some, refl, ap, subst, ◌∙◌}
use Rattle.std.specs.Prelude.{IsTrue, count_by}
use Rattle.lvm_num.specs.declared.descriptor.Descriptor.{Descriptor}
use Rattle.lvm_num.specs.Descriptor.{is_member}
use Rattle.lvm_num.specs.Disks.{Disks}
use Rattle.lvm_num.specs.Status.{calls_missing}
use Rattle.lvm_num.specs.Votes.{all_disks}
use Rattle.lvm_num.proofs.Lists.{of_told}
use Rattle.lvm_disk.specs.Device.{AreSectors, HasSectors, Media, image_of}
use Rattle.lvm_vol.specs.Facts.{Fact}
use Rattle.lvm_vol.specs.Legal.{begins_in}
use Rattle.lvm_kept.specs.Moments.{Calm}
use Rattle.lvm_steps.specs.Moments.{HistoryHolds}
use Rattle.lvm_steps.proofs.RecordLemmas.{join}
use Rattle.lvm_steps.proofs.GroupLemmas.Members.{member_of_parts}
use Rattle.lvm_status.specs.Update.{members_there}
use Rattle.lvm_commit.specs.Committed.{HoldsCommitted}
use Rattle.lvm_commit.specs.LawsOfVolumes.{IsOneFoundOn}
use Rattle.lvm_commit.proofs.LawsLemmas.Found.{shows_group}
use Rattle.lvm_session.specs.State.{Core, State, is_there}
use Rattle.lvm_session.specs.Sound.{IsSound}
use Rattle.lvm_handover.specs.passed.Core.{IsSettled}
use Rattle.lvm_settled.specs.passed.Even.{IsEven, MissingAreStale}
use Rattle.lvm_settled.proofs.passed.Even.{none_is_left_behind}
use Rattle.lvm_tie.specs.Spares.{SparesDescriptors}
use Rattle.lvm_tie.specs.Tied.{IsTied, moment_of}
use Rattle.lvm_tie.specs.Begins.{NotesAreHomeIn, MembersShow, StandsAtRest, shown_to}
use Rattle.lvm_tie.proofs.BeginsLemmas.Resting.{rest_spares, rest_ties}
use Rattle.lvm_tie_commands.proofs.Resting.{left, rests}

-- the disks hold what a session says, where this stands on them
abbrev pub Held : State → Media → Type 0
Held s media = HoldsCommitted (image_of s.device.sizes media) s.core.descriptor s.core.status.committed (is_there s.core) s.core.status.stamp s.core.homes

-- members that are there show the group, and so do those that weren't missing at its beginning where each of these is
pub members_show : (s : State) (media : Media) → Held s media
    → ((d : ℕ) → is_member s.core.descriptor d ≡ true → calls_missing s.core.origin.table d ≡ false → calls_missing s.core.status.wanted d ≡ false) → MembersShow s media
members_show s media held stays d member present =
    let core : Core = s.core in
    let there : IsTrue (is_there core d) = join (is_member core.descriptor d) (not (calls_missing core.status.wanted d)) member (ap not (stays d member present)) in
    member_of_parts (shown_to s media) all_disks core.descriptor.id core.descriptor d refl (shows_group (shown_to s media) core.descriptor core.status.committed (is_there core) held.shows d there) (held.shows.room d there)

module _ (s : State) (media : Media) (sound : IsSound s) (settled : IsSettled s.core) (epoch : s.core.status.stamp.epoch < 2 ^ 64) (whole : HasSectors s.device)
    (told : s.device.media ≡ Some media) (held : Held s media) (notes : NotesAreHomeIn s.core (shown_to s media)) (one : IsOneFoundOn s.device)
    (even : IsEven (shown_to s media) s.core.descriptor (Some held.shows.stands) (is_there s.core)) where
  behind : MissingAreStale (shown_to s media) s.core.descriptor (Some held.shows.stands) (is_there s.core)
  behind = subst (λ (set : Disks). MissingAreStale (shown_to s media) s.core.descriptor (Some held.shows.stands) set) (ap (λ (g : Descriptor). members_there g s.core.status.wanted) sound.fitting.group)
      (none_is_left_behind (shown_to s media) s.core.descriptor s.core.status held.shows.stands (held.shows.committed ∙ settled.committed) (left s sound settled))

  stands : StandsAtRest s media
  stands = record {
    told = told;
    sectors = of_told (λ (m : Media). AreSectors s.device.sizes m) s.device.media media told whole;
    some_epoch = settled.epoch;
    epoch = epoch;
    votes = settled.votes;
    held = held;
    only = one;
    notes = notes;
    even = even;
    behind = behind;
  }

  pub ties : MembersShow s media → (past : List Fact) → HistoryHolds past (moment_of s) → Calm (past ++ s.core.history.facts) → count_by (begins_in s.core.history.run) past ≡ 0 → IsTied past s × SparesDescriptors s
  ties members past holds calm own = (rest_ties past s media sound settled.power (rests s sound settled) stands members (record { holds = holds; calm = calm; own = own }), rest_spares s media stands)
