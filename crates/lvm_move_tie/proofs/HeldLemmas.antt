-- The disks of a session whose move is done hold what it says is committed.
use Rattle.std.proofs.Common.{ℕ, ◌||◌, not, List, Option, sym, ap, subst, ◌∙◌}
use Rattle.std.specs.Prelude.{IfSome, IsTrue}
use Rattle.std.proofs.lemmas.Bool.{and_parts}
use Rattle.lvm_num.specs.declared.descriptor.Descriptor.{Descriptor}
use Rattle.lvm_num.specs.declared.status.Status.{Status}
use Rattle.lvm_num.specs.Descriptor.{is_member}
use Rattle.lvm_num.specs.Status.{calls_missing}
use Rattle.lvm_num.specs.Votes.{all_disks}
use Rattle.lvm_num.proofs.Lists.{of_told}
use Rattle.lvm_vol.specs.Facts.{Fact}
use Rattle.lvm_disk.specs.Device.{Image, Media, image_of}
use Rattle.lvm_kept.specs.Contents.{Contents, contents_of}
use Rattle.lvm_kept.specs.Group.{has_room}
use Rattle.lvm_steps.proofs.GroupLemmas.Members.{parts_of}
use Rattle.lvm_status.specs.Update.{members_there}
use Rattle.lvm_commit.specs.Committed.{HoldsCommitted, ShowsCommitted}
use Rattle.lvm_commit.specs.Settling.{IsOf, SessionIsHeld}
use Rattle.lvm_session.specs.declared.bringing.OpenCopy.{OpenCopy}
use Rattle.lvm_session.specs.State.{Core, State, is_there}
use Rattle.lvm_even.specs.Members.{members_showing}
use Rattle.lvm_move_keeps.specs.Drained.{IsDrainedMoving}
use Rattle.lvm_tie.specs.Spares.{SparesDescriptors, SparesOn}
use Rattle.lvm_tie.specs.Tied.{IsTied, ShowsRecords, ShowsStatus}
use Rattle.lvm_tie.proofs.AmongLemmas.{not_true}
use Rattle.lvm_tie.proofs.NotesLemmas.Ended.{shows_records}
use Rattle.lvm_tie.proofs.StateLemmas.{there_first}
use Rattle.lvm_move_tie.proofs.TakingLemmas as taking

module _ (past : List Fact) (s : State) (c : OpenCopy) (tied : IsTied past s) (drained : IsDrainedMoving s c) where
  abbrev core : Core
  core = s.core

  abbrev group : Descriptor
  group = core.descriptor

  abbrev image : Image
  image = image_of s.device.sizes tied.media

  abbrev shown : Contents
  shown = contents_of image

  -- a member that isn't missing shows the group
  pub members : (d : ℕ) → IsTrue (is_there core d) → IsTrue (members_showing shown group d)
  members d there =
      let parts = and_parts (is_member group d) (not (calls_missing core.status.wanted d)) there in
      tied.recorded.members d parts.0 (there_first past s tied d (not_true (calls_missing core.status.wanted d) parts.1))

  room : (d : ℕ) → IsTrue (is_there core d) → IsTrue (has_room shown d group)
  room d there = (parts_of shown all_disks group.id group d (members d there)).2

  records : ShowsRecords group core.status shown
  records = tied.recorded.records

  status_is : ShowsStatus group core.status shown
  status_is = records.settled (taking.done past s c tied drained).in_flight

  pub shows : ShowsCommitted shown group core.status.committed (is_there core)
  shows = record {
    found = tied.describes.stands.found;
    only = tied.describes.stands.only;
    descriptor = records.descriptor;
    value = records.value;
    latest = records.latest;
    described = records.described;
    room = room;
    own = ap (λ (x : Status). x.id) (taking.done past s c tied drained).committed ∙ tied.orderly.sound.fitting.id;
    stands = status_is.stands;
    committed = status_is.committed;
    stated = status_is.stated;
    last = status_is.last;
  }

  pub of_group : IsOf group core.status
  of_group = sym tied.orderly.sound.fitting.group

  module _ (spares : SparesDescriptors s) where
    spared : SparesOn core tied.media
    spared = of_told (SparesOn core) s.device.media tied.media tied.setting.told spares

    holds : HoldsCommitted image group core.status.committed (is_there core) core.status.stamp core.homes
    holds = record {
      shows = shows;
      stamps = tied.recorded.next.before;
      there = λ d there. shows_records image group.id d (parts_of shown all_disks group.id group d (members d there)).1;
      homes = λ d there. record {
        descriptor = spared d there;
        status = tied.recorded.next.spare d there (let idle = (tied.orderly.sound.on tied.orderly.on).going.status.idle (taking.done past s c tied drained).in_flight d in λ t. idle.0 t || idle.1 t);
      };
    }

    pub session_held : SessionIsHeld s.device group core.status core.homes
    session_held = subst (λ (o : Option Media). IfSome o (λ media. HoldsCommitted (image_of s.device.sizes media) group core.status.committed (members_there core.status.group core.status.wanted) core.status.stamp core.homes)) (sym tied.setting.told)
        (subst (λ (g : Descriptor). HoldsCommitted image group core.status.committed (members_there g core.status.wanted) core.status.stamp core.homes) (sym tied.orderly.sound.fitting.group) holds)
