-- The descriptor is committed in which a copy that has moved stands on its destination.
use Rattle.std.specs.Prelude.{◌≡◌, ℕ, List, [], Some, None, Ok, IsTrue}
use Rattle.lvm_num.specs.declared.place.Pp.{Pp}
use Rattle.lvm_num.specs.declared.descriptor.Descriptor.{Descriptor}
use Rattle.lvm_num.specs.DescriptorBytes.{descriptor_of}
use Rattle.lvm_disk.specs.Device.{Device, Media, image_of}
use Rattle.lvm_disk.specs.Paths.{DeviceStep, Path}
use Rattle.lvm_kept.specs.Contents.{Contents, contents_of}
use Rattle.lvm_rec.specs.declared.homes.Homes.{Homes}
use Rattle.lvm_status.specs.Update.{Stored}
use Rattle.lvm_steps.specs.Moments.{ImagesKept}
use Rattle.lvm_steps.specs.Committing.{DiffersInVolume}
use Rattle.lvm_commit.specs.Settling.{DescriptorStaysKept, IsOf, SessionIsHeld}
use Rattle.lvm_invariant.specs.State.{Beside, ModelState}
use Rattle.lvm_invariant.specs.Found.{Votes}
use Rattle.lvm_invariant.specs.Good.{Good}
use Rattle.lvm_crash.specs.Session.{AreVotesOf, Describes, marks_shown}
use Rattle.lvm_even.specs.Members.{members_showing}
use Rattle.lvm_places.specs.Places.{Marking}
use Rattle.lvm_places.specs.Laws.{Replaces}
use Rattle.lvm_move_laws.specs.Moving.{IsFor, MovesIn}

-- A good state that describes what stands on the disks, with whatever requests are open and no update in flight. The partition beside the group's copies is complete,
-- and may take the place of a copy of its logical partition, which it has in the next descriptor.
pub record MayTakePlace (votes : Votes) (s : ModelState) (k : Marking) (o : Beside) (group next : Descriptor) (lv lp : ℕ) (from : Pp) (c : Contents) : Type 0 where
  pub are_votes : AreVotesOf group votes
  pub good : Good votes s
  pub describes : Describes s s.facts group None c
  pub beside : s.beside ≡ Some o
  pub its : IsFor group.mib lv lp o
  pub differs : DiffersInVolume lv group next
  pub moves : MovesIn lv lp from o.place group next
  pub takes : Replaces s from o.place k
  pub member : IsTrue (members_showing c group o.place.disk)
  -- afterwards the statuses are seen as they stand
  pub marks : (d : ℕ) → k.status d ≡ marks_shown None group.id (c.status d)
  pub idle : k.in_flight ≡ None

-- Then each crash image is kept at each moment while the next descriptor is committed over disks that hold what is committed, where nothing is out.
abbrev pub MoveStaysKept : Type 0
MoveStaysKept =
    (votes : Votes) (s : ModelState) (k : Marking) (o : Beside) (group next : Descriptor) (lv lp : ℕ) (from : Pp) (status : Stored) (homes : Homes) (content : List ℕ) (old new : Device) (media : Media)
    → IsOf group status → SessionIsHeld old group status homes → old.media ≡ Some media → old.flights ≡ [] → descriptor_of content ≡ Ok next
    → MayTakePlace votes s k o group next lv lp from (contents_of (image_of old.sizes media))
    → DescriptorStaysKept content status homes old new → Path DeviceStep (λ d. ImagesKept d s.facts) old new
