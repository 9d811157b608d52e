-- What is found after the writes with which a session begins: what was found before, or their descriptor.
use Rattle.std.proofs.Common.{◌≡◌, ◌⊎◌, inl, inr, ⊎_elim, ℕ, ◌<◌, List, [], Option, Some, None, refl, subst}
use Rattle.lvm_num.specs.declared.descriptor.Descriptor.{Descriptor}
use Rattle.lvm_num.specs.declared.status.Status.{Status}
use Rattle.lvm_num.specs.DescriptorBytes.{descriptor_of}
use Rattle.lvm_num.specs.StatusBytes.{status_of}
use Rattle.lvm_num.specs.Record.{Stamped}
use Rattle.lvm_disk.specs.Device.{Media, Image, Device, image_of, MayLeave}
use Rattle.lvm_disk.specs.Steps.{BothTold}
use Rattle.lvm_kept.specs.Contents.{Contents, contents_of, descriptor_on}
use Rattle.lvm_kept.specs.Group.{IsFound}
use Rattle.lvm_kept.specs.Plans.{ChangesBy}
use Rattle.lvm_kept.specs.Torn.{MayWriteAll, DescriptorsChange, written as as_read}
use Rattle.lvm_kept.proofs.CommittedLemmas.Finding.{images_within}
use Rattle.lvm_steps.proofs.MakingLemmas.Making.{media_may}
use Rattle.lvm_write.proofs.WrittenLemmas.Writing.{both_from}
use Rattle.lvm_commit.specs.Laws.{IsLaterDescriptor}
use Rattle.lvm_commit.specs.LawsOfFinding.{FindsNoMore}
use Rattle.lvm_commit.proofs.LawsOfFindingLemmas.NoMore.{descriptor_finds_no_more, rest_finds_nothing_new, data_finds_nothing_new}
use Rattle.lvm_commit.proofs.LawsOfDataLemmas.Still.{still_image}
use Rattle.lvm_write.specs.Beginning.{Beginning, Part, describes, states, IsOfParts}
use Rattle.lvm_write.proofs.ContentsLemmas.{descriptors_show, rest_shows}
use Rattle.lvm_core.specs.Leaves.{MayBeFound}

-- ---- on the media

-- what lets the records be written: the disks may have them, and their descriptor is later than each of the group
pub record MayDescribe (b : Beginning) (group : Descriptor) (status : Status) (image : Image) : Type 0 where
  pub describe : MayWriteAll Descriptor descriptor_of (describes b) group image
  pub state : MayWriteAll Status status_of (states b) status image
  pub later : IsLaterDescriptor (contents_of image) group (as_read (describes b) group)

module _ (b : Beginning) (group : Descriptor) (status : Status) (parts : List Part) (old new : Image) (may : MayDescribe b group status old) (by : ChangesBy (IsOfParts b parts) old new) where
  -- with the descriptors as they are now, and all else as it was
  abbrev described : Contents
  described = record (contents_of old) { descriptor = descriptor_on new }

  changed : DescriptorsChange b.targets (as_read (describes b) group) (contents_of old) described
  changed = record { own = descriptors_show b group status parts old new may.describe may.state by; rest = refl }

  rest : contents_of new ≡ record described { status = (contents_of new).status; note = (contents_of new).note; block = (contents_of old).block }
  rest = rest_shows b group status parts old new may.describe may.state by

  within : (d : ℕ) (r : Stamped Descriptor) → descriptor_on new d ≡ Some r → d < old.disks
  within d r shows = subst (λ (n : ℕ). d < n) by.same.disks ((images_within new).descriptors d r shows)

  pub parts_find_no_more : FindsNoMore group (contents_of old) (contents_of new)
  parts_find_no_more id k is = descriptor_finds_no_more b.targets (as_read (describes b) group) (contents_of old) described
      (record { descriptors = within; statuses = λ d r shows. (images_within old).statuses d r shows }) may.later changed id k
      (rest_finds_nothing_new described (record described { status = (contents_of new).status; note = (contents_of new).note; block = (contents_of old).block }) refl id k
      (subst (λ (c : Contents). IsFound c id k) rest is))

-- ---- on a shelf

-- it is the descriptor of the group
abbrev pub IsIts : Descriptor → ℕ → Descriptor → Type 0
IsIts group id k = (id ≡ group.id) × (k ≡ group)

module _ (b : Beginning) (group : Descriptor) (status : Status) (parts : List Part) (old new : Device)
    (may : (media : Media) → old.media ≡ Some media → MayDescribe b group status (image_of old.sizes media))
    (media : BothTold old.media new.media (λ was is. ChangesBy (IsOfParts b parts) (image_of old.sizes was) (image_of new.sizes is)))
    (still : new.flights ≡ []) where
  -- where the media is told
  module _ (is : Media) (told : new.media ≡ Some is) where
    was : (m : Media) × (old.media ≡ Some m) × ChangesBy (IsOfParts b parts) (image_of old.sizes m) (image_of new.sizes is)
    was = both_from old.media new.media (λ m n. ChangesBy (IsOfParts b parts) (image_of old.sizes m) (image_of new.sizes n)) is media told

    told_found : (id : ℕ) (k : Descriptor) (image : Image) → MayLeave new image → IsFound (contents_of image) id k → MayBeFound old id k ⊎ IsIts group id k
    told_found id k image left found = ⊎_elim
        (λ before. inl (image_of old.sizes was.0, media_may old was.0 was.1, before))
        (λ its. inr its)
        (parts_find_no_more b group status parts (image_of old.sizes was.0) (image_of new.sizes is) (may was.0 was.1) was.2 id k
        (data_finds_nothing_new (image_of new.sizes is) image (still_image new is told still image left) id k found))

  pub begun_finds : (id : ℕ) (k : Descriptor) → MayBeFound new id k → MayBeFound old id k ⊎ IsIts group id k
  begun_finds id k it = by_media new.media refl it.1
    where
      by_media : (o : Option Media) → new.media ≡ o → MayLeave (record new { media = o }) it.0 → MayBeFound old id k ⊎ IsIts group id k
      by_media None none left = absurd left
      by_media (Some is) told left = told_found is told id k it.0 it.1 it.2
