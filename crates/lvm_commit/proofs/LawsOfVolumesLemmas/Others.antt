-- What is found of other groups, while records of one are written.
use Rattle.std.proofs.Common.{◌≡◌, ⊎_elim, ℕ, true, false, Option, Some, None, refl, sym, subst, ◌∙◌, eq-eqb}
use Rattle.std.specs.Prelude.{IsSomeAnd, ◌==◌}
use Rattle.std.proofs.lemmas.Bool.{eqb-true}
use Rattle.lvm_num.specs.Votes.{all_disks}
use Rattle.lvm_disk.specs.Device.{Media, Image, Device, image_of, IsCrashImage, MayLeave}
use Rattle.lvm_disk.proofs.PathsLemmas.{last-path}
use Rattle.lvm_kept.specs.Contents.{Contents, contents_of}
use Rattle.lvm_kept.specs.Group.{is_of, Finds}
use Rattle.lvm_kept.specs.Places.{SameRecords}
use Rattle.lvm_kept.proofs.CommittedLemmas.Alike.{one_is_only}
use Rattle.lvm_kept.proofs.CommittedLemmas.Finding.{images_within}
use Rattle.lvm_steps.proofs.RecordLemmas.{either, clash}
use Rattle.lvm_steps.proofs.MakingLemmas.Making.{media_may}
use Rattle.lvm_write.proofs.WrittenLemmas.Writing.{both_from}
use Rattle.lvm_commit.specs.LawsOfVolumes.{LeavesOthers, DescriptorLeavesOthers, RestLeavesOthers, OnlyGroupStays, OnlyGroupStaysByData, OnlyGroupStaysOn, OneFoundIsOnlySince}
use Rattle.lvm_commit.proofs.LawsOfFindingLemmas.NoMore.{was_found, rest_finds_nothing_new, data_finds_nothing_new}
use Rattle.lvm_commit.proofs.LawsOfDataLemmas.Still.{still_image, data_differs}

pub descriptor_leaves_others : DescriptorLeavesOthers
descriptor_leaves_others id targets next old new own change other k apart is =
    was_found old new.descriptor targets next change.own other k is.0 (subst (λ (c : Contents). Finds c is.0 other k) change.rest is.1)
    (λ d in_set shows. ⊎_elim
    (λ (test : is_of other next.value ≡ true). absurd (apart (sym (eqb-true next.value.id other test) ∙ own)))
    (λ test. test)
    (either (is_of other next.value)))

pub rest_leaves_others : RestLeavesOthers
rest_leaves_others id old new rest other k apart is = rest_finds_nothing_new old new rest other k is

pub only_group_stays : OnlyGroupStays
only_group_stays id old new leaves only other k is = ⊎_elim
    (λ (test : (other == id) ≡ true). eqb-true other id test)
    (λ (test : (other == id) ≡ false). only other k (leaves other k (λ same. clash (other == id) (eq-eqb other id same) test) is))
    (either (other == id))

-- ---- on a shelf

-- other data
data_leaves : (id : ℕ) (old new : Image) → SameRecords old new → LeavesOthers (contents_of old) (contents_of new) id
data_leaves id old new same other k apart is = data_finds_nothing_new old new same other k is

pub only_group_stays_by_data : OnlyGroupStaysByData
only_group_stays_by_data id f old new its adds only image may =
    let from = adds image may in
    only_group_stays id (contents_of from.0) (contents_of image) (data_leaves id from.0 image (data_differs f its from.0 image from.2)) (only from.0 from.1)

-- what is found is of one group on each crash image
pub one_found_is_only_since : OneFoundIsOnlySince
one_found_is_only_since run first device facts group span finds one past begins image may =
    one_is_only (contents_of image) group (one image may) (all_disks, finds image may)

-- where something may be left, the media is told
told_of : (device : Device) (image : Image) → MayLeave device image → (media : Media) × (device.media ≡ Some media)
told_of device image may = go device.media refl may
  where
    go : (o : Option Media) → device.media ≡ o → IsSomeAnd o (λ media. IsCrashImage (image_of device.sizes media) device.flights image) → (media : Media) × (device.media ≡ Some media)
    go None is left = absurd left
    go (Some media) is left = (media, is)

pub only_group_stays_on : OnlyGroupStaysOn
only_group_stays_on id old new still leaves only image may =
    let now = told_of new image may in
    let was = both_from old.media new.media (λ was is. LeavesOthers (contents_of (image_of old.sizes was)) (contents_of (image_of new.sizes is)) id) now.0 leaves now.1 in
    only_group_stays id (contents_of (image_of new.sizes now.0)) (contents_of image) (data_leaves id (image_of new.sizes now.0) image (still_image new now.0 now.1 still image may))
    (only_group_stays id (contents_of (image_of old.sizes was.0)) (contents_of (image_of new.sizes now.0)) was.2 (only (image_of old.sizes was.0) (media_may old was.0 was.1)))
