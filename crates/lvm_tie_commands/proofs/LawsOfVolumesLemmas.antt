-- Where no other group is found, whatever is found is of one, and the other way round.
use Rattle.std.proofs.Common.{◌≡◌, ⊎_elim, ℕ, [], Some, sym, ◌∙◌}
use Rattle.std.specs.Prelude.{◌≢◌}
use Rattle.lvm_num.specs.declared.descriptor.Descriptor.{Descriptor}
use Rattle.lvm_disk.specs.Device.{Device, Media, image_of}
use Rattle.lvm_kept.specs.Contents.{Contents, contents_of}
use Rattle.lvm_kept.specs.Group.{IsFound, IsOneFound, IsOnlyGroup}
use Rattle.lvm_commit.specs.LawsOfVolumes.{IsOneFoundOn, IsOnlyGroupOn}
use Rattle.lvm_commit.proofs.LawsOfFindingLemmas.NoMore.{data_finds_nothing_new}
use Rattle.lvm_commit.proofs.LawsOfDataLemmas.Still.{still_image}
use Rattle.lvm_settled.specs.passed.Even.{IsAlone}

only_is_one : (c : Contents) (id : ℕ) → IsOnlyGroup c id → IsOneFound c
only_is_one c id only v w g h of_v of_w = only v g of_v ∙ sym (only w h of_w)

pub only_is_one_on : (device : Device) (id : ℕ) → IsOnlyGroupOn device id → IsOneFoundOn device
only_is_one_on device id only image may = only_is_one (contents_of image) id (only image may)

-- beside a group with volumes that is alone no other is found
pub alone_is_only : (device : Device) (media : Media) (group : Descriptor) → device.media ≡ Some media → device.flights ≡ [] → group.lvs ≢ [] → IsAlone (contents_of (image_of device.sizes media)) group → IsOnlyGroupOn device group.id
alone_is_only device media group told still some alone image may other k found =
    let there : IsFound (contents_of (image_of device.sizes media)) other k = data_finds_nothing_new (image_of device.sizes media) image (still_image device media told still image may) other k found in
    ⊎_elim (λ (same : other ≡ group.id). same) (λ none. absurd (some none.0)) (alone there.0 other k there.1)
