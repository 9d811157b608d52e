use Rattle.lvm_disk.proofs.ImagesLemmas.{whole_images}
use Rattle.lvm_disk.proofs.laws.crash_images_are_whole.Goals as goal

pub returns : goal.returns
returns c = whole_images
