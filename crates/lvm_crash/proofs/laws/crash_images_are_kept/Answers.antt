use Rattle.lvm_crash.proofs.LawsLemmas.Images.{images_kept, last_images_kept}
use Rattle.lvm_crash.proofs.laws.crash_images_are_kept.Goals as goal

pub returns : goal.returns
returns c = record { on = images_kept; over = last_images_kept }
