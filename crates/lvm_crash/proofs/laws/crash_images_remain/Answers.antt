use Rattle.lvm_crash.proofs.LawsLemmas.Images.{images_remain as lemma_of}
use Rattle.lvm_crash.proofs.laws.crash_images_remain.Goals as goal

pub returns : goal.returns
returns c = lemma_of
