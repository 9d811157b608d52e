use Rattle.lvm_memory.specs.Media.{sectors_in}
use Rattle.lvm_memory.proofs.MediaLemmas.MadeSoFar.{MadeSoFar}
use Rattle.lvm_memory.proofs.making.image_disks.Given as goal

abbrev pub invariant-loop-image : goal.invariant-loop-image
invariant-loop-image l = MadeSoFar sectors_in l.images l.disks.items l.image-index
