use Rattle.std.proofs.Common.{replicate}
use Rattle.lvm_num.specs.Buffer.{zero_sector}
use Rattle.lvm_memory.proofs.MediaLemmas.MadeSoFar.{MadeSoFar}
use Rattle.lvm_memory.proofs.making.blank_disks.Given as goal

abbrev pub invariant-loop-count : goal.invariant-loop-count
invariant-loop-count l = MadeSoFar (λ count. replicate count zero_sector) l.sizes l.disks.items l.count-index
