use Rattle.std.proofs.Common.{◌∙◌}
use Rattle.lvm_program.proofs.StreamLemmas.{flat_zeros}
use Rattle.lvm_program.proofs.image.zeros.Goals as goal

pub returns : goal.returns
returns c = c.as_flattened.ensures.value ∙ flat_zeros 16 65536
