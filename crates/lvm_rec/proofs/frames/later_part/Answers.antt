use Rattle.std.proofs.Common.{arith}
use Rattle.lvm_rec.proofs.RecordLemmas.Frame.{over_zeros}
use Rattle.lvm_rec.proofs.frames.later_part.Goals as goal

pub returns : goal.returns
returns c = over_zeros 496 c.min-len.result 496 c.args.rest.now c.copy_from_slice.new.self c.min-len.ensures c.copy_from_slice.ensures.after (omega arith)
