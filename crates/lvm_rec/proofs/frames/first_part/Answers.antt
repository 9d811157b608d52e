use Rattle.std.proofs.Common.{◌+◌, ◌-◌, arith}
use Rattle.lvm_rec.proofs.RecordLemmas.Frame.{first_is}
use Rattle.lvm_rec.proofs.frames.first_part.Goals as goal

pub returns : goal.returns
returns c = first_is c.args.content.now c.write_u32.new.buf c.copy_from_slice.new.self c.min-len.result (4 + c.min-len.result - 4) c.write_u32.ensures c.min-len.ensures c.copy_from_slice.ensures.after (omega arith)
