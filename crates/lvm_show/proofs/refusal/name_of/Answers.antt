use Rattle.lvm_show.proofs.RefusalsLemmas.{past}
use Rattle.std.proofs.Common.{arith}
use Rattle.lvm_show.proofs.refusal.name_of.Goals as goal

pub returns-in-37-to-255 : goal.returns-in-37-to-255
returns-in-37-to-255 c = past c.args.number (omega arith)
