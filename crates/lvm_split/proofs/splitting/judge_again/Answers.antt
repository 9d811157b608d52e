use Rattle.std.proofs.Common.{sym}
use Rattle.lvm_map.proofs.PlacesLemmas.{laid_out}
use Rattle.lvm_split.proofs.splitting.judge_again.Goals as goal

pub check_copies-requires-clause-laid_out : goal.check_copies-requires-clause-laid_out
check_copies-requires-clause-laid_out g c = laid_out c.descriptor.result.now c.args.lv c.in-Some.row.now c.descriptor.ensures.valid (sym c.in-Some.ensures)
