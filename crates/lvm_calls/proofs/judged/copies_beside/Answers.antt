use Rattle.std.proofs.Common.{sym}
use Rattle.lvm_calls.proofs.passed.Due.{laid_out}
use Rattle.lvm_calls.proofs.judged.copies_beside.Goals as goal

pub copies_of-requires-clause-map : goal.copies_of-requires-clause-map
copies_of-requires-clause-map c = laid_out c.args.session.now.descriptor c.args.copy.now.lv c.in-Some.row.now c.requires.valid (sym c.in-Some.ensures)
