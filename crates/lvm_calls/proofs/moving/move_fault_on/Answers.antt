use Rattle.std.proofs.Common.{sym}
use Rattle.lvm_due.proofs.DescriptorLemmas.Laid.{laid_out}
use Rattle.lvm_calls.proofs.moving.move_fault_on.Goals as goal

pub move_fault_in-requires : goal.move_fault_in-requires
move_fault_in-requires c = laid_out c.args.session.now.descriptor c.args.lv c.in-Some.row.now c.requires (sym c.in-Some.ensures)
