use Rattle.std.proofs.Common.{sym}
use Rattle.lvm_due.proofs.DescriptorLemmas.Laid.{laid_out}
use Rattle.lvm_driver.proofs.MovesLemmas.{apart_of}
use Rattle.lvm_driver.proofs.moves.is_apart.Goals as goal

pub are_apart_in-requires : goal.are_apart_in-requires
are_apart_in-requires c = laid_out c.args.d.now c.args.lv c.in-Some.row.now c.requires (sym c.in-Some.ensures)

pub returns-in-Some : goal.returns-in-Some
returns-in-Some c = apart_of c.args.d.now c.args.lv c.args.lp c.args.number c.args.to c.in-Some.row.now c.are_apart_in.result c.in-Some.ensures c.are_apart_in.ensures
