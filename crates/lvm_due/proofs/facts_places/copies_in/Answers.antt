use Rattle.std.proofs.Common.{sym}
use Rattle.lvm_due.proofs.DescriptorLemmas.Laid.{laid_out}
use Rattle.lvm_due.proofs.facts_places.copies_in.Goals as goal

pub copies_of-requires-clause-map : goal.copies_of-requires-clause-map
copies_of-requires-clause-map c = laid_out c.args.d.now c.args.lv c.in-Some.row.now c.requires.valid (sym c.in-Some.ensures)

pub copies_of-requires-clause-there : goal.copies_of-requires-clause-there
copies_of-requires-clause-there c = c.requires.within c.in-Some.row.now (sym c.in-Some.ensures)
