use Rattle.std.proofs.Common.{sym, ◌∙◌, ap}
use Rattle.lvm_due.proofs.DescriptorLemmas.Laid.{laid_out}
use Rattle.lvm_session.specs.passed.Path.{lv_of}
use Rattle.lvm_num.specs.Descriptor.{volume_of}
use Rattle.lvm_due.proofs.standing.copies_for.Goals as goal

pub copies_of-requires-clause-map : goal.copies_of-requires-clause-map
copies_of-requires-clause-map c = laid_out c.args.session.now.descriptor (lv_of c.args.ask.now) c.in-Some.row.now c.requires.valid (ap (volume_of c.args.session.now.descriptor) (sym c.lv.ensures) ∙ sym c.in-Some.ensures)
