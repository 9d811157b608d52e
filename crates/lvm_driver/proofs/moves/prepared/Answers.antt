use Rattle.std.proofs.Common.{sym, subst}
use Rattle.lvm_num.specs.Descriptor.{IsValid}
use Rattle.lvm_moved.proofs.MovedLemmas.{inside_each, moved_is_valid}
use Rattle.lvm_driver.proofs.moves.prepared.Goals as goal

pub moved_descriptor-requires-clause-some : goal.moved_descriptor-requires-clause-some
moved_descriptor-requires-clause-some c = c.requires.may.some

pub moved_descriptor-requires-clause-inside : goal.moved_descriptor-requires-clause-inside
moved_descriptor-requires-clause-inside c = inside_each c.args.d.now c.args.lv c.args.lp c.args.number c.args.to c.requires.valid c.requires.may

pub new-requires : goal.new-requires
new-requires c = subst IsValid (sym c.in_ok-next.ensures) (moved_is_valid c.args.d.now c.args.lv c.args.lp c.args.number c.args.to c.requires.valid c.requires.may)
