use Rattle.std.proofs.Common.{refl}
use Rattle.lvm_session.specs.Fields.{core_of}
use Rattle.lvm_due.proofs.DueLemmas.Frames.{moved_due}
use Rattle.lvm_due.proofs.due.Due.moved.Goals as goal

pub returns : goal.returns
returns c frees pins old free enter moves due =
    moved_due frees pins old (core_of c.args.session.now) c.args.place _ _ _ c.args.freed c.args.entries c.requires free enter c.add.ensures c.join.ensures c.join-2.ensures c.join-3.ensures refl refl refl moves due
