use Rattle.std.proofs.Common.{refl, sym, subst}
use Rattle.lvm_num.specs.Buffer.{Buffer}
use Rattle.lvm_num.specs.Disks.{Disks, has}
use Rattle.lvm_num.specs.Votes.{CanWrite}
use Rattle.lvm_disk.specs.Device.{Device}
use Rattle.lvm_change.specs.Transition.{MayDescribe, DescriptionGives}
use Rattle.lvm_change.proofs.DescribeLemmas.{nothing}
use Rattle.lvm_change.proofs.turn.describe.Goals as goal

pub put_descriptor-requires-clause-may : goal.put_descriptor-requires-clause-may
put_descriptor-requires-clause-may g c = subst (λ (set : Disks). MayDescribe c.args.turn set c.args.stamp (g.S.Shelf.device c.args.shelf.now)) (sym c.in-Done.ensures.1) c.requires.may

pub put_descriptor-requires-clause-was : goal.put_descriptor-requires-clause-was
put_descriptor-requires-clause-was g c = subst (λ (set : Disks). CanWrite c.args.turn.was.now set) (sym c.in-Done.ensures.1) c.in-Done.ensures.2

pub put_descriptor-requires-clause-next : goal.put_descriptor-requires-clause-next
put_descriptor-requires-clause-next g c = subst (λ (set : Disks). CanWrite c.args.turn.next.now set) (sym c.in-Done.ensures.1) c.in-Done.ensures.3

pub returns-in-Done : goal.returns-in-Done
returns-in-Done g c =
    let old : Device = g.S.Shelf.device c.args.shelf.now in
    let new : Device = g.S.Shelf.device c.put_descriptor.new.shelf in
    subst (λ (b : Buffer). DescriptionGives c.args.turn (has c.args.there) c.args.stamp c.args.homes.now c.put_descriptor.new.homes b.number c.args.patience.now.left c.put_descriptor.new.patience.left old new c.put_descriptor.result) c.in-Done.ensures.0
    (subst (λ (set : Disks). DescriptionGives c.args.turn set c.args.stamp c.args.homes.now c.put_descriptor.new.homes c.in-Done.buf.number c.args.patience.now.left c.put_descriptor.new.patience.left old new c.put_descriptor.result) c.in-Done.ensures.1 c.put_descriptor.ensures)

pub returns-in_default : goal.returns-in_default
returns-in_default g c =
    nothing c.args.turn (has c.args.there) c.args.stamp c.args.homes.now (g.S.Shelf.device c.args.shelf.now) (g.met.S.Shelf.sectors_are_whole c.args.shelf.now) c.requires.may c.args.buf.number c.args.patience.now.left c.args.buf c.by_votes.result refl
    c.in_default.not-Done c.by_votes.ensures
