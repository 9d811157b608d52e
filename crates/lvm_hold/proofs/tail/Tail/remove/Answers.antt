use Rattle.std.proofs.Common.{arith}
use Rattle.lvm_hold.proofs.TailLemmas.{first_gone, other_gone, within}
use Rattle.lvm_hold.proofs.tail.Tail.remove.Goals as goal

pub returns-then-place-eq0 : goal.returns-then-place-eq0
returns-then-place-eq0 g c =
    let lt = within c.self.inside.room c.self.inside.gone c.self.inside.list.items c.args.self.now c.self.view_is c.args.place c.requires in
    rw (c.if-place-eq0.true) (first_gone c.self.inside.room c.self.inside.gone c.self.inside.list.items c.args.self.now c.self.view_is (omega (arith, lt)))

pub returns-else-place-eq0 : goal.returns-else-place-eq0
returns-else-place-eq0 g c =
    let lt = within c.self.inside.room c.self.inside.gone c.self.inside.list.items c.args.self.now c.self.view_is c.args.place c.requires in
    rw (c.remove.ensures.items) (other_gone c.self.inside.room c.self.inside.gone c.self.inside.list.items c.args.self.now c.self.view_is c.args.place lt)
