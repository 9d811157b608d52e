use Rattle.lvm_hold.proofs.TailLemmas.{set_in}
use Rattle.lvm_hold.proofs.tail.Tail.set.Goals as goal

pub returns : goal.returns
returns g c = set_in c.self.inside.room c.self.inside.gone c.self.inside.list.items c.args.self.now c.self.view_is c.args.place c.args.item
