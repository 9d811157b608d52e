use Rattle.std.proofs.Common.{List, ℕ, None, Option, refl, sym, subst}
use Rattle.lvm_num.specs.Disks.{has}
use Rattle.lvm_write.specs.declared.begin.Begun.TheVariants as begun
use Rattle.lvm_recovery.specs.Equalising.{StatesSecond}
use Rattle.lvm_recovery.proofs.equal.state_second.Goals as goal

pub returns-in-None : goal.returns-in-None
returns-in-None g c =
    let device = g.S.Shelf.device c.args.shelf.now in
    let left = c.args.patience.now.left in
    subst (λ (o : Option (List ℕ)). StatesSecond o c.args.epoch (has c.args.targets) c.args.homes.now c.args.homes.now c.args.buf.number left left device device (begun.Ended c.args.buf)) (sym c.in-None.is)
    (record { buf = c.args.buf; ended = refl; number_is = refl; same = refl; same_homes = refl; spends = refl })
