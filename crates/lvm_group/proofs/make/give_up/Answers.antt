use Rattle.std.proofs.Common.{◌≡◌, ◌≤◌, length, take, sym, subst, arith}
use Rattle.std.proofs.lemmas.List.{length-take-le}
use Rattle.lvm_vol.specs.Log.{Log, spare_entries}
use Rattle.lvm_group.proofs.LogLemmas.{spare_given}
use Rattle.lvm_group.proofs.make.give_up.Goals as goal

pub push-requires-clause-spare : goal.push-requires-clause-spare
push-requires-clause-spare c =
    let left = spare_given c.args.history.now (take c.loop-disk.disk-index c.args.disks.now) in
    let long : length (take c.loop-disk.disk-index c.args.disks.now) ≡ c.loop-disk.disk-index = length-take-le c.loop-disk.disk-index c.args.disks.now (omega arith) in
    subst (λ (l : Log). 1 ≤ spare_entries l) (sym c.loop-disk.invariant) (omega (arith, left, long, c.requires, c.loop-disk-test.true))
