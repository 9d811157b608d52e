use Rattle.std.proofs.Common.{length, take, ap, arith}
use Rattle.std.proofs.lemmas.List.{length-take}
use Rattle.lvm_session.specs.Fields.{core_of}
use Rattle.lvm_session.proofs.EventsLemmas.{few_usable}
use Rattle.lvm_moves.proofs.reading.usable_of.Goals as goal

pub number_if-requires : goal.number_if-requires
number_if-requires c =
    let front = take c.loop-k.k c.args.copies.now in
    let few = few_usable (core_of c.args.session.now) 1 front in
    let long = ap length c.loop-k.invariant in
    let taken = length-take c.loop-k.k c.args.copies.now in
    let test = c.loop-k-test.true in
    let all = c.requires in
    omega (arith, few, long, taken, test, all)
