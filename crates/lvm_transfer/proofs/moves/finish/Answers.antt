use Rattle.std.proofs.Common.{◌≡◌, ◌+◌, ◌-◌, arith}
use Rattle.lvm_disk.specs.Paths.{Waited}
use Rattle.lvm_transfer.specs.Transfer.{NoStep, OneStep}
use Rattle.lvm_transfer.proofs.TransferLemmas.Waiting.{no_waits, one_wait, borne_costs}
use Rattle.lvm_transfer.proofs.TransferLemmas.Ending.{done_moments, failed_moments, cut_moments, done_gives, failed_gives, cut_gives, done_rests, failed_rests, dark_cuts, done_costs, failed_costs, cut_costs}
use Rattle.lvm_transfer.proofs.moves.finish.Goals as goal

pub loop-init : goal.loop-init
loop-init g c = record { so_far = no_waits (g.S.Shelf.device c.args.shelf.now); count = omega arith; steps = NoStep }

pub loop-preserved : goal.loop-preserved
loop-preserved g c = record {
  so_far = one_wait (g.S.Shelf.device c.args.shelf.now) (g.S.Shelf.device c.loop.shelf) (g.S.Shelf.device c.reap.new.self) c.loop.counter c.loop.invariant.so_far c.in-Empty.ensures;
  count = let e = c.loop.invariant.count in omega (arith, e);
  steps = OneStep c.loop.invariant.steps (Waited c.in-Empty.ensures) (let e = c.loop.invariant.count in let one : c.loop.patience.left ≡ c.loop.patience.left - 1 + 1 = omega (arith, e) in one);
}

pub returns-in-Done-clause-gives : goal.returns-in-Done-clause-gives
returns-in-Done-clause-gives g c f one = done_gives (g.S.Shelf.device c.args.shelf.now) (g.S.Shelf.device c.loop.shelf) (g.S.Shelf.device c.reap.new.self) c.loop.counter c.loop.invariant.so_far c.args.patience.now.left f one c.in-Done.ticket c.in-Done.buf c.in-Done.ensures

pub returns-in-Done-clause-rests : goal.returns-in-Done-clause-rests
returns-in-Done-clause-rests g c = done_rests (g.S.Shelf.device c.args.shelf.now) (g.S.Shelf.device c.loop.shelf) (g.S.Shelf.device c.reap.new.self) c.loop.counter c.loop.invariant.so_far c.requires.freed c.requires.power c.requires.flight.0 c.requires.flight.1 c.in-Done.ticket c.in-Done.buf c.in-Done.ensures

pub returns-in-Done-clause-moments : goal.returns-in-Done-clause-moments
returns-in-Done-clause-moments g c = done_moments (g.S.Shelf.device c.args.shelf.now) (g.S.Shelf.device c.loop.shelf) (g.S.Shelf.device c.reap.new.self) c.loop.counter c.loop.invariant.so_far c.in-Done.ticket c.in-Done.buf c.in-Done.ensures

pub returns-in-Failed-clause-gives : goal.returns-in-Failed-clause-gives
returns-in-Failed-clause-gives g c f one = failed_gives (g.S.Shelf.device c.args.shelf.now) (g.S.Shelf.device c.loop.shelf) (g.S.Shelf.device c.reap.new.self) c.loop.counter c.loop.invariant.so_far c.args.patience.now.left f one c.in-Failed.ticket c.in-Failed.buf c.in-Failed.ensures

pub returns-in-Failed-clause-rests : goal.returns-in-Failed-clause-rests
returns-in-Failed-clause-rests g c = failed_rests (g.S.Shelf.device c.args.shelf.now) (g.S.Shelf.device c.loop.shelf) (g.S.Shelf.device c.reap.new.self) c.loop.counter c.loop.invariant.so_far c.requires.freed c.requires.power c.requires.flight.0 c.requires.flight.1 c.in-Failed.ticket c.in-Failed.buf c.in-Failed.ensures

pub returns-in-Failed-clause-moments : goal.returns-in-Failed-clause-moments
returns-in-Failed-clause-moments g c = failed_moments (g.S.Shelf.device c.args.shelf.now) (g.S.Shelf.device c.loop.shelf) (g.S.Shelf.device c.reap.new.self) c.loop.counter c.loop.invariant.so_far c.in-Failed.ticket c.in-Failed.buf c.in-Failed.ensures

pub returns-in-Dark-clause-gives : goal.returns-in-Dark-clause-gives
returns-in-Dark-clause-gives g c f one = cut_gives (g.S.Shelf.device c.args.shelf.now) (g.S.Shelf.device c.loop.shelf) (g.S.Shelf.device c.reap.new.self) c.loop.counter c.loop.invariant.so_far c.args.patience.now.left f
    (dark_cuts (g.S.Shelf.device c.args.shelf.now) (g.S.Shelf.device c.loop.shelf) (g.S.Shelf.device c.reap.new.self) c.loop.counter c.loop.invariant.so_far c.requires.power c.in-Dark.ensures.0)

pub returns-in-Dark-clause-moments : goal.returns-in-Dark-clause-moments
returns-in-Dark-clause-moments g c = cut_moments (g.S.Shelf.device c.args.shelf.now) (g.S.Shelf.device c.loop.shelf) (g.S.Shelf.device c.reap.new.self) c.loop.counter c.loop.invariant.so_far
    (dark_cuts (g.S.Shelf.device c.args.shelf.now) (g.S.Shelf.device c.loop.shelf) (g.S.Shelf.device c.reap.new.self) c.loop.counter c.loop.invariant.so_far c.requires.power c.in-Dark.ensures.0)

pub returns-in-Done-clause-costs : goal.returns-in-Done-clause-costs
returns-in-Done-clause-costs g c = done_costs (g.S.Shelf.device c.args.shelf.now) (g.S.Shelf.device c.loop.shelf) (g.S.Shelf.device c.reap.new.self) c.args.patience.now.left c.loop.patience.left c.loop.counter c.loop.invariant c.in-Done.ticket c.in-Done.buf c.in-Done.ensures

pub returns-in-Failed-clause-costs : goal.returns-in-Failed-clause-costs
returns-in-Failed-clause-costs g c = failed_costs (g.S.Shelf.device c.args.shelf.now) (g.S.Shelf.device c.loop.shelf) (g.S.Shelf.device c.reap.new.self) c.args.patience.now.left c.loop.patience.left c.loop.counter c.loop.invariant c.in-Failed.ticket c.in-Failed.buf c.in-Failed.ensures

pub returns-in-Dark-clause-costs : goal.returns-in-Dark-clause-costs
returns-in-Dark-clause-costs g c = cut_costs (g.S.Shelf.device c.args.shelf.now) (g.S.Shelf.device c.loop.shelf) (g.S.Shelf.device c.reap.new.self) c.args.patience.now.left c.loop.patience.left c.loop.counter c.loop.invariant
    (dark_cuts (g.S.Shelf.device c.args.shelf.now) (g.S.Shelf.device c.loop.shelf) (g.S.Shelf.device c.reap.new.self) c.loop.counter c.loop.invariant.so_far c.requires.power c.in-Dark.ensures.0)

pub returns-clause-costs : goal.returns-clause-costs
returns-clause-costs g c = borne_costs (g.S.Shelf.device c.args.shelf.now) (g.S.Shelf.device c.loop.shelf) c.args.patience.now.left c.loop.patience.left c.loop.counter c.loop.invariant
