use Rattle.lvm_io.proofs.ReadingLemmas.{front_left, front_stays, line_given, line_wanted, last_given}
use Rattle.lvm_io.proofs.lines.Lines.next_line.Goals as goal

pub returns-in-Ok-Some-clause-line : goal.returns-in-Ok-Some-clause-line
returns-in-Ok-Some-clause-line g c =
    line_given c.args.self.now c.loop-alloc.self c.take_line.new.self (g.I.Source.left c.args.input.now) (g.I.Source.left c.loop-alloc.input) c.in-Ok-Some.line c.loop-alloc.invariant.same (rw c.in-Ok-Some.field-0-is at c.in-Ok-Some.ensures)

pub returns-in-End-clause-line : goal.returns-in-End-clause-line
returns-in-End-clause-line g c =
    last_given c.args.self.now c.loop-alloc.self c.take_line.new.self c.refill.new.self c.last_line.new.self (g.I.Source.left c.args.input.now) (g.I.Source.left c.loop-alloc.input) (g.I.Source.left c.refill.new.input)
    c.last_line.result c.loop-alloc.invariant.same (rw c.in-Ok-None.field-0-is at c.in-Ok-None.ensures) c.in-End.ensures.block.0 c.in-End.ensures.block.1 c.last_line.ensures

pub returns-in-Err-clause-line : goal.returns-in-Err-clause-line
returns-in-Err-clause-line g c =
    line_wanted c.args.self.now c.loop-alloc.self c.take_line.new.self (g.I.Source.left c.args.input.now) (g.I.Source.left c.loop-alloc.input) _ c.loop-alloc.invariant.same c.in-Err.ensures

pub returns-in-Failed-clause-front : goal.returns-in-Failed-clause-front
returns-in-Failed-clause-front g c =
    front_left c.loop-alloc.self c.take_line.new.self c.refill.new.self (rw c.in-Ok-None.field-0-is at c.in-Ok-None.ensures) c.in-Failed.ensures.block.0

pub returns-in-Err-clause-front : goal.returns-in-Err-clause-front
returns-in-Err-clause-front g c = front_stays c.loop-alloc.self c.take_line.new.self _ c.in-Err.ensures c.given.ensures.clean c.given.ensures.block
