use Rattle.lvm_due.proofs.due.Due.moved_if.Goals as goal

pub returns-then-still : goal.returns-then-still
returns-then-still c frees pins old free enter moves due = c.moved.ensures frees pins old free enter (moves c.if-still.true) due

pub returns-else-still : goal.returns-else-still
returns-else-still c frees pins old free enter moves due = c.fill.ensures
