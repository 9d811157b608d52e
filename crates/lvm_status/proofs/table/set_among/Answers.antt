use Rattle.lvm_status.proofs.RowsLemmas.Numbers.{found, missed, room, dirty-insert, dirty-remove, sets-insert, sets-remove, sets-there, sets-absent}
use Rattle.lvm_status.proofs.table.set_among.Goals as goal

pub insert-requires-clause-room : goal.insert-requires-clause-room
insert-requires-clause-room c =
    room c.args.numbers.now c.args.number c.in-Err.place c.requires.dirty c.requires.number
    (missed c.args.numbers.now c.as_slice.result.now c.args.number c.in-Err.place c.as_slice.ensures c.requires.dirty c.in-Err.ensures.position)

pub returns-then-not-yes-clause-dirty : goal.returns-then-not-yes-clause-dirty
returns-then-not-yes-clause-dirty c =
    rw c.remove.ensures
    (dirty-remove c.args.numbers.now c.args.number c.in-Ok.place c.requires.dirty
    (found c.args.numbers.now c.as_slice.result.now c.args.number c.in-Ok.place c.as_slice.ensures c.requires.dirty c.in-Ok.ensures.position))

pub returns-then-not-yes-clause-sets : goal.returns-then-not-yes-clause-sets
returns-then-not-yes-clause-sets c =
    rw c.remove.ensures
    (sets-remove c.args.numbers.now c.args.number c.in-Ok.place c.args.yes c.requires.dirty
    (found c.args.numbers.now c.as_slice.result.now c.args.number c.in-Ok.place c.as_slice.ensures c.requires.dirty c.in-Ok.ensures.position) c.if-not-yes.true)

pub returns-else-not-yes-clause-sets : goal.returns-else-not-yes-clause-sets
returns-else-not-yes-clause-sets c =
    sets-there c.args.numbers.now c.args.number c.in-Ok.place c.args.yes
    (found c.args.numbers.now c.as_slice.result.now c.args.number c.in-Ok.place c.as_slice.ensures c.requires.dirty c.in-Ok.ensures.position) c.if-not-yes.false

pub returns-then-yes-clause-dirty : goal.returns-then-yes-clause-dirty
returns-then-yes-clause-dirty c =
    rw c.insert.ensures
    (dirty-insert c.args.numbers.now c.args.number c.in-Err.place c.requires.dirty c.requires.number
    (missed c.args.numbers.now c.as_slice.result.now c.args.number c.in-Err.place c.as_slice.ensures c.requires.dirty c.in-Err.ensures.position))

pub returns-then-yes-clause-sets : goal.returns-then-yes-clause-sets
returns-then-yes-clause-sets c =
    rw c.insert.ensures (sets-insert c.args.numbers.now c.args.number c.in-Err.place c.args.yes c.if-yes.true)

pub returns-else-yes-clause-sets : goal.returns-else-yes-clause-sets
returns-else-yes-clause-sets c =
    sets-absent c.args.numbers.now c.args.number c.in-Err.place c.args.yes
    (missed c.args.numbers.now c.as_slice.result.now c.args.number c.in-Err.place c.as_slice.ensures c.requires.dirty c.in-Err.ensures.position) c.if-yes.false
