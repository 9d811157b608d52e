use Rattle.std.proofs.Common.{List, ap}
use Rattle.lvm_hold.specs.declared.queue.Row.{Row}
use Rattle.lvm_hold.specs.Waiting.{Waiting}
use Rattle.lvm_calls.proofs.LeavingLemmas.{none_leaves}
use Rattle.lvm_calls.proofs.ending.leave_if_inside.Goals as goal

pub returns-else-has : goal.returns-else-has
returns-else-has c =
    ap (λ (rows : List Row). let queue : Waiting = record { room = c.args.queue.now.room; rows = rows } in queue) (none_leaves c.args.place c.args.queue.now.rows (λ it. let told = c.has.ensures.1 it in absurd (cc (told, c.if-has.false))))
