use Rattle.std.proofs.Common.{◌*◌, ℕ, sym, subst}
use Rattle.lvm_hold.specs.Waiting.{AreBelow}
use Rattle.lvm_session.specs.Fields.{core_of}
use Rattle.lvm_calls.proofs.WaitingLemmas.{queue_low, queue_room}
use Rattle.lvm_calls.proofs.begin.begin.Goals as goal

pub enter-requires-clause-room : goal.enter-requires-clause-room
enter-requires-clause-room c = queue_room (core_of c.args.session.now) c.requires.going c.requires.place

pub enter-requires-clause-last : goal.enter-requires-clause-last
enter-requires-clause-last c = subst (λ (n : ℕ). AreBelow c.args.session.now.queue.rows (2 * n)) (sym c.begin-id.ensures.id) (queue_low (core_of c.args.session.now) c.requires.going c.are_numbered.ensures.below)
