use Rattle.lvm_session.specs.Fields.{core_of}
use Rattle.lvm_session.specs.State.{state}
use Rattle.lvm_session_turn.proofs.HandsLemmas.{can_end}
use Rattle.lvm_session_turn.proofs.orders.arrange.Goals as goal

pub arranged-requires : goal.arranged-requires
arranged-requires g c = can_end (state (g.S.Shelf.device c.args.shelf.now) (core_of c.args.session.now)) c.requires.sound
