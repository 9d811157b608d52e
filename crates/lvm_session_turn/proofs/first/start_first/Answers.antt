use Rattle.std.proofs.Common.{sym, ◌∙◌}
use Rattle.lvm_session.specs.Fields.{core_of}
use Rattle.lvm_session.specs.State.{state}
use Rattle.lvm_moves.proofs.ReadyLemmas.Ready.{first_start_can}
use Rattle.lvm_session_turn.proofs.first.start_first.Goals as goal

pub start-requires-clause-may : goal.start-requires-clause-may
start-requires-clause-may g c =
    first_start_can (state (g.S.Shelf.device c.args.shelf.now) (core_of c.args.session.now)) c.in-Some.event c.requires.sound c.requires.on c.requires.votes (sym c.first_start.ensures.first ∙ c.in-Some.is)

pub start-requires-clause-going : goal.start-requires-clause-going
start-requires-clause-going g c = (c.requires.sound.on c.requires.on).going
