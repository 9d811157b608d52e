use Rattle.lvm_session_turn.proofs.first.make_first.Goals as goal

pub returns-then-is_lost-clause-makes : goal.returns-then-is_lost-clause-makes
returns-then-is_lost-clause-makes g c = c.land_only.ensures.makes (g.S.Shelf.device c.args.shelf.now)
