use Rattle.std.proofs.Common.{◌∙◌, ap, subst}
use Rattle.lvm_session.specs.Enabled.{is_lost}
use Rattle.lvm_session.specs.Fields.{core_of}
use Rattle.lvm_session.specs.State.{Core, state}
use Rattle.lvm_moves.proofs.ReadyLemmas.Ready.{first_start_can, sessions_may_choose}
use Rattle.lvm_moves.specs.Starts.{StartsFirst}
use Rattle.lvm_session_turn.proofs.TakingLemmas.{settles, starts_first}
use Rattle.lvm_session_turn.proofs.first.settle_or_start.Goals as goal

pub move_first-requires-clause-may : goal.move_first-requires-clause-may
move_first-requires-clause-may g c = sessions_may_choose (state (g.S.Shelf.device c.args.shelf.now) (core_of c.args.session.now)) c.requires.sound c.requires.on

pub start_first-requires-clause-votes : goal.start_first-requires-clause-votes
start_first-requires-clause-votes g c = ap is_lost c.if-move_first.ensures.gives.1 ∙ c.requires.votes

pub returns-then-move_first-clause-makes : goal.returns-then-move_first-clause-makes
returns-then-move_first-clause-makes g c = settles (core_of c.args.session.now) (core_of c.move_first.new.session) (g.S.Shelf.device c.args.shelf.now) c.requires.votes c.if-move_first.ensures.gives

pub returns-else-move_first-clause-makes : goal.returns-else-move_first-clause-makes
returns-else-move_first-clause-makes g c =
    let old = state (g.S.Shelf.device c.args.shelf.now) (core_of c.args.session.now) in
    let new = state (g.S.Shelf.device c.start_first.new.shelf) (core_of c.start_first.new.session) in
    let none = c.if-move_first.ensures.gives in
    starts_first old new c.requires.votes none.0 (λ it is. first_start_can old it c.requires.sound c.requires.on c.requires.votes is) c.start_first.result
    (subst (λ (core : Core). StartsFirst (state (g.S.Shelf.device c.args.shelf.now) core) new c.start_first.result) none.1 c.start_first.ensures.starts)
