use Rattle.std.proofs.Common.{sym, subst}
use Rattle.lvm_keeps.specs.passed.Session.{Core, state, IsSound}
use Rattle.lvm_session_start.proofs.EntriesLemmas.{is_sound}
use Rattle.lvm_session_start.proofs.begin.begin_session.Goals as goal

pub returns-clause-sound : goal.returns-clause-sound
returns-clause-sound g c =
    let device = g.S.Shelf.device c.args.shelf.now in
    let begun = c.first_session.ensures in
    subst (λ (core : Core). IsSound (state device core)) (sym begun.core) (is_sound device c.args.history c.args.stamp c.args.homes c.args.parts c.requires.may c.first_session.result.origin.faults begun.faults)
