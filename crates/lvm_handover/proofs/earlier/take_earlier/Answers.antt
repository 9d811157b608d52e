use Rattle.std.proofs.Common.{sym, ap, subst, ◌∙◌}
use Rattle.lvm_session.specs.Fields.{core_of}
use Rattle.lvm_session.specs.Sound.{IsSound}
use Rattle.lvm_session.specs.State.{Core, state}
use Rattle.lvm_going.specs.Frames.{is_moving}
use Rattle.lvm_ranges.specs.passed.Posts.{AreAnswered}
use Rattle.lvm_handover.specs.Earlier.{AreGone}
use Rattle.lvm_handover.proofs.EarlierLemmas.Running.{stays}
use Rattle.lvm_handover.proofs.earlier.take_earlier.Goals as goal

pub take_in-session-requires-clause-answered : goal.take_in-session-requires-clause-answered
take_in-session-requires-clause-answered g c = subst (λ (core : Core). AreAnswered core.history.facts c.args.asked.now) (sym c.into_parts-shelf.ensures.core) c.requires.answered

pub from_parts-requires-clause-sound : goal.from_parts-requires-clause-sound
from_parts-requires-clause-sound g c =
    let parts = c.into_parts-shelf.ensures in
    let device = g.S.Shelf.device in
    let sound : IsSound (state (device c.into_parts-shelf.result.0) (core_of c.into_parts-shelf.result.1)) =
    subst (λ (s : g.row.S.Denot). IsSound (state (device s) (core_of c.into_parts-shelf.result.1))) (sym parts.shelf) (subst (λ (core : Core). IsSound (state (device c.args.driver.0) core)) (sym parts.core) parts.sound) in
    subst (λ (core : Core). IsSound (state (device c.into_parts-shelf.result.0) core)) (sym c.take_in-session.ensures.core)
    (stays (state (device c.into_parts-shelf.result.0) (core_of c.into_parts-shelf.result.1)) c.args.asked.now sound
    (subst (λ (core : Core). AreAnswered core.history.facts c.args.asked.now) (sym parts.core) c.requires.answered) (subst (λ (core : Core). AreGone core c.args.asked.now) (sym parts.core) c.requires.gone)).sound

pub from_parts-requires-clause-rooms : goal.from_parts-requires-clause-rooms
from_parts-requires-clause-rooms g c = c.take_in-session.ensures.rooms c.into_parts-shelf.ensures.rooms

pub from_parts-requires-clause-unmoved : goal.from_parts-requires-clause-unmoved
from_parts-requires-clause-unmoved g c =
    ap is_moving c.take_in-session.ensures.core ∙ ap is_moving c.into_parts-shelf.ensures.core ∙ c.requires.unmoved
