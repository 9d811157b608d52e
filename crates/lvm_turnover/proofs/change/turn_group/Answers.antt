use Rattle.std.proofs.Common.{[], sym, subst}
use Rattle.lvm_commit.specs.Settling.{MarksLeft}
use Rattle.lvm_session.specs.Fields.{core_of}
use Rattle.lvm_session.specs.State.{Core, State, state}
use Rattle.lvm_core.specs.Sound.{IsSoundAtRest}
use Rattle.lvm_core.proofs.SoundLemmas.Own.{SameSizes, rooms_stay}
use Rattle.lvm_turnover.specs.Turning.{IsMadeFor, MayTurnSession, TurnsSession, ShowsGone, disks_leaving, state_after}
use Rattle.lvm_turnover.specs.Changing.{EndsFrom, IsNext, LeavesWithin}
use Rattle.lvm_turnover.proofs.TurningLemmas.{Comes, session_comes, renewed_may, renewed_comes}
use Rattle.lvm_turnover.proofs.change.turn_group.Goals as goal

pub turn_session-answer-requires-clause-may : goal.turn_session-answer-requires-clause-may
turn_session-answer-requires-clause-may g c =
    subst (λ (s : g.row.S.Denot). MayTurnSession c.renew.new.self (state (g.S.Shelf.device s) (core_of c.into_parts-shelf.result.1))) (sym c.into_parts-shelf.ensures.shelf)
    (subst (λ (k : Core). MayTurnSession c.renew.new.self (state (g.S.Shelf.device c.args.driver.0) k)) (sym c.into_parts-shelf.ensures.core)
    (renewed_may c.args.change c.renew.new.self c.renew.ensures.same (state (g.S.Shelf.device c.args.driver.0) c.args.driver.1)
    (subst (λ (k : Core). IsMadeFor k.status.wanted c.renew.new.self) c.into_parts-shelf.ensures.core c.renew.ensures.made) c.into_parts-shelf.ensures.sound c.requires.settled c.requires.numbers c.requires.may))

pub from_parts-requires-clause-rooms : goal.from_parts-requires-clause-rooms
from_parts-requires-clause-rooms g c =
    let old : State = state (g.S.Shelf.device c.args.driver.0) c.args.driver.1 in
    let new : State = state (g.S.Shelf.device c.turn_session-answer.new.shelf) (core_of c.turn_session-answer.new.session) in
    let d = c.renew.new.self in
    let p = c.args.patience.now.left in
    let q = c.turn_session-answer.new.patience.left in
    let may = renewed_may c.args.change d c.renew.ensures.same old (subst (λ (k : Core). IsMadeFor k.status.wanted d) c.into_parts-shelf.ensures.core c.renew.ensures.made) c.into_parts-shelf.ensures.sound c.requires.settled c.requires.numbers c.requires.may in
    let comes : Comes d p q old new c.turn_session-answer.result = session_comes d p q old new c.turn_session-answer.result
    (subst (λ (k : Core). TurnsSession d p q (state (g.S.Shelf.device c.args.driver.0) k) new c.turn_session-answer.result) c.into_parts-shelf.ensures.core
    (subst (λ (s : g.row.S.Denot). TurnsSession d p q (state (g.S.Shelf.device s) (core_of c.into_parts-shelf.result.1)) new c.turn_session-answer.result) c.into_parts-shelf.ensures.shelf c.turn_session-answer.ensures.does))
    may c.requires.settled c.into_parts-shelf.ensures.sound in
    rooms_stay c.into_parts-shelf.result.1 c.turn_session-answer.new.session c.into_parts-shelf.ensures.rooms c.turn_session-answer.ensures.rooms
    (subst (λ (k : Core). SameSizes k (core_of c.turn_session-answer.new.session)) (sym c.into_parts-shelf.ensures.core) comes.sizes)

pub from_parts-requires-clause-sound : goal.from_parts-requires-clause-sound
from_parts-requires-clause-sound g c =
    let old : State = state (g.S.Shelf.device c.args.driver.0) c.args.driver.1 in
    let new : State = state (g.S.Shelf.device c.turn_session-answer.new.shelf) (core_of c.turn_session-answer.new.session) in
    let d = c.renew.new.self in
    let p = c.args.patience.now.left in
    let q = c.turn_session-answer.new.patience.left in
    let may = renewed_may c.args.change d c.renew.ensures.same old (subst (λ (k : Core). IsMadeFor k.status.wanted d) c.into_parts-shelf.ensures.core c.renew.ensures.made) c.into_parts-shelf.ensures.sound c.requires.settled c.requires.numbers c.requires.may in
    let comes : Comes d p q old new c.turn_session-answer.result = session_comes d p q old new c.turn_session-answer.result
    (subst (λ (k : Core). TurnsSession d p q (state (g.S.Shelf.device c.args.driver.0) k) new c.turn_session-answer.result) c.into_parts-shelf.ensures.core
    (subst (λ (s : g.row.S.Denot). TurnsSession d p q (state (g.S.Shelf.device s) (core_of c.into_parts-shelf.result.1)) new c.turn_session-answer.result) c.into_parts-shelf.ensures.shelf c.turn_session-answer.ensures.does))
    may c.requires.settled c.into_parts-shelf.ensures.sound in
    comes.sound

pub returns : goal.returns
returns g c =
    let old : State = state (g.S.Shelf.device c.args.driver.0) c.args.driver.1 in
    let new : State = state (g.S.Shelf.device c.turn_session-answer.new.shelf) (core_of c.turn_session-answer.new.session) in
    let a = c.args.change in
    let d = c.renew.new.self in
    let p = c.args.patience.now.left in
    let q = c.turn_session-answer.new.patience.left in
    let may = renewed_may a d c.renew.ensures.same old (subst (λ (k : Core). IsMadeFor k.status.wanted d) c.into_parts-shelf.ensures.core c.renew.ensures.made) c.into_parts-shelf.ensures.sound c.requires.settled c.requires.numbers c.requires.may in
    let one : Comes d p q old new c.turn_session-answer.result = session_comes d p q old new c.turn_session-answer.result
    (subst (λ (k : Core). TurnsSession d p q (state (g.S.Shelf.device c.args.driver.0) k) new c.turn_session-answer.result) c.into_parts-shelf.ensures.core
    (subst (λ (s : g.row.S.Denot). TurnsSession d p q (state (g.S.Shelf.device s) (core_of c.into_parts-shelf.result.1)) new c.turn_session-answer.result) c.into_parts-shelf.ensures.shelf c.turn_session-answer.ensures.does))
    may c.requires.settled c.into_parts-shelf.ensures.sound in
    let comes : Comes a p q old new c.turn_session-answer.result = renewed_comes a d c.renew.ensures.same p q old new c.turn_session-answer.result one in
    let at : (P : State → Type 0) → P new → P (state (g.S.Shelf.device c.from_parts.result.0) c.from_parts.result.1) =
    λ P holds. subst (λ (s : g.row.S.Denot). P (state (g.S.Shelf.device s) c.from_parts.result.1)) (sym c.from_parts.ensures.shelf) (subst (λ (k : Core). P (state (g.S.Shelf.device c.turn_session-answer.new.shelf) k)) (sym c.from_parts.ensures.core) holds) in
    record {
      ends = at (λ s. EndsFrom a.next p old (state_after a.leaving old) s c.turn_session-answer.result) comes.ends;
      shown = at (λ s. ShowsGone a.next old s c.turn_session-answer.result) comes.shown;
      sound = at IsSoundAtRest comes.sound;
      left = at (λ s. MarksLeft a.next c.args.driver.1.status s.core.status) comes.left;
      leaves = at (λ s. LeavesWithin 3 (IsNext a.next) [] (disks_leaving a.leaving) p q old s) comes.leaves;
    }
