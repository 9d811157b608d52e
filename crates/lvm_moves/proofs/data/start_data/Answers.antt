use Rattle.std.proofs.Common.{◌≡◌, ◌<◌, ◌≤◌, ◌+◌, ◌++◌, ◌∷◌, [], ℕ, List, Bool, true, false, Some, slice_get, slice_set, sym, ◌∙◌, ap, subst}
use Rattle.lvm_num.specs.Buffer.{Buffer}
use Rattle.lvm_disk.specs.Steps.{IsRange, Starts}
use Rattle.lvm_vol.specs.Log.{blocks_begun, blocks_of}
use Rattle.lvm_pbuf.specs.Out.{IsOut, TakesLowest}
use Rattle.lvm_path.specs.Asks.{count_of, is_write}
use Rattle.lvm_path.specs.declared.target.Target.{Target}
use Rattle.lvm_session.specs.declared.flown.Owner.TheVariants as owner
use Rattle.lvm_session.specs.declared.open.Open.{Open}
use Rattle.lvm_session.specs.Fields.{core_of}
use Rattle.lvm_session.specs.State.{state}
use Rattle.lvm_session.specs.Dark.{all_dark}
use Rattle.lvm_session.specs.Events.{begun_as, flown}
use Rattle.lvm_session.specs.Hands.{MayEnd}
use Rattle.lvm_session.specs.Sound.{IsAsked}
use Rattle.lvm_due.proofs.AtPlaces.{at_place, read_same}
use Rattle.lvm_moves.proofs.OutLemmas.{is_taken, may_end, pool_same}
use Rattle.lvm_moves.proofs.Starting.{carries_own, dark_after, data_starts, its_within}
use Rattle.lvm_moves.proofs.data.start_data.Goals as goal

pub loaded-buf-requires-clause-within : goal.loaded-buf-requires-clause-within
loaded-buf-requires-clause-within g c =
    let core = core_of c.args.session.now in
    let due = c.requires.starts.due in
    let read = read_same core.requests c.args.place c.index-open.result.now due.request due.there c.index-open.ensures in
    let told = c.requires.may.flight.going.told in
    let its = at_place (IsAsked core.history.facts) core.requests c.args.place due.request told.requests due.there in
    subst (λ (x : Open). x.place + count_of x.request.ask ≤ blocks_begun core.history.facts) (sym read) (its_within core due.request told.ordered its)

pub start-requires-clause-range : goal.start-requires-clause-range
start-requires-clause-range g c =
    let core = core_of c.args.session.now in
    let due = c.requires.starts.due in
    let read = read_same core.requests c.args.place c.index-open.result.now due.request due.there c.index-open.ensures in
    let found = subst (λ (x : Open). slice_get x.request.targets.items c.args.target ≡ Some c.target_of-aim.result) read c.target_of-aim.ensures in
    let aim : due.aim ≡ c.target_of-aim.result = cc (found, due.aim_is) in
    let count = c.count.ensures ∙ ap (λ (x : Open). count_of x.request.ask) read in
    subst (λ (t : Target). IsRange (g.S.Shelf.device c.args.shelf.now) t.pp.disk t.sector c.count.result) aim (subst (λ n. IsRange (g.S.Shelf.device c.args.shelf.now) due.aim.pp.disk due.aim.sector n) (sym count) c.requires.starts.range)

pub end_dark-requires-clause-out : goal.end_dark-requires-clause-out
end_dark-requires-clause-out g c =
    let number = ap (λ (b : Buffer). b.number) c.in-Dark.ensures.0 ∙ c.loaded-buf.ensures.number in
    subst (λ n. IsOut c.take_free-buf.new.pool n) (sym number) (is_taken c.args.session.now.pool c.take_free-buf.new.pool c.take_free-buf.result.number c.take_free-buf.ensures.taken)

pub end_dark-requires-clause-may : goal.end_dark-requires-clause-may
end_dark-requires-clause-may g c =
    let core = core_of c.args.session.now in
    let number = ap (λ (b : Buffer). b.number) c.in-Dark.ensures.0 ∙ c.loaded-buf.ensures.number in
    let back = ap (λ n. slice_set c.take_free-buf.new.pool n false) number ∙ pool_same core.pool c.take_free-buf.new.pool c.take_free-buf.result.number c.take_free-buf.ensures.taken in
    subst (λ (p : List Bool). MayEnd (record core { pool = p })) (sym back) (may_end core c.requires.may.flight.going)

pub returns-in-Dark-clause-gives : goal.returns-in-Dark-clause-gives
returns-in-Dark-clause-gives g c =
    let core = core_of c.args.session.now in
    let number = ap (λ (b : Buffer). b.number) c.in-Dark.ensures.0 ∙ c.loaded-buf.ensures.number in
    dark_after (state (g.S.Shelf.device c.args.shelf.now) core) (g.S.Shelf.device c.start.new.shelf) (core_of c.end_dark.new.session) c.take_free-buf.new.pool c.take_free-buf.result.number c.take_free-buf.ensures.taken
    c.in-Dark.ensures.2 c.in-Dark.ensures.1 (c.end_dark.ensures.core ∙ ap (λ n. all_dark (record core { pool = slice_set c.take_free-buf.new.pool n false })) number)

pub returns-in-Ticket-clause-gives : goal.returns-in-Ticket-clause-gives
returns-in-Ticket-clause-gives g c =
    let core = core_of c.args.session.now in
    let old = g.S.Shelf.device c.args.shelf.now in
    let device = g.S.Shelf.device c.start.new.shelf in
    let pool = c.take_free-buf.new.pool in
    let buf = c.loaded-buf.result in
    let due = c.requires.starts.due in
    let read = read_same core.requests c.args.place c.index-open.result.now due.request due.there c.index-open.ensures in
    let told = c.requires.may.flight.going.told in
    let its = at_place (IsAsked core.history.facts) core.requests c.args.place due.request told.requests due.there in
    let found = subst (λ (x : Open). slice_get x.request.targets.items c.args.target ≡ Some c.target_of-aim.result) read c.target_of-aim.ensures in
    let aim : c.target_of-aim.result ≡ due.aim = cc (found, due.aim_is) in
    let loads = subst (λ (x : Open). is_write x.request.ask ≡ true → (k : ℕ) → k < count_of x.request.ask → slice_get buf.sectors k ≡ slice_get (blocks_of core.history.facts) (x.place + k)) read c.loaded-buf.ensures.blocks in
    data_starts (state old core) device c.args.place c.args.target due c.is_write.result c.count.result c.in-Ticket.ticket buf pool (core_of c.begin_data.new.session)
    (c.is_write.ensures ∙ ap (λ (x : Open). is_write x.request.ask) read) (c.count.ensures ∙ ap (λ (x : Open). count_of x.request.ask) read) c.loaded-buf.ensures.long
    (subst (TakesLowest core.pool pool) (sym c.loaded-buf.ensures.number) c.take_free-buf.ensures.taken) (carries_own core due.request buf told.ordered its loads)
    (subst (λ (t : Target). Starts old device (record { ticket = c.in-Ticket.ticket; disk = t.pp.disk; first = t.sector; count = c.count.result; write = c.is_write.result; buf = buf })) aim c.in-Ticket.ensures)
    (c.begin_data.ensures.core due.request due.there
    ∙ ap (λ (t : Target). record core { pool = pool; flying = core.flying ++ flown c.in-Ticket.ticket t.pp.disk (owner.Data due.request.request.id c.args.target) ∷ []; requests = slice_set core.requests c.args.place (begun_as c.args.target due.request) }) aim)
