use Rattle.std.proofs.Common.{false, slice_set, sym, ◌∙◌, ap, subst}
use Rattle.lvm_num.specs.Buffer.{Buffer}
use Rattle.lvm_pbuf.specs.Out.{IsOut}
use Rattle.lvm_session.specs.Fields.{core_of}
use Rattle.lvm_session.specs.State.{state}
use Rattle.lvm_session.specs.Dark.{all_dark}
use Rattle.lvm_moves.proofs.OutLemmas.{is_taken, may_end, pool_same}
use Rattle.lvm_moves.proofs.Writes.{dark_status, differs, is_there, its_range, on_shelf, says, some_left, with_status}
use Rattle.lvm_moves.proofs.start.start_status.Goals as goal

pub next_disk-requires-clause-differs : goal.next_disk-requires-clause-differs
next_disk-requires-clause-differs g c = differs (core_of c.args.session.now) c.requires.status.due

pub unreachable-requires : goal.unreachable-requires
unreachable-requires g c = some_left (core_of c.args.session.now) c.requires.may.flight.going c.requires.status.due c.requires.status.votes c.next_disk.new.updater c.in_default.ensures

pub is_second-requires : goal.is_second-requires
is_second-requires g c =
    let core = core_of c.args.session.now in
    let going = c.requires.may.flight.going in
    (on_shelf (g.S.Shelf.device c.args.shelf.now) core going c.requires.status c.in-Some.disk (is_there core going c.requires.status.due c.requires.status.votes c.next_disk.new.updater c.in-Some.disk c.in-Some.ensures)).small

pub start_write-requires-clause-range : goal.start_write-requires-clause-range
start_write-requires-clause-range g c =
    let core = core_of c.args.session.now in
    let device = g.S.Shelf.device c.args.shelf.now in
    let going = c.requires.may.flight.going in
    let on = on_shelf device core going c.requires.status c.in-Some.disk (is_there core going c.requires.status.due c.requires.status.votes c.next_disk.new.updater c.in-Some.disk c.in-Some.ensures) in
    its_range device c.in-Some.disk c.slot_start-first.result c.put_status-count.result.0 c.is_second.result on c.slot_start-first.ensures c.put_status-count.ensures.few.0 c.put_status-count.ensures.few.1

pub end_dark-requires-clause-out : goal.end_dark-requires-clause-out
end_dark-requires-clause-out g c =
    let number = ap (λ (b : Buffer). b.number) c.in-Dark.ensures.0 ∙ c.put_status-count.ensures.number in
    subst (λ n. IsOut c.take_free-buf.new.pool n) (sym number) (is_taken c.args.session.now.pool c.take_free-buf.new.pool c.take_free-buf.result.number c.take_free-buf.ensures.taken)

pub end_dark-requires-clause-may : goal.end_dark-requires-clause-may
end_dark-requires-clause-may g c =
    let core = core_of c.args.session.now in
    let number = ap (λ (b : Buffer). b.number) c.in-Dark.ensures.0 ∙ c.put_status-count.ensures.number in
    let back = ap (λ n. slice_set c.take_free-buf.new.pool n false) number ∙ pool_same core.pool c.take_free-buf.new.pool c.take_free-buf.result.number c.take_free-buf.ensures.taken in
    with_status core c.next_disk.new.updater (slice_set c.take_free-buf.new.pool c.in-Dark.buf.number false) back (may_end core c.requires.may.flight.going)

pub returns-in-Dark-clause-gives : goal.returns-in-Dark-clause-gives
returns-in-Dark-clause-gives g c =
    let core = core_of c.args.session.now in
    let number = ap (λ (b : Buffer). b.number) c.in-Dark.ensures.0 ∙ c.put_status-count.ensures.number in
    dark_status (state (g.S.Shelf.device c.args.shelf.now) core) (g.S.Shelf.device c.start_write.new.self) (core_of c.end_dark.new.session) c.next_disk.new.updater c.take_free-buf.new.pool c.take_free-buf.result.number
    c.take_free-buf.ensures.taken c.in-Dark.ensures.2 c.in-Dark.ensures.1 (says core.status c.next_disk.new.updater c.in-Some.disk c.in-Some.ensures)
    (c.end_dark.ensures.core ∙ ap (λ n. all_dark (record core { pool = slice_set c.take_free-buf.new.pool n false; status = c.next_disk.new.updater })) number)
