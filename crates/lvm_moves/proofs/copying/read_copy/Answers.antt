use Rattle.std.proofs.Common.{List, Bool, false, slice_set, sym, ◌∙◌, ap, subst}
use Rattle.lvm_num.specs.Buffer.{Buffer}
use Rattle.lvm_disk.specs.Steps.{IsRange}
use Rattle.lvm_pbuf.specs.Out.{IsOut}
use Rattle.lvm_session.specs.Fields.{core_of}
use Rattle.lvm_session.specs.State.{state}
use Rattle.lvm_session.specs.Dark.{all_dark}
use Rattle.lvm_session.specs.Hands.{MayEnd}
use Rattle.lvm_moves.proofs.OutLemmas.{is_taken, may_end, pool_same}
use Rattle.lvm_moves.proofs.Starting.{dark_after, next_is, read_starts}
use Rattle.lvm_moves.proofs.copying.read_copy.Goals as goal

pub start_read-requires-clause-range : goal.start_read-requires-clause-range
start_read-requires-clause-range g c =
    let reads = c.requires.reads in
    let it = next_is (core_of c.args.session.now) reads.copy c.in-Some.source c.in-Some.first (c.in-Some.ensures reads.copy reads.is_open) in
    subst (λ n. IsRange (g.S.Shelf.device c.args.shelf.now) c.in-Some.source.disk n 256) (sym it.1) (reads.range c.in-Some.source it.0)

pub end_dark-requires-clause-out : goal.end_dark-requires-clause-out
end_dark-requires-clause-out g c =
    subst (λ (b : Buffer). IsOut c.take_free-buf.new.pool b.number) (sym c.in-Dark.ensures.0) (is_taken c.args.session.now.pool c.take_free-buf.new.pool c.take_free-buf.result.number c.take_free-buf.ensures.taken)

pub end_dark-requires-clause-may : goal.end_dark-requires-clause-may
end_dark-requires-clause-may g c =
    let core = core_of c.args.session.now in
    let back = ap (λ (b : Buffer). slice_set c.take_free-buf.new.pool b.number false) c.in-Dark.ensures.0 ∙ pool_same core.pool c.take_free-buf.new.pool c.take_free-buf.result.number c.take_free-buf.ensures.taken in
    subst (λ (p : List Bool). MayEnd (record core { pool = p })) (sym back) (may_end core c.requires.may.flight.going)

pub returns-in-Dark-clause-gives : goal.returns-in-Dark-clause-gives
returns-in-Dark-clause-gives g c =
    let core = core_of c.args.session.now in
    dark_after (state (g.S.Shelf.device c.args.shelf.now) core) (g.S.Shelf.device c.start_read.new.self) (core_of c.end_dark.new.session) c.take_free-buf.new.pool c.take_free-buf.result.number c.take_free-buf.ensures.taken
    c.in-Dark.ensures.2 c.in-Dark.ensures.1 (c.end_dark.ensures.core ∙ ap (λ (b : Buffer). all_dark (record core { pool = slice_set c.take_free-buf.new.pool b.number false })) c.in-Dark.ensures.0)

pub returns-in-Ticket-clause-gives : goal.returns-in-Ticket-clause-gives
returns-in-Ticket-clause-gives g c =
    let reads = c.requires.reads in
    let it = next_is (core_of c.args.session.now) reads.copy c.in-Some.source c.in-Some.first (c.in-Some.ensures reads.copy reads.is_open) in
    read_starts (state (g.S.Shelf.device c.args.shelf.now) (core_of c.args.session.now)) (g.S.Shelf.device c.start_read.new.self) reads.copy reads.is_open c.in-Some.source c.in-Some.first c.in-Ticket.ticket
    c.take_free-buf.result c.take_free-buf.new.pool (core_of c.begin_read.new.session) reads.may it.0 it.1 c.take_free-buf.ensures.long c.take_free-buf.ensures.taken c.in-Ticket.ensures (c.begin_read.ensures.core reads.copy reads.is_open)
