use Rattle.std.proofs.Common.{false, slice_set, ◌∙◌, ap}
use Rattle.lvm_num.specs.Buffer.{Buffer}
use Rattle.lvm_mwc.specs.Cache.{Cached}
use Rattle.lvm_session.specs.Fields.{core_of}
use Rattle.lvm_session.specs.State.{state}
use Rattle.lvm_session.specs.Dark.{all_dark}
use Rattle.lvm_moves.proofs.OutLemmas.{may_end, pool_same}
use Rattle.lvm_moves.proofs.Starting.{dark_note, with_cache}
use Rattle.lvm_moves.proofs.noting.start_note.Goals as goal

pub end_dark-requires-clause-may : goal.end_dark-requires-clause-may
end_dark-requires-clause-may g c =
    let core = core_of c.args.session.now in
    let number = ap (λ (b : Buffer). b.number) c.in-Dark.ensures.0 ∙ c.put_note-buf.ensures.number in
    let back = ap (λ n. slice_set c.take_free-buf.new.pool n false) number ∙ pool_same core.pool c.take_free-buf.new.pool c.take_free-buf.result.number c.take_free-buf.ensures.taken in
    with_cache core c.put_note-buf.new.cache (slice_set c.take_free-buf.new.pool c.in-Dark.buf.number false) back (may_end core c.requires.may.flight.going)

pub returns-in-Dark-clause-gives : goal.returns-in-Dark-clause-gives
returns-in-Dark-clause-gives g c =
    let core = core_of c.args.session.now in
    let number = ap (λ (b : Buffer). b.number) c.in-Dark.ensures.0 ∙ c.put_note-buf.ensures.number in
    dark_note (state (g.S.Shelf.device c.args.shelf.now) core) (g.S.Shelf.device c.start_write.new.self) (core_of c.end_dark.new.session) c.args.disk c.take_free-buf.new.pool c.take_free-buf.result.number c.take_free-buf.ensures.taken
    c.in-Dark.ensures.2 c.in-Dark.ensures.1
    (c.end_dark.ensures.core ∙ ap (λ n. all_dark (record core { pool = slice_set c.take_free-buf.new.pool n false; cache = c.put_note-buf.new.cache })) number
    ∙ ap (λ (k : Cached). all_dark (record core { pool = slice_set c.take_free-buf.new.pool c.take_free-buf.result.number false; cache = k })) c.put_note-buf.ensures.cache)
