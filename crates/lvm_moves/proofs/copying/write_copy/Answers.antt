use Rattle.std.proofs.Common.{false, Option, slice_set, sym, ◌∙◌, ap, subst}
use Rattle.lvm_num.specs.Buffer.{Buffer}
use Rattle.lvm_pbuf.specs.Out.{IsOut}
use Rattle.lvm_session.specs.declared.bringing.OpenCopy.{OpenCopy}
use Rattle.lvm_session.specs.Fields.{core_of}
use Rattle.lvm_session.specs.State.{state}
use Rattle.lvm_session.specs.Dark.{all_dark}
use Rattle.lvm_session.specs.Hands.{MayEnd}
use Rattle.lvm_moves.proofs.Starting.{dark_is, dark_written, hand_out, may_end_written}
use Rattle.lvm_moves.proofs.copying.write_copy.Goals as goal

pub end_dark-requires-clause-out : goal.end_dark-requires-clause-out
end_dark-requires-clause-out g c =
    let writes = c.requires.writes in
    let hand = c.take_hand.ensures writes.copy writes.is_open in
    subst (λ (b : Buffer). IsOut c.args.session.now.pool b.number) (sym c.in-Dark.ensures.0)
    (hand_out (core_of c.args.session.now) writes.copy c.requires.flight.going writes.is_open c.in-Some-take_hand.buf (sym hand.1 ∙ c.in-Some-take_hand.is))

pub end_dark-requires-clause-may : goal.end_dark-requires-clause-may
end_dark-requires-clause-may g c =
    let core = core_of c.args.session.now in
    let writes = c.requires.writes in
    let hand = c.take_hand.ensures writes.copy writes.is_open in
    subst (λ (b : Buffer). MayEnd (record core { pool = slice_set core.pool b.number false; copy = c.take_hand.new.copy })) (sym c.in-Dark.ensures.0)
    (subst (λ (m : Option OpenCopy). MayEnd (record core { pool = slice_set core.pool c.in-Some-take_hand.buf.number false; copy = m })) (sym hand.0)
    (may_end_written core writes.copy c.in-Some-take_hand.buf c.requires.flight.going writes.is_open (sym hand.1 ∙ c.in-Some-take_hand.is)))

pub returns-in-Dark-clause-gives : goal.returns-in-Dark-clause-gives
returns-in-Dark-clause-gives g c =
    let core = core_of c.args.session.now in
    let writes = c.requires.writes in
    let hand = c.take_hand.ensures writes.copy writes.is_open in
    dark_is (state (g.S.Shelf.device c.args.shelf.now) core) (g.S.Shelf.device c.start_write.new.self) (core_of c.end_dark.new.session) c.in-Dark.ensures.2 c.in-Dark.ensures.1
    (c.end_dark.ensures.core
    ∙ ap (λ (b : Buffer). all_dark (record core { pool = slice_set core.pool b.number false; copy = c.take_hand.new.copy })) c.in-Dark.ensures.0
    ∙ ap (λ (m : Option OpenCopy). all_dark (record core { pool = slice_set core.pool c.in-Some-take_hand.buf.number false; copy = m })) hand.0
    ∙ dark_written core writes.copy c.in-Some-take_hand.buf writes.is_open (sym hand.1 ∙ c.in-Some-take_hand.is))
