use Rattle.std.proofs.Common.{◌≤◌, ◌∙◌, ap, arith}
use Rattle.lvm_mwc.specs.Cache.{after_pin, pin_answer}
use Rattle.lvm_path.specs.Asks.{lv_of}
use Rattle.lvm_path.specs.Next.{with_pin}
use Rattle.lvm_session.specs.declared.open.Open.{Open}
use Rattle.lvm_session.specs.Fields.{core_of}
use Rattle.lvm_due.proofs.Nexts.{one}
use Rattle.lvm_due.proofs.AtPlaces.{read_same, stands}
use Rattle.lvm_moves.proofs.PinningLemmas.{numbered, pins_so, stays_so, may_not}
use Rattle.lvm_moves.proofs.pins.pin_group.Goals as goal

pub pin-requires-clause-volume : goal.pin-requires-clause-volume
pin-requires-clause-volume c zero =
    let core = core_of c.args.session.now in
    let o = c.index.result.now in
    let there = stands c.args.session.now.requests.items c.args.place o c.requires.there c.index.ensures in
    let laid = (one core c.requires.going c.args.place o there).laid in
    let some : 1 ≤ lv_of o.request.ask = numbered core.descriptor (lv_of o.request.ask) laid.within.row c.requires.going.fitting.valid laid.within.volume in
    let lv = c.lv.ensures in
    absurd (omega (arith, some, lv, zero))

pub returns-in-AllPinned-clause-at : goal.returns-in-AllPinned-clause-at
returns-in-AllPinned-clause-at c =
    let core = core_of c.args.session.now in
    let o = c.index.result.now in
    let there = stands c.args.session.now.requests.items c.args.place o c.requires.there c.index.ensures in
    let answers = c.pin.ensures.answer ∙ ap (λ n. pin_answer core.cache n c.group_of.result) c.lv.ensures ∙ ap (λ n. pin_answer core.cache (lv_of o.request.ask) n) c.group_of.ensures in
    let becomes = c.pin.ensures.cache ∙ ap (λ n. after_pin core.cache n c.group_of.result) c.lv.ensures ∙ ap (λ n. after_pin core.cache (lv_of o.request.ask) n) c.group_of.ensures in (
      stays_so core c.args.place o there (c.requires.pins o there) c.pin.new.self c.pin.result answers becomes c.in-AllPinned.is,
      may_not core c.args.place o there (c.requires.pins o there) c.pin.new.self c.pin.result answers becomes c.in-AllPinned.is,
    )

pub returns-in-Pinned-clause-at : goal.returns-in-Pinned-clause-at
returns-in-Pinned-clause-at c =
    let core = core_of c.args.session.now in
    let os = c.args.session.now.requests.items in
    let o = c.index.result.now in
    let there = stands os c.args.place o c.requires.there c.index.ensures in
    let answers = c.pin.ensures.answer ∙ ap (λ n. pin_answer core.cache n c.group_of.result) c.lv.ensures ∙ ap (λ n. pin_answer core.cache (lv_of o.request.ask) n) c.group_of.ensures in
    let becomes = c.pin.ensures.cache ∙ ap (λ n. after_pin core.cache n c.group_of.result) c.lv.ensures ∙ ap (λ n. after_pin core.cache (lv_of o.request.ask) n) c.group_of.ensures in
    let same = read_same os c.args.place c.index_mut.result.now o there c.index_mut.ensures.value in
    pins_so core c.args.place o there (c.requires.pins o there) c.pin.new.self c.pin.result answers becomes c.in-Pinned.is c.pin_open.new.open
    (c.pin_open.ensures ∙ ap (λ (x : Open). record x { request = with_pin x.request }) same)
