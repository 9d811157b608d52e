use Rattle.std.proofs.Common.{List, ◌∙◌, ap, arith}
use Rattle.lvm_path.specs.declared.target.Target.{Target}
use Rattle.lvm_path.specs.Asks.{lv_of}
use Rattle.lvm_session.specs.Fields.{core_of}
use Rattle.lvm_session.specs.State.{state}
use Rattle.lvm_session.specs.Events.{admitted_as, last_after, makes_dirty}
use Rattle.lvm_due.proofs.passed.Due.{numbered}
use Rattle.lvm_due.proofs.Nexts.{one}
use Rattle.lvm_due.proofs.AtPlaces.{read_same, stands}
use Rattle.lvm_moves.proofs.EventsLemmas.{admission_is}
use Rattle.lvm_moves.proofs.admit.admit_at.Goals as goal

pub set_last-requires : goal.set_last-requires
set_last-requires g c =
    let core = core_of c.args.session.now in
    let o = c.index-open.result.now in
    let there = stands core.requests c.args.place o c.requires.there c.index-open.ensures in
    let within = (one core c.requires.may.going c.args.place o there).laid.within in
    let number = (numbered core.descriptor (lv_of o.request.ask) within.row c.requires.may.going.fitting.valid within.volume).1 in
    let lv = c.lv.ensures in
    omega (arith, number, lv)

pub want_dirty_if-requires : goal.want_dirty_if-requires
want_dirty_if-requires g c =
    let core = core_of c.args.session.now in
    let o = c.index-open.result.now in
    let there = stands core.requests c.args.place o c.requires.there c.index-open.ensures in
    let within = (one core c.requires.may.going c.args.place o there).laid.within in
    let number = numbered core.descriptor (lv_of o.request.ask) within.row c.requires.may.going.fitting.valid within.volume in
    let least = number.0 in
    let most = number.1 in
    let lv = c.lv-2.ensures in
    record { least = omega (arith, least, lv); most = omega (arith, most, lv) }

pub returns-clause-admits : goal.returns-clause-admits
returns-clause-admits g c =
    let core = core_of c.args.session.now in
    let o = c.index-open.result.now in
    let there = stands core.requests c.args.place o c.requires.there c.index-open.ensures in
    admission_is (state (g.S.Shelf.device c.args.shelf.now) core) c.args.place o there (c.requires.admits o there) c.index_mut.result.now c.admit_open.new.open c.policy_of-policy.result c.mode_of-mode.result
    c.choose-chosen.result.targets.items c.choose-chosen.result.order.items c.makes_dirty-dirty.result c.lv.result c.lv-2.result c.unpin.new.cache c.set_last.new.last c.want_dirty_if.new.updater
    (read_same core.requests c.args.place _ o there c.index_mut.ensures.value) c.policy_of-policy.ensures c.mode_of-mode.ensures c.lv.ensures c.lv-2.ensures c.choose-chosen.ensures.chosen
    (c.makes_dirty-dirty.ensures ∙ ap (λ (ts : List Target). makes_dirty core o.request.ask ts) c.deref.ensures.0) c.want_dirty_if.ensures
    (c.admit_open.ensures ∙ ap (λ (ts : List Target). admitted_as c.policy_of-policy.result c.mode_of-mode.result ts c.index_mut.result.now) c.deref-3.ensures.0) c.unpin.ensures
    (c.set_last.ensures ∙ ap (last_after core.last c.lv.result) c.deref-2.ensures.0)
