use Rattle.std.proofs.Common.{ap, subst, arith}
use Rattle.lvm_due.proofs.AtPlaces.{stands}
use Rattle.lvm_due.specs.Due.{Covers, is_freed}
use Rattle.lvm_due.proofs.DueLemmas.Spanning.{covers_more, covers_none}
use Rattle.lvm_due.proofs.places.freed_by.Goals as goal

pub loop-place-init : goal.loop-place-init
loop-place-init c = covers_none (is_freed c.args.ask.now) c.args.session.now.requests.items c.all-span.result (ap (λ s. s.to) c.all-span.ensures)

pub loop-place-preserved : goal.loop-place-preserved
loop-place-preserved c =
    let items = c.args.session.now.requests.items in
    covers_more (is_freed c.args.ask.now) items c.loop-place.place c.index.result.now c.is_freed.result c.loop-place.span c.add_if.new.span
    (stands items c.loop-place.place c.index.result.now (omega (arith, c.loop-place-test.true, c.len-place-end.ensures)) c.index.ensures) c.is_freed.ensures c.add_if.ensures c.loop-place.invariant

pub returns : goal.returns
returns c = subst (λ n. Covers (is_freed c.args.ask.now) c.args.session.now.requests.items n c.loop-place.span) (omega (arith, c.loop-place-test.false, c.loop-place.auto, c.len-place-end.ensures)) c.loop-place.invariant
