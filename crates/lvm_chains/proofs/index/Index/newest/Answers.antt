use Rattle.std.proofs.Common.{◌≡◌, ◌-◌, ◌<◌, ◌∙◌, ℕ, ap, sym, arith, length}
use Rattle.std.proofs.lemmas.List.{get_or_default, length-map}
use Rattle.lvm_chains.specs.declared.index.Link.{Link}
use Rattle.lvm_chains.specs.Places.{Indexed, newest}
use Rattle.lvm_chains.specs.Linked.{chains_of, no_link}
use Rattle.lvm_chains.proofs.LinkLemmas.{IsReached, begins_at_head, ends_there, place_few, goes_back}
use Rattle.lvm_chains.proofs.index.Index.newest.Goals as goal

pub index-place-requires : goal.index-place-requires
index-place-requires c = omega (arith, c.requires.chain, c.self.invariant.linked.count, c.self.inside.heads.ok.0)

pub loop-place-init : goal.loop-place-init
loop-place-init c =
    let size = length-map c.self.inside.links.items (λ (l : Link). l.chain) in
    let shown = ap (λ (x : Indexed). length x.chains) c.self.view_is in
    let count = c.self.invariant.linked.count in
    begins_at_head c.self.inside.links.items c.self.inside.heads.items c.args.chain c.args.among c.index-place.result.now c.self.invariant.linked c.requires.chain (omega (arith, size, shown, c.requires.among))
    (c.index-place.ensures ∙ get_or_default c.self.inside.heads.items c.args.chain c.index-place.result.now 0 (omega (arith, c.requires.chain, count)))

pub index-requires : goal.index-requires
index-requires c =
    let few = place_few (chains_of c.self.inside.links.items) c.args.chain c.args.among c.loop-place.place c.loop-place.invariant in
    let size = length-map c.self.inside.links.items (λ (l : Link). l.chain) in
    omega (arith, few, size, c.loop-place-test.true, c.self.inside.links.ok.0)

back : (c : goal.After-index) → IsReached (chains_of c.self.inside.links.items) c.args.chain c.args.among c.index.result.now.before × (c.index.result.now.before < c.loop-place.place)
back c =
    let few = place_few (chains_of c.self.inside.links.items) c.args.chain c.args.among c.loop-place.place c.loop-place.invariant in
    let size = length-map c.self.inside.links.items (λ (l : Link). l.chain) in
    goes_back c.self.inside.links.items c.self.inside.heads.items c.args.chain c.args.among c.loop-place.place c.index.result.now c.self.invariant.linked c.loop-place.invariant c.loop-place-test.true
    (c.index.ensures ∙ get_or_default c.self.inside.links.items (c.loop-place.place - 1) c.index.result.now no_link (omega (arith, few, size, c.loop-place-test.true)))

pub loop-place-smaller : goal.loop-place-smaller
loop-place-smaller c = (back c).1

pub loop-place-preserved : goal.loop-place-preserved
loop-place-preserved c = (back c).0

pub returns : goal.returns
returns c = ends_there (chains_of c.self.inside.links.items) c.args.chain c.args.among c.loop-place.place c.loop-place.invariant (omega (arith, c.loop-place-test.false))
    ∙ ap (λ (x : Indexed). newest c.args.chain x.chains c.args.among) c.self.view_is
