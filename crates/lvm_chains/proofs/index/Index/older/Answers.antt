use Rattle.std.proofs.Common.{◌≡◌, ◌+◌, ◌∙◌, ap, sym, arith, length}
use Rattle.std.proofs.lemmas.List.{get_or_default, length-map}
use Rattle.lvm_chains.specs.declared.index.Link.{Link}
use Rattle.lvm_chains.specs.Places.{Indexed, newest}
use Rattle.lvm_chains.specs.Linked.{no_link}
use Rattle.lvm_chains.proofs.LinkLemmas.{older_there}
use Rattle.lvm_chains.proofs.index.Index.older.Goals as goal

pub returns-then-place-among : goal.returns-then-place-among
returns-then-place-among c =
    let size = length-map c.self.inside.links.items (λ (l : Link). l.chain) in
    let shown = ap (λ (x : Indexed). length x.chains) c.self.view_is in
    older_there c.self.inside.links.items c.self.inside.heads.items c.args.chain c.args.among c.args.place c.index.result.now c.self.invariant.linked (omega (arith, size, shown, c.requires.among))
    (c.requires.place ∙ ap (λ (x : Indexed). newest c.args.chain x.chains (c.args.among + 1)) (sym c.self.view_is)) c.if-place-among.true
    (c.index.ensures ∙ get_or_default c.self.inside.links.items c.args.among c.index.result.now no_link (omega (arith, size, shown, c.requires.among)))
    ∙ ap (λ (x : Indexed). newest c.args.chain x.chains c.args.among) c.self.view_is
