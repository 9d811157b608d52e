use Rattle.std.proofs.Common.{◌≡◌, ◌+◌, ◌∙◌, ◌++◌, [], ◌∷◌, ℕ, suc, List, ap, sym, subst, arith, length, length-append}
use Rattle.std.specs.Prelude.{slice_set}
use Rattle.std.proofs.lemmas.List.{get_or_default, length-map}
use Rattle.lvm_chains.specs.declared.index.Link.{Link}
use Rattle.lvm_chains.specs.Places.{Indexed}
use Rattle.lvm_chains.specs.Linked.{AreLinked}
use Rattle.lvm_chains.proofs.LinkLemmas.{linked_more}
use Rattle.lvm_chains.proofs.index.Index.add.Goals as goal

pub invariant_of-self : goal.invariant_of-self
invariant_of-self c =
    let size = length-map c.self.inside.links.items (λ (l : Link). l.chain) in
    let shown = ap (λ (x : Indexed). length x.chains) c.self.view_is in
    let room = ap (λ (x : Indexed). x.room) c.self.view_is in
    let count = c.self.invariant.linked.count in
    let place : suc (length c.self.inside.links.items) ≡ c.len.result = omega (arith, c.len.ensures, c.append.ensures.len, c.self.inside.links.ok.0) in
    record {
      linked = rw c.append.ensures.items
          (subst (λ (n : ℕ). AreLinked (c.self.inside.links.items ++ record { chain = c.args.chain; before = c.index-before.result.now } ∷ []) (slice_set c.self.inside.heads.items c.args.chain n)) place
          (linked_more c.self.inside.links.items c.self.inside.heads.items c.args.chain c.index-before.result.now c.self.invariant.linked c.requires.chain
          (c.index-before.ensures ∙ get_or_default c.self.inside.heads.items c.args.chain c.index-before.result.now 0 (omega (arith, c.requires.chain, count)))));
      few = let n = ap (λ (l : List Link). length l) c.append.ensures.items in let m = length-append c.self.inside.links.items (record { chain = c.args.chain; before = c.index-before.result.now } ∷ []) in omega (arith, n, m, size, shown, room, c.requires.room);
      small = c.self.invariant.small;
      links_fit = c.append.ensures.capacity ∙ c.self.invariant.links_fit;
      steps_fit = c.self.invariant.steps_fit;
    }
