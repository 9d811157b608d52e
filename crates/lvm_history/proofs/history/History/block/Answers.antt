use Rattle.std.proofs.Common.{ℕ, ◌<◌, List, length, Some, sym, ap, ◌∙◌, arith, slice_get}
use Rattle.std.proofs.lemmas.Option.{slice_get-get_or}
use Rattle.lvm_history.specs.Opened.{kept_of}
use Rattle.lvm_history.proofs.KeepingLemmas.{blocks_count, blocks_kept}
use Rattle.lvm_history.proofs.history.History.block.Goals as goal

pub index-requires : goal.index-requires
index-requires c = omega (arith, c.requires, blocks_count (kept_of c.self.inside) c.args.self.now c.self.invariant.kept c.self.view_is, c.self.inside.blocks.ok.0)

pub returns : goal.returns
returns c =
    let within : c.args.place < length c.self.inside.blocks.items = omega (arith, c.requires, blocks_count (kept_of c.self.inside) c.args.self.now c.self.invariant.kept c.self.view_is) in
    ap (λ (l : List (List ℕ)). slice_get l c.args.place) (sym (blocks_kept (kept_of c.self.inside) c.args.self.now c.self.invariant.kept c.self.view_is))
    ∙ slice_get-get_or c.self.inside.blocks.items c.args.place c.index.result.now within
    ∙ ap (λ (x : List ℕ). Some x) (sym c.index.ensures)
