use Rattle.std.proofs.Common.{◌∷◌, [], ◌++◌, List, ℕ, take, append_assoc, sym, ◌∙◌, ap, arith}
use Rattle.lvm_raw.proofs.Fronts.{front_more, within}
use Rattle.lvm_raw.proofs.blocks.keep_front.Goals as goal

pub loop-k-preserved : goal.loop-k-preserved
loop-k-preserved c =
    let k = c.loop-k.k in
    let sectors = c.args.buf.now.sectors in
    let was = c.loop-k.invariant in
    let before = c.args.blocks.now.items in
    let x = c.sector.result.now in
    record {
      items = c.in-Ok.ensures.items ∙ ap (λ (l : List (List ℕ)). l ++ x ∷ []) was.items ∙ append_assoc before (take k sectors) (x ∷ []) ∙ ap (λ (l : List (List ℕ)). before ++ l) (sym (front_more sectors k x c.sector.ensures));
      long = within sectors k x c.sector.ensures;
      len = omega (arith, c.in-Ok.ensures.len, was.len);
      room = omega (arith, c.in-Ok.ensures.capacity, was.room);
    }
