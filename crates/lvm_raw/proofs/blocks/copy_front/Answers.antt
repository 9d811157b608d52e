use Rattle.std.proofs.Common.{◌≡◌, ◌∷◌, [], ◌++◌, List, ℕ, length, length-append, sym, ◌∙◌, ap, arith, ◌+◌}
use Rattle.std.specs.Simd.{first_chunks}
use Rattle.lvm_raw.proofs.Fronts.{front_more, within, chunks_more}
use Rattle.lvm_raw.proofs.blocks.copy_front.Goals as goal

pub loop-k-preserved : goal.loop-k-preserved
loop-k-preserved c =
    let k = c.loop-k.k in
    let sectors = c.args.buf.now.sectors in
    let was = c.loop-k.invariant in
    let e = c.append.ensures.items in
    let one : length c.sector.result.now ≡ 512 = omega arith in
    record {
      blocks = ap (first_chunks 512 (k + 1)) e ∙ chunks_more k c.loop-k.bytes.items c.sector.result.now was.size one ∙ ap (λ (l : List (List ℕ)). l ++ c.sector.result.now ∷ []) was.blocks ∙ sym (front_more sectors k c.sector.result.now c.sector.ensures);
      size = omega (arith, ap (length {A = ℕ}) e, length-append c.loop-k.bytes.items c.sector.result.now, was.size, one);
      len = omega (arith, c.append.ensures.len, was.len);
      long = within sectors k c.sector.result.now c.sector.ensures;
      room = omega (arith, c.append.ensures.room, was.room);
    }
