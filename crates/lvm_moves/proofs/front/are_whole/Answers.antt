use Rattle.std.proofs.Common.{◌≡◌, ℕ, List, Option, length, slice_get, sym, subst, arith, below_more}
use Rattle.std.specs.Prelude.{IsSomeAnd}
use Rattle.lvm_moves.proofs.front.are_whole.Goals as goal

pub loop-k-preserved : goal.loop-k-preserved
loop-k-preserved c =
    let one : length c.sector.result.now ≡ 512 = omega arith in
    below_more (λ (k : ℕ). IsSomeAnd (slice_get c.args.buf.now.sectors k) (λ (sector : List ℕ). length sector ≡ 512)) c.loop-k.k c.loop-k.invariant
    (subst (λ (m : Option (List ℕ)). IsSomeAnd m (λ (sector : List ℕ). length sector ≡ 512)) (sym c.sector.ensures) one)
