use Rattle.std.proofs.Common.{◌≡◌, ◌++◌, ◌∷◌, [], Some, ap, arith}
use Rattle.std.proofs.lemmas.Grind.{common_steps}
use Rattle.lvm_num.specs.Buffer.{Buffer}
use Rattle.lvm_pbuf.proofs.PlacesLemmas.{fresh_more}
use Rattle.lvm_pbuf.proofs.pool.Pool.new.Goals as goal

pub loop-number-preserved : goal.loop-number-preserved
loop-number-preserved c =
    let items : c.push.new.self.items ≡ c.loop-number.places.items ++ Some c.in_ok-buf.buf ∷ [] = grind (arith, common_steps) in
    let its : c.in_ok-buf.buf.number ≡ c.loop-number.number = ap (λ (b : Buffer). b.number) c.in_ok-buf.ensures in
    rw items (fresh_more c.loop-number.places.items c.loop-number.number c.in_ok-buf.buf its c.loop-number.invariant)
