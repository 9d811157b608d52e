use Rattle.std.proofs.Common.{slice_get, ap, ◌∙◌, arith}
use Rattle.lvm_num.specs.Buffer.{Buffer, zero_sector}
use Rattle.lvm_core.proofs.ZerosLemmas.Zeroing.{one_more}
use Rattle.lvm_core.proofs.zero.clear.Goals as goal

pub loop-k-preserved : goal.loop-k-preserved
loop-k-preserved c = record {
  number = ap (λ (b : Buffer). b.number) c.set_sector.ensures.set ∙ c.loop-k.invariant.number;
  zeros = λ i less. ap (λ (b : Buffer). slice_get b.sectors i) c.set_sector.ensures.set ∙ one_more c.loop-k.buf.sectors c.loop-k.k zero_sector (let e = c.set_sector.ensures.length in let f = c.loop-k-test.true in omega (arith, e, f)) c.loop-k.invariant.zeros i less;
}
