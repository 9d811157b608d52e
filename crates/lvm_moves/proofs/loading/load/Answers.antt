use Rattle.std.proofs.Common.{◌+◌, length, slice_get, sym, ◌∙◌, ap, arith}
use Rattle.lvm_num.specs.Buffer.{Buffer}
use Rattle.lvm_num.proofs.Lists.{length_set}
use Rattle.lvm_vol.specs.Log.{blocks_of}
use Rattle.lvm_moves.proofs.SoundLemmas.{block_put}
use Rattle.lvm_moves.proofs.loading.load.Goals as goal

pub loop-k-preserved : goal.loop-k-preserved
loop-k-preserved c =
    let was = c.loop-k.invariant in
    let set = c.set_sector.ensures.set in
    record {
      number = ap (λ (b : Buffer). b.number) set ∙ was.number;
      long = ap (λ (b : Buffer). length b.sectors) set ∙ length_set c.loop-k.buf.sectors c.loop-k.k c.block.result.now ∙ was.long;
      blocks = block_put c.args.history.now.facts c.args.place c.loop-k.k c.loop-k.buf.sectors c.set_sector.new.self.sectors c.block.result.now (ap (λ (b : Buffer). b.sectors) set) (let test = c.loop-k-test.true in let most = c.requires.count in let long = was.long in omega (arith, test, most, long)) (ap (λ n. slice_get (blocks_of c.args.history.now.facts) (c.args.place + n)) (sym c.from.ensures) ∙ c.block.ensures) was.blocks;
    }
