use Rattle.std.proofs.Common.{◌≡◌, ◌*◌, length, take, arith}
use Rattle.std.specs.Prelude.{flat_map}
use Rattle.std.specs.Int.{w16, to_be_bytes}
use Rattle.lvm_vgsa.proofs.PuttingLemmas.{puts_more}
use Rattle.lvm_vgsa.proofs.StatusBytesLemmas.Sizes.{size-numbers}
use Rattle.lvm_vgsa.proofs.writing.put_numbers.Goals as goal

pub loop-number-preserved : goal.loop-number-preserved
loop-number-preserved c =
    let size : length (flat_map (to_be_bytes w16) (take c.loop-number.number-index c.args.numbers.now)) ≡ 2 * c.loop-number.number-index = size-numbers c.args.numbers.now c.loop-number.number-index (omega arith) in (
      omega (arith, c.put-end.ensures.end, c.loop-number.invariant.0),
      puts_more (to_be_bytes w16) c.args.numbers.now c.loop-number.number-index 0 c.args.into.now c.loop-number.into c.put-end.new.into c.args.at c.loop-number.end c.number_bytes.result
          (omega arith) c.loop-number.invariant.1 c.put-end.ensures.puts c.number_bytes.ensures (omega (arith, size, c.loop-number.invariant.0)) (omega (arith, c.loop-number.invariant.0, c.requires)),
    )
