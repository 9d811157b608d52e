use Rattle.std.proofs.Common.{get_or, arith}
use Rattle.std.proofs.lemmas.List.Elements.{All-more}
use Rattle.lvm_num.specs.Status.{IsVolumeNumber}
use Rattle.lvm_num.proofs.Pairs.{rises-more}
use Rattle.lvm_num.proofs.valid.are_dirty.Goals as goal
use Rattle.lvm_num.proofs.valid.are_dirty.Goals.{else-k-gt0-via-then-k-gt0+else-numbers-k, else-k-gt0-via-else-k-gt0}

pub loop-k-preserved : goal.loop-k-preserved
loop-k-preserved c =
    let numbers = c.args.numbers.now in
    let k = c.loop-k.k in
    let here : IsVolumeNumber (get_or numbers k 0) = record { least = omega arith; most = omega arith } in
    record {
      each = All-more IsVolumeNumber numbers k 0 (omega arith) c.loop-k.invariant.each here;
      numbers_rise = rises-more (λ n. n) numbers k 0 (omega arith) c.loop-k.invariant.numbers_rise
          (λ some. elim c.else-k-gt0.branch [
            | else-k-gt0-via-then-k-gt0+else-numbers-k w ↦ omega arith
            | else-k-gt0-via-else-k-gt0 w ↦ absurd (omega (arith, w.if-k-gt0.false, some))
          ]);
    }
