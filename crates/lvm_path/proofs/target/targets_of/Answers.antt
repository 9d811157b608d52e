use Rattle.std.proofs.Common.{take, length, arith}
use Rattle.lvm_path.proofs.TargetsLemmas.{targets_fit}
use Rattle.lvm_path.proofs.target.targets_of.Goals as goal

pub push-requires : goal.push-requires
push-requires c = let fit = targets_fit c.args.targets.now c.loop-target.target-index in let test = c.loop-target-test.true in let all = c.requires in rw c.loop-target.invariant (omega (arith, fit, test, all))
