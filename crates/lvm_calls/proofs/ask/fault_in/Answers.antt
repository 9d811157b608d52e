use Rattle.std.proofs.Common.{arith}
use Rattle.lvm_calls.proofs.ask.fault_in.Goals as goal

pub overflow_cast-result : goal.overflow_cast-result
overflow_cast-result c = let few = c.requires.fitting.table in let most = c.requires.fitting.most in let all = c.len-held.ensures in omega (arith, few, most, all)
