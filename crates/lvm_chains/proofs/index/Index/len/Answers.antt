use Rattle.std.proofs.Common.{arith}
use Rattle.lvm_chains.proofs.index.Index.len.Goals as goal

pub overflow_cast-result : goal.overflow_cast-result
overflow_cast-result c = omega (arith, c.self.invariant.few, c.self.invariant.small, c.self.inside.links.ok.0, c.len.ensures)
