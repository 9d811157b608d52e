use Rattle.std.proofs.Common.{arith}
use Rattle.lvm_history.specs.Opened.{kept_of}
use Rattle.lvm_history.proofs.KeepingLemmas.{blocks_count}
use Rattle.lvm_history.proofs.history.History.block_count.Goals as goal

pub returns : goal.returns
returns c = omega (arith, blocks_count (kept_of c.self.inside) c.args.self.now c.self.invariant.kept c.self.view_is, c.self.inside.blocks.ok.0, c.len.ensures)
