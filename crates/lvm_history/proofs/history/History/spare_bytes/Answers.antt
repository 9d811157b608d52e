use Rattle.std.proofs.Common.{ap, arith}
use Rattle.lvm_history.specs.passed.Vol.{Log}
use Rattle.lvm_history.specs.Opened.{kept_of}
use Rattle.lvm_history.proofs.KeepingLemmas.{blocks_count}
use Rattle.lvm_history.proofs.history.History.spare_bytes.Goals as goal

pub returns : goal.returns
returns c =
    let bytes = ap (λ (x : Log). x.bytes) c.self.view_is in
    omega (arith, bytes, blocks_count (kept_of c.self.inside) c.args.self.now c.self.invariant.kept c.self.view_is, c.self.inside.blocks.ok.0, c.len.ensures)
