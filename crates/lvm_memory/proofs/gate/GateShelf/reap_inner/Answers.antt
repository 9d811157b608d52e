use Rattle.std.proofs.Common.{refl}
use Rattle.lvm_memory.specs.Memory.{bench_of}
use Rattle.lvm_memory.proofs.GateLemmas.{holds_still, keeps_back}
use Rattle.lvm_memory.proofs.gate.GateShelf.reap_inner.Goals as goal

pub returns-in_default : goal.returns-in_default
returns-in_default c = record {
  gives = c.reap.ensures.gives;
  kept = keeps_back c.args.self.now.gate (bench_of c.args.self.now.inner) (bench_of c.reap.new.self) c.reap.result c.reap.ensures.planned;
  gate = holds_still c.args.self.now.gate 1 c.reap.result;
  left = refl;
}
