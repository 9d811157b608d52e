use Rattle.std.proofs.Common.{true}
use Rattle.lvm_memory.specs.Memory.{bench_of}
use Rattle.lvm_memory.proofs.BenchLemmas.{prompt_started}
use Rattle.lvm_memory.proofs.memory.MemShelfShelf.start_write.Goals as goal

pub returns-clause-prompt : goal.returns-clause-prompt
returns-clause-prompt c = prompt_started (bench_of c.args.self.now) (bench_of c.start.new.self) _ true c.start.result c.start.ensures.planned
