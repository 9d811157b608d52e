use Rattle.lvm_memory.specs.Injection.{next_call}
use Rattle.lvm_memory.proofs.InjectionLemmas.{DoneSoFar}
use Rattle.lvm_memory.proofs.injector.Injector.begin.Given as goal

abbrev pub invariant-loop-i : goal.invariant-loop-i
invariant-loop-i l = DoneSoFar l.fn.self.plan (next_call l.fn.self) (record l.fn.self { calls = next_call l.fn.self }) l.self l.cut l.i
