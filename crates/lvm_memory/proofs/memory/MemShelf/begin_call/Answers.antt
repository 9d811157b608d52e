use Rattle.lvm_memory.proofs.SoundLemmas.{sound_begun}
use Rattle.lvm_memory.proofs.HeedsLemmas.{begun_unplanned}
use Rattle.lvm_memory.proofs.memory.MemShelf.begin_call.Goals as goal

pub invariant_of-self : goal.invariant_of-self
invariant_of-self c = record { sound = sound_begun _ _ _ _ _ _ _ _ _ c.args.self.now.sound c.begin.ensures.begun; delays = c.args.self.now.delays; heeding = λ heeds. begun_unplanned _ _ _ c.begin.ensures.begun (c.args.self.now.heeding heeds) }
