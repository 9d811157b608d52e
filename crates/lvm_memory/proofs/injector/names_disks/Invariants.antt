use Rattle.std.proofs.Common.{drop}
use Rattle.lvm_memory.specs.Injection.{NamesDisks}
use Rattle.lvm_memory.proofs.injector.names_disks.Given as goal

abbrev pub invariant-loop-planned : goal.invariant-loop-planned
invariant-loop-planned l = (NamesDisks l.disks (drop l.planned-index l.plan) → NamesDisks l.disks l.plan) × (NamesDisks l.disks l.plan → NamesDisks l.disks (drop l.planned-index l.plan))
