use Rattle.lvm_memory.proofs.MediaLemmas.Laying.{keeps-set}
use Rattle.lvm_memory.proofs.row.land_flight.Goals as goal

pub returns-clause-disks : goal.returns-clause-disks
returns-clause-disks c = keeps-set c.args.disks.now.items c.args.flying.now.disk c.index_mut.result.now c.put.new.self c.index_mut.ensures.value c.put.ensures.long c.put.ensures.sectors c.requires.sectors
