use Rattle.lvm_memory.proofs.MediaLemmas.Laying.{keeps-set}
use Rattle.lvm_memory.proofs.row.tear_flight.Goals as goal

pub returns-then-flying-clause-disks : goal.returns-then-flying-clause-disks
returns-then-flying-clause-disks c = keeps-set c.args.disks.now.items c.args.flying.now.disk c.index_mut.result.now c.put_some.new.self c.index_mut.ensures.value c.put_some.ensures.long c.put_some.ensures.sectors c.requires.sectors
