use Rattle.std.proofs.Common.{refl}
use Rattle.lvm_calls.proofs.open.call_stale.Goals as goal

pub mark-requires-clause-row : goal.mark-requires-clause-row
mark-requires-clause-row c = c.requires.row

pub mark-requires-clause-partition : goal.mark-requires-clause-partition
mark-requires-clause-partition c = c.requires.partition

pub returns-clause-called : goal.returns-clause-called
returns-clause-called c = record {
  table = record { members = c.mark.ensures.members; stale = c.mark.ensures.stale; missing = c.mark.ensures.missing; dirty = c.mark.ensures.dirty };
  faults = refl;
}
