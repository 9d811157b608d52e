use Rattle.lvm_invariant.proofs.WorkedLemmas.Writes.{each_mode_writes, records_go_out, write_ends}
use Rattle.lvm_invariant.proofs.WorkedLemmas.Reads.{read_ends, copy_is_brought_up, disks_are_lost, cut_meets_write, earlier_is_taken}
use Rattle.lvm_invariant.proofs.laws.sessions_are_met.Goals as goal

pub returns : goal.returns
returns c = record {
  writes = each_mode_writes;
  records = records_go_out;
  write_ends = write_ends;
  reads = read_ends;
  copies = copy_is_brought_up;
  losses = disks_are_lost;
  cut = cut_meets_write;
  earlier = earlier_is_taken;
}
