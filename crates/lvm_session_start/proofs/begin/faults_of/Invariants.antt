use Rattle.std.proofs.Common.{◌≡◌, ℕ, nat_lt, if◌then◌else◌, length, slice_index_or}
use Rattle.lvm_session_start.proofs.begin.faults_of.Given as goal

abbrev pub invariant-loop-disk : goal.invariant-loop-disk
invariant-loop-disk g l = record {
  long : length l.faults ≡ 128;
  each : (disk : ℕ) → slice_index_or l.faults disk 0 ≡ (if nat_lt disk l.disk then (g.S.Shelf.device l.shelf).counts.faults disk else 0);
}
