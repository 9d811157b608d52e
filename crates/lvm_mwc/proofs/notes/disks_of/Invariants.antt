use Rattle.std.proofs.Common.{◌≡◌, ◌≤◌, take}
use Rattle.std.specs.Prelude.{vec_capacity}
use Rattle.lvm_mwc.specs.Notes.{disks_of}
use Rattle.lvm_mwc.proofs.notes.disks_of.Given as goal

abbrev pub invariant-loop-row : goal.invariant-loop-row
invariant-loop-row l = record {
  disks : l.disks.items ≡ disks_of (take l.row-index l.notes);
  room : 128 ≤ vec_capacity l.disks;
}
