-- How long the bytes of a status are at most: they fit their slot.
use Rattle.std.proofs.Common.{◌≤◌, length, arith}
use Rattle.lvm_num.specs.declared.status.Status.{Status}
use Rattle.lvm_num.specs.declared.record.Kind.TheVariants as kind
use Rattle.lvm_num.specs.Record.{longest_content}
use Rattle.lvm_num.specs.Status.{IsValidStatus}
use Rattle.lvm_num.specs.StatusBytes.{status_bytes}
use Rattle.lvm_num.proofs.DescriptorLemmas.Bounds.{few_dirty}
use Rattle.lvm_write.proofs.passed.Vgsa.{length-status, dirty_small, few_rows}

pub status_fits : (s : Status) → IsValidStatus s → length (status_bytes s) ≤ longest_content kind.Status
status_fits s valid = omega (arith, length-status s valid, dirty_small s.dirty (few_dirty s.dirty valid.dirty), few_rows s valid)
