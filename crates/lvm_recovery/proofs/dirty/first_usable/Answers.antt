use Rattle.lvm_num.specs.Disks.{has}
use Rattle.lvm_recovery.specs.Plan.{usable_by}
use Rattle.std.proofs.Common.{sym, ◌∙◌}
use Rattle.lvm_recovery.proofs.CopyingLemmas.AllCopied.{at_index}
use Rattle.lvm_recovery.proofs.RowsLemmas.{first_found}
use Rattle.lvm_recovery.proofs.dirty.first_usable.Goals as goal

pub returns-then-is_usable : goal.returns-then-is_usable
returns-then-is_usable c = first_found (usable_by c.args.table.now (has c.args.disks)) c.args.pps.now c.loop-k.k _ (at_index c.args.pps.now c.loop-k.k _ c.loop-k-test.true) c.loop-k.invariant.none (sym c.is_usable.ensures ∙ c.if-is_usable.true)
