use Rattle.std.proofs.Common.{false, [], arith}
use Rattle.std.proofs.lemmas.List.Elements.{All-more}
use Rattle.lvm_num.specs.declared.status.StatusRow.{StatusRow}
use Rattle.lvm_num.specs.Status.{IsStatusRow}
use Rattle.lvm_num.proofs.Pairs.{rises-more}
use Rattle.lvm_num.proofs.valid.are_status_rows.Goals as goal
use Rattle.lvm_num.proofs.valid.are_status_rows.Goals.{else-k-gt0-via-then-k-gt0+else-rows-k, else-k-gt0-via-else-k-gt0}

abbrev no_row : StatusRow
no_row = record { disk = 0; missing = false; stale = [] }

pub loop-k-preserved : goal.loop-k-preserved
loop-k-preserved c =
    let rows = c.args.rows.now in
    let k = c.loop-k.k in
    record {
      each = All-more IsStatusRow rows k no_row (omega arith) c.loop-k.invariant.each (c.is_status_row.ensures.0 c.if-not-is_status_row.false);
      disks_rise = rises-more (λ (row : StatusRow). row.disk) rows k no_row (omega arith) c.loop-k.invariant.disks_rise
          (λ some. elim c.else-k-gt0.branch [
            | else-k-gt0-via-then-k-gt0+else-rows-k w ↦ w.if-rows-k.false
            | else-k-gt0-via-else-k-gt0 w ↦ absurd (omega (arith, w.if-k-gt0.false, some))
          ]);
    }
