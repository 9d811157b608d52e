use Rattle.std.proofs.Common.{◌≡◌, ◌*◌, false, [], length, take, arith}
use Rattle.std.specs.Prelude.{flat_map}
use Rattle.lvm_num.specs.declared.status.StatusRow.{StatusRow}
use Rattle.lvm_num.specs.StatusBytes.{status_row_bytes}
use Rattle.lvm_vgsa.proofs.PuttingLemmas.{puts_more}
use Rattle.lvm_vgsa.proofs.StatusBytesLemmas.Sizes.{size-rows}
use Rattle.lvm_vgsa.proofs.writing.put_rows.Goals as goal

abbrev no_row : StatusRow
no_row = record { disk = 0; missing = false; stale = [] }

pub loop-row-preserved : goal.loop-row-preserved
loop-row-preserved c =
    let size : length (flat_map status_row_bytes (take c.loop-row.row-index c.args.rows.now)) ≡ 132 * c.loop-row.row-index = size-rows c.args.rows.now c.loop-row.row-index (omega arith) c.requires.rows.each in (
      omega (arith, c.put-end.ensures.end, c.loop-row.invariant.0),
      puts_more status_row_bytes c.args.rows.now c.loop-row.row-index no_row c.args.into.now c.loop-row.into c.put-end.new.into c.args.at c.loop-row.end c.row_bytes.result
          (omega arith) c.loop-row.invariant.1 c.put-end.ensures.puts c.row_bytes.ensures (omega (arith, size, c.loop-row.invariant.0)) (omega (arith, c.loop-row.invariant.0, c.requires.fits)),
    )
