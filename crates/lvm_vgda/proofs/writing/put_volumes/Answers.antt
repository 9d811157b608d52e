use Rattle.lvm_num.specs.DescriptorBytes.{volume_bytes}
use Rattle.lvm_vgda.proofs.Pieces.{written-more}
use Rattle.lvm_vgda.proofs.writing.put_volumes.Goals as goal

pub loop-row-preserved : goal.loop-row-preserved
loop-row-preserved c =
    written-more volume_bytes c.args.rows.now c.loop-row.row-index c.row-item.result c.args.out.now.items c.loop-row.out.items c.extend_from_slice.new.self.items c.volume_bytes.result
    c.loop-row-test.true c.loop-row.invariant c.in_ok-extend_from_slice.ensures.items c.volume_bytes.ensures c.row-item.is
