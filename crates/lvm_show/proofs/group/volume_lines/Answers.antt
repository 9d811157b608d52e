use Rattle.std.specs.String.{string_bytes}
use Rattle.lvm_show.specs.Listings.{volume_line}
use Rattle.lvm_show.proofs.Appending.{pieces_more}
use Rattle.lvm_show.proofs.group.volume_lines.Goals as goal

pub loop-row-preserved : goal.loop-row-preserved
loop-row-preserved c =
    pieces_more (volume_line c.args.d.now c.args.t.now) c.as_slice-lvs.result.now c.loop-row.row-index c.row-item.result (string_bytes c.loop-row.text) (string_bytes c.push_volume.new.text)
    c.loop-row-test.true c.row-item.is c.loop-row.invariant c.in_ok-push_volume.ensures
