use Rattle.std.specs.String.{string_bytes}
use Rattle.lvm_show.specs.Listings.{partition_line}
use Rattle.lvm_show.proofs.Appending.{numbers_more}
use Rattle.lvm_show.proofs.map.map_lines.Goals as goal

pub loop-lp-preserved : goal.loop-lp-preserved
loop-lp-preserved c =
    numbers_more (partition_line c.args.t.now c.args.row.now) c.loop-lp.lp (string_bytes c.loop-lp.text) (string_bytes c.push_partition.new.text)
    c.loop-lp.invariant c.in_ok-push_partition.ensures
