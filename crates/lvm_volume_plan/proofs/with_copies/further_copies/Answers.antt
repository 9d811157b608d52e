use Rattle.std.proofs.Common.{◌≡◌, drop}
use Rattle.lvm_num.specs.Descriptor.{copies_of}
use Rattle.lvm_volume_plan.specs.Copies.{with_map}
use Rattle.lvm_volume_plan.proofs.Parts.{part_more, behind_is}
use Rattle.lvm_volume_plan.proofs.with_copies.further_copies.Goals as goal

pub loop-lp-preserved : goal.loop-lp-preserved
loop-lp-preserved c =
    let row = c.args.row.now in
    let lp = c.loop-lp.lp in
    let all : c.copies_at-all.result.now ≡ copies_of (with_map row c.args.copies c.args.map.now) lp = c.copies_at-all.ensures in
    let number = c.from.ensures in
    part_more (λ n. drop row.copies (copies_of (with_map row c.args.copies c.args.map.now) n)) lp _ _ _ c.in_ok-extend_from_slice.ensures.items c.loop-lp.invariant (behind_is c.copies_at-all.result.now _ c.from.result _ all number)
