use Rattle.std.proofs.Common.{◌≡◌, ◌*◌, List, take, drop, ap, ◌∙◌}
use Rattle.lvm_num.specs.declared.place.Pp.{Pp}
use Rattle.lvm_num.specs.Descriptor.{copies_of}
use Rattle.lvm_volume_plan.proofs.Parts.{part_more, behind_is}
use Rattle.lvm_volume_plan.proofs.with_copies.copies_behind.Goals as goal

pub loop-lp-preserved : goal.loop-lp-preserved
loop-lp-preserved c =
    let row = c.args.row.now in
    let lp = c.loop-lp.lp in
    let all : c.copies_at-all.result.now ≡ copies_of row lp = c.copies_at-all.ensures ∙ ap (λ (m : List Pp). take row.copies (drop (lp * row.copies) m)) c.as_slice.ensures in
    let number = c.from.ensures in
    part_more (λ n. drop c.args.copies (copies_of row n)) lp _ _ _ c.in_ok-extend_from_slice.ensures.items c.loop-lp.invariant (behind_is c.copies_at-all.result.now _ c.from.result _ all number)
