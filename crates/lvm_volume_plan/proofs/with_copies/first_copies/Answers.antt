use Rattle.std.proofs.Common.{◌≡◌, ◌*◌, List, take, drop, ap, ◌∙◌}
use Rattle.lvm_num.specs.declared.place.Pp.{Pp}
use Rattle.lvm_num.specs.Descriptor.{copies_of}
use Rattle.lvm_volume_plan.proofs.Parts.{part_more}
use Rattle.lvm_volume_plan.proofs.with_copies.first_copies.Goals as goal

pub loop-lp-preserved : goal.loop-lp-preserved
loop-lp-preserved c =
    let row = c.args.row.now in
    let lp = c.loop-lp.lp in
    let all : c.copies_at-all.result.now ≡ copies_of row lp = c.copies_at-all.ensures ∙ ap (λ (m : List Pp). take row.copies (drop (lp * row.copies) m)) c.as_slice.ensures in
    let number = c.from.ensures in
    part_more (λ n. take c.args.copies (copies_of row n)) lp _ _ _ c.in_ok-extend_from_slice.ensures.items c.loop-lp.invariant (λ t. take (number t) (all t))
