use Rattle.std.proofs.Common.{◌≤◌, List, get_or, length, sym, subst, ◌<◌}
use Rattle.std.specs.Prelude.{All}
use Rattle.lvm_num.specs.declared.place.Pp.{Pp}
use Rattle.lvm_session.specs.Judging.{copies_in}
use Rattle.lvm_due.proofs.DescriptorLemmas.Members.{copies_in_are, few_in, place_of}
use Rattle.lvm_due.proofs.copy.tried_of.Goals as goal

pub count_tried-requires-clause-disks : goal.count_tried-requires-clause-disks
count_tried-requires-clause-disks c =
    let d = c.args.session.now.descriptor in
    let copy = c.args.copy.now in
    subst (All (λ (p : Pp). p.disk < 128)) (sym c.copies_beside.ensures)
    (λ k e less. (place_of d (get_or (copies_in d copy.lv copy.lp) k e) c.requires.valid (copies_in_are d copy.lv copy.lp c.requires.valid k e less)).disk)

pub count_tried-requires-clause-few : goal.count_tried-requires-clause-few
count_tried-requires-clause-few c =
    subst (λ (ps : List Pp). length ps ≤ 3) (sym c.copies_beside.ensures) (few_in c.args.session.now.descriptor c.args.copy.now.lv c.args.copy.now.lp c.requires.valid)
