use Rattle.std.proofs.Common.{List, sym, subst}
use Rattle.std.specs.Prelude.{All}
use Rattle.lvm_num.specs.declared.place.Pp.{Pp}
use Rattle.lvm_num.specs.Descriptor.{copies_of}
use Rattle.lvm_num.specs.Disks.{has}
use Rattle.lvm_status.specs.Marking.{IsLostCopy, MarksLost, HasMark}
use Rattle.lvm_status.proofs.MarkingLemmas.{markable_same, markable_copies, below_more}
use Rattle.lvm_status.proofs.mark.mark_volume.Goals as goal

pub mark_copies-requires-clause-markable : goal.mark_copies-requires-clause-markable
mark_copies-requires-clause-markable c =
    subst (λ (ps : List Pp). All (HasMark c.loop-lp.table) ps) (sym c.copies_of.ensures)
    (markable_same c.args.table.now c.loop-lp.table (copies_of c.args.volume.now c.loop-lp.lp) c.loop-lp.invariant.members (markable_copies c.args.table.now c.args.volume.now c.loop-lp.lp c.requires.markable))

pub loop-lp-preserved : goal.loop-lp-preserved
loop-lp-preserved c =
    below_more (has c.args.answering) c.args.table.now c.loop-lp.table c.mark_copies.new.table c.args.volume.now c.loop-lp.lp c.loop-lp.invariant
    (subst (λ (ps : List Pp). MarksLost (has c.args.answering) (IsLostCopy (has c.args.answering) c.loop-lp.table ps) c.loop-lp.table c.mark_copies.new.table) c.copies_of.ensures c.mark_copies.ensures)
