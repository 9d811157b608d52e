use Rattle.std.proofs.Common.{◌≡◌, ◌+◌, get_or, take, sym, subst, ◌∙◌}
use Rattle.std.specs.Prelude.{IsTrue, IsFalse}
use Rattle.lvm_num.specs.declared.place.Pp.{Pp}
use Rattle.lvm_num.specs.Disks.{has}
use Rattle.lvm_num.specs.Among.{IsOneOf}
use Rattle.lvm_status.specs.Marking.{MarksLost}
use Rattle.lvm_status.proofs.MarkingLemmas.{marks_one, copies_more, copies_same, has_row-same, no_pp, at_place}
use Rattle.lvm_status.proofs.mark.mark_copies.Goals as goal
use Rattle.lvm_status.proofs.mark.mark_copies.Goals.{then-not-has, else-not-has}

pub mark-requires-clause-row : goal.mark-requires-clause-row
mark-requires-clause-row c =
    let one = c.requires.markable c.loop-pp.pp-index no_pp c.loop-pp-test.true in
    has_row-same c.args.table.now c.loop-pp.table c.loop-pp.invariant.members (get_or c.args.copies.now c.loop-pp.pp-index no_pp).disk ∙ one.row

pub loop-pp-preserved : goal.loop-pp-preserved
loop-pp-preserved c =
    let i = c.loop-pp.pp-index in
    let pp : Pp = get_or c.args.copies.now i no_pp in
    let at : pp ≡ get_or c.args.copies.now i pp = at_place c.args.copies.now i c.loop-pp-test.true in
    elim c.if-not-has.branch [
      | then-not-has w ↦
          let absent : IsFalse (has c.args.answering pp.disk) = sym c.has.ensures.member ∙ w.if-not-has.true in
          subst (MarksLost (has c.args.answering) (λ p. IsOneOf (take (i + 1) c.args.copies.now) p × IsFalse (has c.args.answering p.disk)) c.args.table.now) (sym w.table-is)
          (copies_more (has c.args.answering) c.args.table.now c.loop-pp.table w.mark.new.self c.args.copies.now i pp c.loop-pp-test.true at absent c.loop-pp.invariant
          (marks_one (has c.args.answering) pp c.loop-pp.table w.mark.new.self absent w.mark.ensures.members w.mark.ensures.stale w.mark.ensures.missing w.mark.ensures.dirty))
      | else-not-has w ↦
          let here : IsTrue (has c.args.answering pp.disk) = sym c.has.ensures.member ∙ w.if-not-has.false in
          subst (MarksLost (has c.args.answering) (λ p. IsOneOf (take (i + 1) c.args.copies.now) p × IsFalse (has c.args.answering p.disk)) c.args.table.now) (sym w.table-is)
          (copies_same (has c.args.answering) c.args.table.now c.loop-pp.table c.args.copies.now i pp c.loop-pp-test.true at here c.loop-pp.invariant)
    ]
