use Rattle.std.proofs.Common.{◌≡◌, ◌||◌, List, get_or, sym, ap, subst, ◌∙◌, arith}
use Rattle.std.specs.Prelude.{◌==◌}
use Rattle.std.specs.List.{list_any}
use Rattle.std.proofs.lemmas.Bool.{false≢true}
use Rattle.lvm_num.specs.declared.place.Pp.{Pp}
use Rattle.lvm_num.specs.declared.descriptor.LvRow.{LvRow}
use Rattle.lvm_num.specs.Bits.{has_bit}
use Rattle.lvm_num.specs.Descriptor.{IsLaidOut}
use Rattle.lvm_num.specs.Marks.{AreFree, spot}
use Rattle.lvm_num.proofs.MarksLemmas.Marks.{counted-more, marked-map, counted_is_free}
use Rattle.lvm_num.proofs.valid.are_maps.Goals as goal
use Rattle.lvm_num.proofs.valid.are_maps.Goals.{then-not-is_laid_out-via-then-not-is_laid_out, then-not-is_laid_out-via-else-not-is_laid_out+then-not-mark_all}

pub returns-then-not-is_laid_out : goal.returns-then-not-is_laid_out
returns-then-not-is_laid_out c = (
  λ e. absurd (false≢true e),
  λ all.
      let row = c.row-item.result in
      let i = c.loop-row.row-index in
      let lvs = c.args.lvs.now in
      absurd (elim c.then-not-is_laid_out.branch [
        | then-not-is_laid_out-via-then-not-is_laid_out w ↦
            false≢true (sym w.if-not-is_laid_out.true ∙ c.is_laid_out.ensures.1 (subst IsLaidOut (sym c.row-item.is) (all.laid_out i row (omega arith))))
        | then-not-is_laid_out-via-else-not-is_laid_out+then-not-mark_all w ↦
            let free = counted_is_free c.args.counts.now c.no_marks-marks.result c.loop-row.marks lvs i row (omega arith) c.no_marks-marks.ensures c.loop-row.invariant.1 all in
            let map : (get_or lvs i row).map ≡ w.as_slice.result.now = sym (w.as_slice.ensures ∙ ap (λ (r : LvRow). r.map) c.row-item.is) in
            false≢true (sym w.if-not-mark_all.true ∙ w.mark_all.ensures.free.1 (subst (AreFree c.args.counts.now c.loop-row.marks) map free))
      ]),
)

pub loop-row-preserved : goal.loop-row-preserved
loop-row-preserved c =
    let row = c.row-item.result in
    let i = c.loop-row.row-index in
    let lvs = c.args.lvs.now in
    let map : c.as_slice.result.now ≡ (get_or lvs i row).map = c.as_slice.ensures ∙ ap (λ (r : LvRow). r.map) c.row-item.is in
    let free = subst (AreFree c.args.counts.now c.loop-row.marks) map (c.mark_all.ensures.free.0 c.if-not-mark_all.false) in
    let laid = subst IsLaidOut c.row-item.is (c.is_laid_out.ensures.0 c.if-not-is_laid_out.false) in (
      counted-more c.args.counts.now c.no_marks-marks.result c.loop-row.marks lvs i row (omega arith) c.loop-row.invariant.0 c.loop-row.invariant.1 laid free,
      marked-map c.no_marks-marks.result c.loop-row.marks c.mark_all.new.marks lvs i row (omega arith) c.loop-row.invariant.1
          (λ k. c.mark_all.ensures.marked c.if-not-mark_all.false k ∙ ap (λ (pps : List Pp). has_bit c.loop-row.marks k || list_any (λ (pp : Pp). k == spot pp) pps) map),
    )
