use Rattle.std.proofs.Common.{◌≡◌, ◌+◌, false, [], sym, ◌∙◌, ap, subst, take}
use Rattle.std.specs.Prelude.{All, slice_index_or}
use Rattle.std.proofs.lemmas.List.{get_or_default}
use Rattle.lvm_num.specs.declared.place.Pp.{Pp}
use Rattle.lvm_num.specs.declared.status.Status.{Status}
use Rattle.lvm_num.specs.Status.{calls_stale}
use Rattle.lvm_status.specs.Update.{Stored}
use Rattle.lvm_core.proofs.StepsLemmas.Marking.{SoFar, markable_still, fresh_passed, fresh_wanted}
use Rattle.lvm_core.proofs.marks.mark_fresh.Goals as goal
use Rattle.lvm_core.proofs.marks.mark_fresh.Goals.{then-is_stale, else-is_stale}

pub want-requires : goal.want-requires
want-requires c =
    let p : Pp = slice_index_or c.args.pps.now c.loop-pp.pp-index (record { disk = 0; pp = 0 }) in
    markable_still c.args.updater.now.wanted c.loop-pp.updater.wanted p c.loop-pp.invariant.rest.rows (c.requires.markable c.loop-pp.pp-index (record { disk = 0; pp = 0 }) c.loop-pp-test.true)

pub loop-pp-preserved : goal.loop-pp-preserved
loop-pp-preserved c =
    let old = c.args.updater.now in
    let now = c.loop-pp.updater in
    let pps = c.args.pps.now in
    let i = c.loop-pp.pp-index in
    let p : Pp = slice_index_or pps i (record { disk = 0; pp = 0 }) in
    let its = get_or_default pps i (record { disk = 0; pp = 0 }) p c.loop-pp-test.true in
    let none = All (λ (q : Pp). calls_stale old.wanted q ≡ false) pps in
    elim c.if-is_stale.branch [
      | then-is_stale w ↦ subst (λ (u : Stored). SoFar [] (take (i + 1) pps) none old u) (sym w.updater-is)
          (fresh_wanted pps none i p c.loop-pp-test.true its old now w.want.new.self c.loop-pp.invariant (ap (λ (s : Status). calls_stale s p) (sym c.wanted.ensures) ∙ sym c.is_stale.ensures ∙ w.if-is_stale.true) (λ all. all i (record { disk = 0; pp = 0 }) c.loop-pp-test.true) w.want.ensures.wanted w.want.ensures.rest)
      | else-is_stale w ↦ subst (λ (u : Stored). SoFar [] (take (i + 1) pps) none old u) (sym w.updater-is) (fresh_passed pps none i p c.loop-pp-test.true its old now c.loop-pp.invariant (ap (λ (s : Status). calls_stale s p) (sym c.wanted.ensures) ∙ sym c.is_stale.ensures ∙ w.if-is_stale.false))
    ]
