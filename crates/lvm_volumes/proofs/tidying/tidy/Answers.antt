use Rattle.std.proofs.Common.{◌≡◌, inr, ℕ, List, [], sym, ap, subst, ◌∙◌}
use Rattle.std.specs.Prelude.{All}
use Rattle.lvm_num.specs.Status.{IsVolumeNumber}
use Rattle.lvm_core.specs.Committing.{dirt_of}
use Rattle.lvm_volumes.specs.Tidying.{unneeded}
use Rattle.lvm_volumes.proofs.TidyingLemmas.{stay_dirty}
use Rattle.lvm_volumes.proofs.tidying.tidy.Goals as goal

pub mark_dirty-requires-clause-volumes : goal.mark_dirty-requires-clause-volumes
mark_dirty-requires-clause-volumes g c = subst (All IsVolumeNumber) (sym c.as_slice.ensures.value) c.unneeded-clean.ensures.numbers

pub returns-clause-gives : goal.returns-clause-gives
returns-clause-gives g c =
    let core = c.args.driver.now.1 in
    let clean : c.as_slice.result.now ≡ unneeded core.descriptor core.status.wanted =
    c.as_slice.ensures.value ∙ c.unneeded-clean.ensures.is ∙ (λ t. unneeded (c.descriptor.ensures.same t) ((c.table.ensures ∙ c.requires.settled.committed) t)) in
    inr (record {
      numbers = c.has_spare_numbers.ensures.0 c.if-not-has_spare_numbers.false;
      ends = c.mark_dirty.ensures.ends;
      marks = λ lv. c.mark_dirty.ensures.marks.marks lv ∙ ap (λ (ns : List ℕ). dirt_of [] ns core.status.wanted lv) clean ∙ stay_dirty core.descriptor core.status.wanted lv;
    })
