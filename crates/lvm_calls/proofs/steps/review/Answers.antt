use Rattle.std.proofs.Common.{Option, sym, ◌∙◌, ap, subst}
use Rattle.std.specs.Prelude.{◌||◌}
use Rattle.lvm_num.specs.declared.place.Pp.{Pp}
use Rattle.lvm_session.specs.declared.bringing.CopyEnd.{CopyEnd}
use Rattle.lvm_session.specs.Bringing.{marked_by_end, with_end}
use Rattle.lvm_session.specs.Fields.{core_of}
use Rattle.lvm_session.specs.Marks.{WantsStale, is_entailed}
use Rattle.lvm_calls.specs.Ending.{MayEndCopy}
use Rattle.lvm_calls.proofs.EndingLemmas.{marks_and_ends, may_still}
use Rattle.lvm_calls.proofs.steps.review.Goals as goal

pub end_copy_if-requires : goal.end_copy_if-requires
end_copy_if-requires c =
    let core = core_of c.args.session.now in
    subst MayEndCopy (sym c.mark_entailed.ensures.core) (may_still core (is_entailed core) c.mark_entailed.new.session.updater c.requires.copy c.mark_entailed.ensures.marks)

pub returns-clause-reviews : goal.returns-clause-reviews
returns-clause-reviews c =
    let old = core_of c.args.session.now in
    let new = core_of c.end_copy_if.new.session in
    let it = marks_and_ends old (core_of c.mark_entailed.new.session) new (is_entailed old) c.copy_ends-end.result c.mark_entailed.ensures.core c.mark_entailed.ensures.marks c.end_copy_if.ensures.core c.end_copy_if.ensures.marks in
    record {
      marks = subst (λ (e : Option CopyEnd). WantsStale (λ (p : Pp). is_entailed old p || marked_by_end old e p) old.status new.status) c.copy_ends-end.ensures it.marks;
      is = it.is ∙ ap (λ (e : Option CopyEnd). record (with_end old e) { status = new.status }) c.copy_ends-end.ensures;
    }
