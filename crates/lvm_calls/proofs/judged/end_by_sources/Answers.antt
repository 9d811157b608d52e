use Rattle.std.proofs.Common.{Bool, List, not, sym, ◌∙◌, ap, subst, ◌<◌}
use Rattle.std.specs.Prelude.{◌&&◌, All}
use Rattle.std.specs.List.{list_any}
use Rattle.lvm_num.specs.declared.place.Pp.{Pp}
use Rattle.lvm_session.specs.declared.bringing.CopyEnd.TheVariants as ending
use Rattle.lvm_session.specs.Bringing.{ends_if, is_idle}
use Rattle.lvm_session.specs.Fields.{core_of}
use Rattle.lvm_calls.specs.Reviewing.{is_other, is_untried}
use Rattle.lvm_calls.proofs.BringingLemmas.{disks_within, no_source, some_source}
use Rattle.lvm_calls.proofs.judged.end_by_sources.Goals as goal

pub is_exhausted-requires : goal.is_exhausted-requires
is_exhausted-requires c =
    let copy = c.args.copy.now in
    subst (All (λ (p : Pp). p.disk < 128)) (sym c.copies_beside-copies.ensures) (disks_within c.args.session.now.descriptor copy.lv copy.lp c.requires.valid)

pub returns-then-any_is_other : goal.returns-then-any_is_other
returns-then-any_is_other c =
    let core = core_of c.args.session.now in
    let copy = c.args.copy.now in
    c.end_if.ensures
    ∙ ap (λ (b : Bool). ends_if b ending.SyncFailed) (c.is_exhausted.ensures ∙ ap (λ (ps : List Pp). is_idle copy.step && not (list_any (is_untried core copy) ps)) c.copies_beside-copies.ensures)
    ∙ some_source core copy (sym (ap (list_any (is_other core copy)) c.copies_beside-copies.ensures) ∙ sym c.any_is_other.ensures ∙ c.if-any_is_other.true)

pub returns-else-any_is_other : goal.returns-else-any_is_other
returns-else-any_is_other c =
    let core = core_of c.args.session.now in
    let copy = c.args.copy.now in
    no_source core copy (sym (ap (list_any (is_other core copy)) c.copies_beside-copies.ensures) ∙ sym c.any_is_other.ensures ∙ c.if-any_is_other.false)
