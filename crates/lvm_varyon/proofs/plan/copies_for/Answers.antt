use Rattle.std.proofs.Common.{◌≡◌, ◌++◌, flat_map, List, Some, sym, ◌∙◌, ap, subst}
use Rattle.lvm_num.specs.declared.status.Status.{Status}
use Rattle.lvm_num.specs.Disks.{has}
use Rattle.lvm_quorum.specs.Surveyed.{surveyed}
use Rattle.lvm_recovery.specs.declared.copying.Recopy.{Recopy}
use Rattle.lvm_recovery.specs.declared.plan.TrackGroup.{TrackGroup}
use Rattle.lvm_recovery.specs.Plan.{copies_dirty, copies_named}
use Rattle.lvm_recovery.specs.Planned.{ArePlanned}
use Rattle.lvm_recovery.proofs.PlanLemmas.Dirty.{named_are_planned}
use Rattle.lvm_varyon.proofs.plan.copies_for.Goals as goal

pub returns : goal.returns
returns c =
    let choice = c.args.choice.now in
    let named = c.in_ok-named.named.items in
    let dirty : List Recopy = copies_dirty choice.descriptor choice.status (has choice.answering) in
    let copies : c.new.result ++ dirty ≡ flat_map (copies_named choice.descriptor choice.status (has choice.answering)) named ++ dirty =
    ap (λ (l : List Recopy). l ++ dirty) (c.new.ensures ∙ c.in_ok-copies.ensures ∙ ap (λ (l : List TrackGroup). flat_map (copies_named choice.descriptor c.in_ok-table.table (has choice.answering)) l) c.as_slice.ensures.value
    ∙ ap (λ (s : Status). flat_map (copies_named choice.descriptor s (has choice.answering)) named) c.in_ok-table.ensures) in
    record {
      table = c.in_ok-table.ensures;
      planned = λ stamp. subst (λ (l : List Recopy). ArePlanned (surveyed c.args.survey.now) choice.descriptor (Some (record { stamp = stamp; value = choice.status })) (has choice.answering) l) (sym copies)
          (named_are_planned (surveyed c.args.survey.now) choice.descriptor (record { stamp = stamp; value = choice.status }) (has choice.answering) named c.requires.descriptor c.in_ok-named.ensures.named);
      order = record { named = named; exactly = c.in_ok-named.ensures.named; rising = c.in_ok-named.ensures.rising; are = copies };
    }
