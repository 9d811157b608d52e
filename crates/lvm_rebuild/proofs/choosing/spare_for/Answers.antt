use Rattle.std.proofs.Common.{◌≡◌, List, get_or, false, ap, sym, ◌∙◌, arith}
use Rattle.std.specs.Prelude.{Option, None, Some, find}
use Rattle.std.specs.Option.{option_map_or}
use Rattle.lvm_num.specs.declared.descriptor.PvRow.{PvRow}
use Rattle.lvm_num.specs.declared.descriptor.Descriptor.{Descriptor}
use Rattle.lvm_num.specs.Descriptor.{partitions_used}
use Rattle.lvm_move_plan.specs.Planned.{lowest_free}
use Rattle.lvm_move_plan.proofs.PlanLemmas.{find_here, find_more}
use Rattle.lvm_rebuild.specs.Choosing.{serves}
use Rattle.lvm_rebuild.proofs.choosing.spare_for.Goals as goal

abbrev no_row : PvRow
no_row = record { disk = 0; pps = 0; spare = false }

pub returns-then-serves : goal.returns-then-serves
returns-then-serves g c =
    let core = c.args.driver.now.1 in
    let rows : List PvRow = c.as_slice-row-items.result.now in
    let row : PvRow = get_or rows c.loop-row.row-index no_row in
    let rows_are : core.descriptor.pvs ≡ rows = sym (c.as_slice-row-items.ensures ∙ ap (λ (d : Descriptor). d.pvs) c.descriptor-d.ensures.same) in
    let found : find (serves core c.args.lost.now c.args.copy) core.descriptor.pvs ≡ Some row = ap (find (serves core c.args.lost.now c.args.copy)) rows_are
    ∙ find_here (serves core c.args.lost.now c.args.copy) rows c.loop-row.row-index no_row (omega arith) c.loop-row.invariant (sym c.serves.ensures ∙ c.if-serves.true) in
    c.lowest_free.ensures ∙ ap (λ (d : Descriptor). lowest_free (partitions_used d) row) c.descriptor-d.ensures.same
    ∙ sym (ap (λ (o : Option PvRow). option_map_or (lowest_free (partitions_used core.descriptor)) o None) found)

pub loop-row-preserved : goal.loop-row-preserved
loop-row-preserved g c =
    find_more (serves c.args.driver.now.1 c.args.lost.now c.args.copy) c.as_slice-row-items.result.now c.loop-row.row-index no_row (omega arith) c.loop-row.invariant (sym c.serves.ensures ∙ c.if-serves.false)
