use Rattle.std.proofs.Common.{◌≡◌, ◌+◌, ◌<◌, sym, ap, ◌∙◌, arith, get_or, length}
use Rattle.std.proofs.lemmas.List.{get_or_default}
use Rattle.lvm_num.specs.declared.descriptor.LvRow.{LvRow}
use Rattle.lvm_volume_plan.proofs.NewVolumeLemmas.Numbers.{number_is}
use Rattle.lvm_volume_plan.proofs.next.lowest_free.Goals as goal

pub returns-then-row-lowest : goal.returns-then-row-lowest
returns-then-row-lowest c =
    let i = c.loop-row.row-index in
    let rows = c.as_slice-row-items.result.now in
    let gap = λ (e : LvRow) (lt : i < length rows) (is : (get_or rows i e).number ≡ i + 1).
    let other : get_or rows i c.row-item.result ≡ get_or rows i e = get_or_default rows i c.row-item.result e lt in
    c.if-row-lowest.true (ap (λ (r : LvRow). r.number) (c.row-item.is ∙ other) ∙ is ∙ sym c.loop-row.invariant.lowest) in
    let both = number_is c.args.d.now rows i c.loop-row.lowest c.requires c.as_slice-row-items.ensures c.loop-row.invariant.lowest c.loop-row.invariant.numbered (omega arith) gap in
    record { lowest = both.0; order = both.1 }

pub returns : goal.returns
returns c =
    let both = number_is c.args.d.now c.as_slice-row-items.result.now c.loop-row.row-index c.loop-row.lowest c.requires c.as_slice-row-items.ensures c.loop-row.invariant.lowest c.loop-row.invariant.numbered c.loop-row.auto.row-index-end
    (λ e lt is. absurd (omega (arith, lt))) in
    record { lowest = both.0; order = both.1 }
