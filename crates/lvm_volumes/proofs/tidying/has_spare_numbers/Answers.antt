use Rattle.std.proofs.Common.{◌≡◌, ◌+◌, ◌*◌, List, take, count_by, length, not, sym, ap, ◌∙◌, arith}
use Rattle.std.proofs.lemmas.Bool.{le-leb, leb-true}
use Rattle.std.proofs.lemmas.List.{take_all}
use Rattle.lvm_num.specs.declared.descriptor.Descriptor.{Descriptor}
use Rattle.lvm_num.specs.declared.descriptor.PvRow.{PvRow}
use Rattle.lvm_num.specs.Status.{calls_missing}
use Rattle.lvm_commit.specs.Settling.{many_there}
use Rattle.lvm_session.specs.State.{Core}
use Rattle.lvm_volumes.proofs.tidying.has_spare_numbers.Goals as goal

pub returns : goal.returns
returns g c =
    let core : Core = c.args.driver.now.1 in
    let group = c.open.ensures.sound.fitting.group in
    let rows : List PvRow = core.descriptor.pvs in
    let size : length c.as_slice-row-items.result.now ≡ length rows = ap (λ (r : List PvRow). length r) (c.as_slice-row-items.ensures ∙ ap (λ (d : Descriptor). d.pvs) c.descriptor.ensures.same) in
    let all : take c.loop-row.row-index rows ≡ rows = take_all c.loop-row.row-index rows (omega (arith, c.loop-row-test.false, size)) in
    let needed : c.loop-row.needed ≡ 8 + 2 * many_there core.status =
    c.loop-row.invariant ∙ ap (λ (r : List PvRow). 8 + 2 * count_by (λ (row : PvRow). not (calls_missing core.status.committed row.disk)) r) all
    ∙ (λ t. 8 + 2 * count_by (λ (row : PvRow). not (calls_missing (c.requires.settled.committed t) row.disk)) (sym group t).pvs) in
    let left = c.numbers_left.ensures in (
      λ enough. let le = leb-true c.loop-row.needed c.numbers_left.result enough in omega (arith, le, needed, left),
      λ spare. le-leb c.loop-row.needed c.numbers_left.result (omega (arith, spare, needed, left)),
    )
