use Rattle.std.proofs.Common.{◌≡◌, [], List, Result, ℕ, Ok, sym, subst, ◌∙◌}
use Rattle.std.proofs.lemmas.Result.{err_from_is_err_and}
use Rattle.lvm_num.specs.declared.descriptor.LvRow.{LvRow}
use Rattle.lvm_num.specs.DescriptorBytes.{volume_at, volumes_at}
use Rattle.lvm_num.specs.Reading.{Rest}
use Rattle.lvm_fields.specs.Reading.{rest_of, Fails}
use Rattle.lvm_vgda.specs.Parts.{volume_by_parts}
use Rattle.lvm_fields.proofs.ReadingLemmas.{goes_on, ends, is_done}
use Rattle.lvm_vgda.proofs.RepeatsLemmas.{volumes_repeat}
use Rattle.lvm_vgda.proofs.PartsLemmas.{volume_is}
use Rattle.lvm_vgda.proofs.rows.volumes_at.Goals as goal

pub returns-in_err-row : goal.returns-in_err-row
returns-in_err-row c =
    let p = err_from_is_err_and c.from_residual.result c.from_residual.ensures.1 in
    let fails : Fails c.in_err-row.field-0.0 ((volume_at c.args.big) c.loop.rows.items (rest_of c.loop.rest)) =
    subst (λ (read : Result (LvRow × Rest) ℕ). Fails c.in_err-row.field-0.0 read) (volume_is c.args.big c.loop.rows.items (rest_of c.loop.rest))
    (subst (λ (rows : List LvRow). Fails c.in_err-row.field-0.0 (volume_by_parts c.args.big rows (rest_of c.loop.rest))) c.deref.ensures.value c.in_err-row.ensures) in
    rw (p.1, p.2) (ends (volume_at c.args.big) (volumes_at c.args.big) (volumes_repeat c.args.big) c.in_err-row.field-0.0 c.args.count c.loop.counter c.loop.rows.items (rest_of c.loop.rest) ((volumes_at c.args.big) c.args.count [] (rest_of c.args.unread)) c.loop-test.true fails c.loop.invariant)

pub loop-preserved : goal.loop-preserved
loop-preserved c =
    let here : (volume_at c.args.big) c.loop.rows.items (rest_of c.loop.rest) ≡ Ok (c.in_ok-row.row, rest_of c.in_ok-row.after) =
    sym (volume_is c.args.big c.loop.rows.items (rest_of c.loop.rest))
    ∙ subst (λ (rows : List LvRow). volume_by_parts c.args.big rows (rest_of c.loop.rest) ≡ Ok (c.in_ok-row.row, rest_of c.in_ok-row.after)) c.deref.ensures.value c.in_ok-row.ensures in
    rw c.in_ok-push.ensures.items (goes_on (volume_at c.args.big) (volumes_at c.args.big) (volumes_repeat c.args.big) c.args.count c.loop.counter c.loop.rows.items (rest_of c.loop.rest) c.in_ok-row.row (rest_of c.in_ok-row.after) ((volumes_at c.args.big) c.args.count [] (rest_of c.args.unread)) c.loop-test.true here c.loop.invariant)

pub returns : goal.returns
returns c = is_done (volume_at c.args.big) (volumes_at c.args.big) (volumes_repeat c.args.big) c.args.count c.loop.counter c.loop.rows.items (rest_of c.loop.rest) ((volumes_at c.args.big) c.args.count [] (rest_of c.args.unread)) c.loop-test.false c.loop.invariant
