use Rattle.std.proofs.Common.{◌≡◌, [], List, Ok, subst}
use Rattle.std.proofs.lemmas.Result.{err_from_is_err_and}
use Rattle.lvm_num.specs.declared.descriptor.PvRow.{PvRow}
use Rattle.lvm_num.specs.DescriptorBytes.{member_at, members_at}
use Rattle.lvm_fields.specs.Reading.{rest_of, Fails}
use Rattle.lvm_fields.proofs.ReadingLemmas.{goes_on, ends, is_done}
use Rattle.lvm_vgda.proofs.RepeatsLemmas.{members_repeat}
use Rattle.lvm_vgda.proofs.rows.members_at.Goals as goal

pub returns-in_err-row : goal.returns-in_err-row
returns-in_err-row c =
    let p = err_from_is_err_and c.from_residual.result c.from_residual.ensures.1 in
    let fails : Fails c.in_err-row.field-0.0 (member_at c.loop.rows.items (rest_of c.loop.rest)) =
    subst (λ (rows : List PvRow). Fails c.in_err-row.field-0.0 (member_at rows (rest_of c.loop.rest))) c.deref.ensures.value c.in_err-row.ensures in
    rw (p.1, p.2) (ends member_at members_at members_repeat c.in_err-row.field-0.0 c.args.count c.loop.counter c.loop.rows.items (rest_of c.loop.rest) (members_at c.args.count [] (rest_of c.args.unread)) c.loop-test.true fails c.loop.invariant)

pub loop-preserved : goal.loop-preserved
loop-preserved c =
    let here : member_at c.loop.rows.items (rest_of c.loop.rest) ≡ Ok (c.in_ok-row.row, rest_of c.in_ok-row.after) =
    subst (λ (rows : List PvRow). member_at rows (rest_of c.loop.rest) ≡ Ok (c.in_ok-row.row, rest_of c.in_ok-row.after)) c.deref.ensures.value c.in_ok-row.ensures in
    rw c.in_ok-push.ensures.items (goes_on member_at members_at members_repeat c.args.count c.loop.counter c.loop.rows.items (rest_of c.loop.rest) c.in_ok-row.row (rest_of c.in_ok-row.after) (members_at c.args.count [] (rest_of c.args.unread)) c.loop-test.true here c.loop.invariant)

pub returns : goal.returns
returns c = is_done member_at members_at members_repeat c.args.count c.loop.counter c.loop.rows.items (rest_of c.loop.rest) (members_at c.args.count [] (rest_of c.args.unread)) c.loop-test.false c.loop.invariant
