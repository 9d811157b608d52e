use Rattle.std.proofs.Common.{◌≡◌, ℕ, [], List, Result, Ok, sym, subst, ◌∙◌}
use Rattle.std.proofs.lemmas.Result.{err_from_is_err_and}
use Rattle.lvm_num.specs.declared.status.StatusRow.{StatusRow}
use Rattle.lvm_num.specs.StatusBytes.{status_row_at, status_rows_at}
use Rattle.lvm_num.specs.Reading.{Rest}
use Rattle.lvm_fields.specs.Reading.{Fails, rest_of}
use Rattle.lvm_fields.proofs.ReadingLemmas.{goes_on, ends, is_done}
use Rattle.lvm_vgsa.specs.Parts.{row_by_parts}
use Rattle.lvm_vgsa.proofs.StatusBytesLemmas.Many.{rows_repeat}
use Rattle.lvm_vgsa.proofs.PartsLemmas.{row_is}
use Rattle.lvm_vgsa.proofs.reading.rows_at.Goals as goal

pub returns-in_err-row : goal.returns-in_err-row
returns-in_err-row c =
    let p = err_from_is_err_and c.from_residual-in_err-row.result c.from_residual-in_err-row.ensures.1 in
    let e = c.in_err-row.field-0.0 in
    let rest = rest_of c.loop.rest in
    let read = subst (λ (r : Result (StatusRow × Rest) ℕ). Fails e r) (row_is c.loop.rows.items rest) (subst (λ (l : List StatusRow). Fails e (row_by_parts l rest)) c.deref.ensures.value c.in_err-row.ensures) in
    rw (p.1, p.2) (ends status_row_at status_rows_at rows_repeat e c.args.count c.loop.counter c.loop.rows.items rest (status_rows_at c.args.count [] (rest_of c.args.unread)) c.loop-test.true read c.loop.invariant)

pub loop-preserved : goal.loop-preserved
loop-preserved c =
    let rest = rest_of c.loop.rest in
    let after = rest_of c.in_ok-row.after in
    let read = sym (row_is c.loop.rows.items rest) ∙ subst (λ (l : List StatusRow). row_by_parts l rest ≡ Ok (c.in_ok-row.row, after)) c.deref.ensures.value c.in_ok-row.ensures in
    rw c.in_ok-push.ensures.items (goes_on status_row_at status_rows_at rows_repeat c.args.count c.loop.counter c.loop.rows.items rest c.in_ok-row.row after (status_rows_at c.args.count [] (rest_of c.args.unread)) c.loop-test.true read c.loop.invariant)

pub returns : goal.returns
returns c = is_done status_row_at status_rows_at rows_repeat c.args.count c.loop.counter c.loop.rows.items (rest_of c.loop.rest) (status_rows_at c.args.count [] (rest_of c.args.unread)) c.loop-test.false c.loop.invariant
