use Rattle.std.proofs.Common.{◌≡◌, ◌<◌, ◌≤◌, ◌++◌, List, length, get_or, set, drop, ap, ◌∙◌, arith}
use Rattle.std.specs.Prelude.{map}
use Rattle.std.proofs.lemmas.List.{take_all, drop_all, append-nil, length-set, get_or_default}
use Rattle.std.proofs.lemmas.List.Edits.{map_over_more}
use Rattle.lvm_num.specs.declared.status.StatusRow.{StatusRow}
use Rattle.lvm_status.specs.Rerowed.{row_for, row_from, clear_row}
use Rattle.lvm_status.proofs.rows.become_rows.Goals as goal

pub loop-place-preserved : goal.loop-place-preserved
loop-place-preserved c =
    let i = c.loop-place.place in
    let ys = c.loop-place.rows in
    let old = c.args.rows.now in
    let f = row_from c.args.said.now in
    let long : length ys ≡ length old = c.loop-place.invariant.long in
    let within : i < length old = omega (arith, long) in
    let x = get_or ys i (clear_row 0) in
    let read : x ≡ get_or ys i x = get_or_default ys i (clear_row 0) x (omega (arith, long, within)) in
    let row : c.row_for-row.result ≡ f x =
    c.row_for-row.ensures ∙ ap (λ (l : List StatusRow). row_for c.args.said.now (get_or l i _).disk) c.as_slice.ensures
    ∙ ap (λ (r : StatusRow). row_for c.args.said.now r.disk) (get_or_default ys i _ (clear_row 0) (omega (arith, long, within))) in
    record {
      rows = c.set.ensures ∙ ap (λ (r : StatusRow). set ys i r) row ∙ map_over_more f old ys i x within c.loop-place.invariant.rows read;
      long = ap (λ (l : List StatusRow). length l) c.set.ensures ∙ length-set ys i c.row_for-row.result ∙ long;
    }

pub returns : goal.returns
returns c =
    let old = c.args.rows.now in
    let f = row_from c.args.said.now in
    let all : length old ≤ c.loop-place.place = omega (arith, c.loop-place-test.false, c.len-place-end.ensures) in
    c.loop-place.invariant.rows
    ∙ ap (λ (l : List StatusRow). map f l ++ drop c.loop-place.place old) (take_all c.loop-place.place old all)
    ∙ ap (λ (l : List StatusRow). map f old ++ l) (drop_all c.loop-place.place old all)
    ∙ append-nil (map f old)
