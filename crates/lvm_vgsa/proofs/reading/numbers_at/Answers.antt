use Rattle.std.proofs.Common.{◌≡◌, ℕ, [], ◌∷◌, ◌++◌, List, length, Ok, ap, subst, ◌∙◌, arith, length-append}
use Rattle.std.specs.Prelude.{insert}
use Rattle.std.proofs.lemmas.List.Edits.{insert_end}
use Rattle.std.proofs.lemmas.Result.{err_from_is_err_and}
use Rattle.lvm_num.specs.StatusBytes.{numbers_at}
use Rattle.lvm_fields.specs.Reading.{Fails, rest_of}
use Rattle.lvm_fields.proofs.ReadingLemmas.{goes_on, ends, is_done}
use Rattle.lvm_vgsa.proofs.StatusBytesLemmas.Many.{numbers_repeat, volume_at}
use Rattle.lvm_vgsa.proofs.reading.numbers_at.Goals as goal

pub returns-in_err-number : goal.returns-in_err-number
returns-in_err-number c =
    let p = err_from_is_err_and c.from_residual-in_err-number.result c.from_residual-in_err-number.ensures.1 in
    let e = c.in_err-number.field-0.0 in
    let rest = rest_of c.loop.rest in
    let read = subst (λ (l : List ℕ). Fails e (volume_at l rest)) c.as_slice.ensures c.in_err-number.ensures in
    rw (p.1, p.2) (ends volume_at numbers_at numbers_repeat e c.args.count c.loop.counter c.loop.numbers rest (numbers_at c.args.count [] (rest_of c.args.unread)) c.loop-test.true read c.loop.invariant.1)

pub loop-preserved : goal.loop-preserved
loop-preserved c =
    let rest = rest_of c.loop.rest in
    let after = rest_of c.in_ok-number.after in
    let read = subst (λ (l : List ℕ). volume_at l rest ≡ Ok (c.in_ok-number.number, after)) c.as_slice.ensures c.in_ok-number.ensures in
    let more : c.insert.new.self ≡ c.loop.numbers ++ c.in_ok-number.number ∷ [] =
    c.insert.ensures ∙ ap (λ k. insert c.loop.numbers k c.in_ok-number.number) c.len.ensures ∙ insert_end c.loop.numbers c.in_ok-number.number in (
      omega (arith, ap (length {A = ℕ}) more, length-append c.loop.numbers (c.in_ok-number.number ∷ []), c.loop.invariant.0),
      rw more (goes_on volume_at numbers_at numbers_repeat c.args.count c.loop.counter c.loop.numbers rest c.in_ok-number.number after (numbers_at c.args.count [] (rest_of c.args.unread)) c.loop-test.true read c.loop.invariant.1),
    )

pub returns : goal.returns
returns c = is_done volume_at numbers_at numbers_repeat c.args.count c.loop.counter c.loop.numbers (rest_of c.loop.rest) (numbers_at c.args.count [] (rest_of c.args.unread)) c.loop-test.false c.loop.invariant.1
