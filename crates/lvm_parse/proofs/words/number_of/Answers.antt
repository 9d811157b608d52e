use Rattle.std.proofs.Common.{arith, sym, ◌≡◌, ◌≤◌, length, true, ap, ◌∙◌}
use Rattle.std.proofs.lemmas.Bool.Decides.{nat_tests}
use Rattle.std.proofs.lemmas.List.{take_all, drop_all}
use Rattle.std.specs.List.{list_all}
use Rattle.lvm_parse.specs.Words.{is_digit, decimal_from}
use Rattle.lvm_parse.proofs.WordsLemmas.{past_limit, is_number}
use Rattle.lvm_parse.proofs.words.number_of.Goals as goal

pub returns-in_default : goal.returns-in_default
returns-in_default c = sym (past_limit c.args.word.now c.loop-byte.byte-index c.loop-byte.number (omega arith) c.loop-byte.invariant.0 (omega (arith, c.in_default.ensures)))

pub returns-in_default-checked_add : goal.returns-in_default-checked_add
returns-in_default-checked_add c = sym (past_limit c.args.word.now c.loop-byte.byte-index c.loop-byte.number (omega arith) c.loop-byte.invariant.0 (omega (arith, c.in_default-checked_add.ensures, c.in-Some.ensures)))

pub returns : goal.returns
returns c =
    let done : length c.args.word.now ≤ c.loop-byte.byte-index = omega arith in
    let digits : list_all is_digit c.args.word.now ≡ true = ap (list_all is_digit) (sym (take_all c.loop-byte.byte-index c.args.word.now done)) ∙ c.loop-byte.invariant.1 in
    let value : c.loop-byte.number ≡ decimal_from 0 c.args.word.now = ap (decimal_from c.loop-byte.number) (sym (drop_all c.loop-byte.byte-index c.args.word.now done)) ∙ c.loop-byte.invariant.0 in
    sym (is_number c.args.word.now c.loop-byte.number (grind (arith, nat_tests)) (omega arith) digits c.loop-byte.invariant.2 value)
