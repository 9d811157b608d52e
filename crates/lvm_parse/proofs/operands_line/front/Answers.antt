use Rattle.std.proofs.Common.{◌≡◌, length, take, sym, arith}
use Rattle.std.proofs.lemmas.List.{length-take-le, take_all}
use Rattle.lvm_parse.proofs.operands_line.front.Goals as goal

pub slice_bounds-result-end : goal.slice_bounds-result-end
slice_bounds-result-end c = sym (length-take-le 4096 c.args.line.now (omega arith))

pub returns-then-line-gt-LONGEST_LINE-clause-short : goal.returns-then-line-gt-LONGEST_LINE-clause-short
returns-then-line-gt-LONGEST_LINE-clause-short c =
    let whole : length (take 4096 c.args.line.now) ≡ 4096 = length-take-le 4096 c.args.line.now (omega arith) in
    omega arith

pub returns-else-line-gt-LONGEST_LINE-clause-front : goal.returns-else-line-gt-LONGEST_LINE-clause-front
returns-else-line-gt-LONGEST_LINE-clause-front c = sym (take_all 4096 c.args.line.now (omega arith))
