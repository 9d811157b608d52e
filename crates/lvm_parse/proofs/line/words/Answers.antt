use Rattle.std.proofs.Common.{sym}
use Rattle.lvm_parse.specs.Rests.{left, word_at}
use Rattle.lvm_parse.proofs.AnsweringLemmas.{line_is_refused}
use Rattle.lvm_parse.proofs.line.words.Goals as goal

pub returns-in-Err : goal.returns-in-Err
returns-in-Err c = line_is_refused (left c.args.rest) (left c.in-Some.rest) (word_at c.in-Some.word) c.in-Err.fault c.in-Some.ensures.word (sym c.if-is_remark.ensures) c.in-Err.ensures
