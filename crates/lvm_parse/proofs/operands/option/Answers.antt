use Rattle.std.proofs.Common.{sym}
use Rattle.lvm_parse.specs.Rests.{left, word_at}
use Rattle.lvm_parse.proofs.ReadingLemmas.NextWord.{option_stands, option_missing}
use Rattle.lvm_parse.proofs.operands.option.Goals as goal

pub returns-then-eq : goal.returns-then-eq
returns-then-eq c = sym (option_stands c.args.name.now (left c.args.rest) (word_at c.in-Some.word) (left c.in-Some.behind) c.in-Some.ensures.word (sym c.if-eq.ensures))

pub returns-else-eq : goal.returns-else-eq
returns-else-eq c = sym (option_missing c.args.name.now (left c.args.rest) (word_at c.in-Some.word) (left c.in-Some.behind) c.in-Some.ensures.word (sym c.if-eq.ensures))
