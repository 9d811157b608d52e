use Rattle.std.proofs.Common.{sym, subst}
use Rattle.lvm_parse.specs.Words.{copy_count_in}
use Rattle.lvm_parse.specs.Reading.{operand}
use Rattle.lvm_parse.specs.Rests.{left, word_at, ReadsAlike}
use Rattle.lvm_parse.proofs.ReadingLemmas.NextWord.{operand_is}
use Rattle.lvm_parse.proofs.operands.copies.Goals as goal

pub returns : goal.returns
returns c =
    subst (ReadsAlike (operand copy_count_in (left c.args.rest))) (sym c.fit.ensures) (operand_is copy_count_in (left c.args.rest) (word_at c.in_ok-word.word) c.in_ok-word.rest c.copy_count_of.result c.in_ok-word.ensures c.copy_count_of.ensures)
