use Rattle.std.proofs.Common.{sym, subst}
use Rattle.lvm_parse.specs.Words.{other_disk_in}
use Rattle.lvm_parse.specs.Reading.{operand}
use Rattle.lvm_parse.specs.Rests.{left, word_at, ReadsAlike}
use Rattle.lvm_parse.proofs.ReadingLemmas.NextWord.{operand_is}
use Rattle.lvm_parse.proofs.operands.other_disk.Goals as goal

pub returns : goal.returns
returns c =
    subst (ReadsAlike (operand (other_disk_in c.args.disk) (left c.args.rest))) (sym c.fit.ensures) (operand_is (other_disk_in c.args.disk) (left c.args.rest) (word_at c.in_ok-word.word) c.in_ok-word.rest c.other_disk_of.result c.in_ok-word.ensures c.other_disk_of.ensures)
