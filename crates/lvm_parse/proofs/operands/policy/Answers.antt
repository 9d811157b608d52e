use Rattle.std.proofs.Common.{sym, subst}
use Rattle.lvm_parse.specs.Words.{policy_in}
use Rattle.lvm_parse.specs.Reading.{operand}
use Rattle.lvm_parse.specs.Rests.{left, word_at, ReadsAlike}
use Rattle.lvm_parse.proofs.ReadingLemmas.NextWord.{operand_is}
use Rattle.lvm_parse.proofs.operands.policy.Goals as goal

pub returns : goal.returns
returns c =
    subst (ReadsAlike (operand policy_in (left c.args.rest))) (sym c.fit.ensures) (operand_is policy_in (left c.args.rest) (word_at c.in_ok-word.word) c.in_ok-word.rest c.policy_of.result c.in_ok-word.ensures c.policy_of.ensures)
