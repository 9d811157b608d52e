use Rattle.std.proofs.Common.{Err, ap, sym, ◌∙◌}
use Rattle.lvm_parse.specs.Rests.{left, word_at}
use Rattle.lvm_parse.proofs.ReadingLemmas.NextWord.{ends_later}
use Rattle.lvm_parse.proofs.operands.ends.Goals as goal

pub returns-in-Some : goal.returns-in-Some
returns-in-Some g c = ap Err c.misfit.ensures ∙ sym (ends_later (left c.args.rest) (word_at c.in-Some.word) (left c.in-Some.field-0-1) c.args.value c.in-Some.ensures.word)
