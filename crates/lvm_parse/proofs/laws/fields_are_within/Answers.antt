use Rattle.lvm_parse.proofs.WithinLemmas.{line_is_within}
use Rattle.lvm_parse.proofs.laws.fields_are_within.Goals as goal

pub returns : goal.returns
returns c = line_is_within c.args.line.now
