use Rattle.lvm_parse.proofs.GrammarLemmas.{refused_within}
use Rattle.lvm_parse.proofs.laws.columns_are_within.Goals as goal

pub returns : goal.returns
returns c = refused_within c.args.line.now
