use Rattle.lvm_parse.proofs.ForcedLemmas.{force_is_spelled}
use Rattle.lvm_parse.proofs.laws.force_is_spelled.Goals as goal

pub returns : goal.returns
returns c = force_is_spelled c.args.line.now
