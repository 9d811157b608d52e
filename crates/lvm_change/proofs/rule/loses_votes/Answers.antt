use Rattle.std.proofs.Common.{sym, ◌∙◌}
use Rattle.lvm_num.specs.Disks.{has}
use Rattle.lvm_change.proofs.RefusingLemmas.{loses_by, keeps_votes}
use Rattle.lvm_change.proofs.rule.loses_votes.Goals as goal

pub returns-clause-yes : goal.returns-clause-yes
returns-clause-yes c = λ is. loses_by c.args.was.now c.args.next.now (has c.args.there) (sym c.asks_for_missing.ensures ∙ is)

pub returns-clause-no : goal.returns-clause-no
returns-clause-no c = λ is. keeps_votes c.args.was.now c.args.next.now (has c.args.there) (sym c.asks_for_missing.ensures ∙ is)
