use Rattle.std.proofs.Common.{sym, ◌∙◌}
use Rattle.lvm_due.proofs.VotesLemmas.{all_there}
use Rattle.lvm_due.proofs.starts.votes_there.Goals as goal

pub returns-else-is_any_missing : goal.returns-else-is_any_missing
returns-else-is_any_missing c =
    c.total_votes.ensures ∙ all_there c.args.session.now.descriptor c.args.session.now.updater.wanted (sym c.is_any_missing.ensures ∙ c.if-is_any_missing.false)
