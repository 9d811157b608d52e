use Rattle.lvm_steps.proofs.EnteringLemmas.{begins_in_span, made_in_span, goes_in_span, gone_in_span, commits_in_span}
use Rattle.lvm_steps.proofs.laws.volume_entries_go_on.Goals as goal

pub returns : goal.returns
returns c = record { begins = begins_in_span; made = made_in_span; goes = goes_in_span; gone = gone_in_span; commits = commits_in_span }
