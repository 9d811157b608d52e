use Rattle.lvm_status.proofs.RunsLemmas.Sessions.{commits_are_held, written_has_ended}
use Rattle.lvm_status.proofs.laws.commits_are_held.Goals as goal

pub returns : goal.returns
returns c = record { held = commits_are_held; written = written_has_ended }
