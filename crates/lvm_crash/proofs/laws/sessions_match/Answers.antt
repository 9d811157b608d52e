use Rattle.lvm_crash.proofs.WorkedLemmas.Worked.{groups_have_votes}
use Rattle.lvm_crash.proofs.WorkedLemmas.Flights.{rest_matches, writing_matches, stepping_matches}
use Rattle.lvm_crash.proofs.WorkedLemmas.Records.{updating_matches, noting_matches}
use Rattle.lvm_crash.proofs.laws.sessions_match.Goals as goal

pub returns : goal.returns
returns c = record {
  votes = groups_have_votes;
  rest = rest_matches;
  writing = writing_matches;
  stepping = stepping_matches;
  updating = updating_matches;
  noting = noting_matches;
}
