use Rattle.lvm_status.proofs.RunsLemmas.Sessions.{stamps_rise}
use Rattle.lvm_status.proofs.laws.stamps_are_used_once.Goals as goal

pub returns : goal.returns
returns c = stamps_rise
