use Rattle.lvm_tie.proofs.OverLemmas.Dark.{dark_goes_on}
use Rattle.lvm_tie.proofs.OverLemmas.Off.{off_goes_on}
use Rattle.lvm_tie.proofs.over_laws.sessions_end.Goals as goal

pub returns : goal.returns
returns c = record { off = off_goes_on; dark = dark_goes_on }
