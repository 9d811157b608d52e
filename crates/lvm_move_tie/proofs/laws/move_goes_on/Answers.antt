use Rattle.lvm_move_tie.proofs.GoingLemmas.{commit_move_finds, commit_move_goes_on}
use Rattle.lvm_move_tie.proofs.laws.move_goes_on.Goals as goal

pub returns : goal.returns
returns c = record { goes = commit_move_goes_on; finds = commit_move_finds }
