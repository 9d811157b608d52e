use Rattle.lvm_tie.proofs.StampsLemmas.{calls_stay, turn_is_earlier, turn_keeps_epoch}
use Rattle.lvm_tie.proofs.stamps_laws.moments_stay.Goals as goal

pub returns : goal.returns
returns c = record { epoch = turn_keeps_epoch; later = turn_is_earlier; calls = calls_stay }
