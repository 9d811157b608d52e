use Rattle.std.proofs.Common.{refl}
use Rattle.lvm_session_start.proofs.EntriesLemmas.{none_asked}
use Rattle.lvm_session_start.proofs.begin.faults_of.Goals as goal

pub loop-disk-init : goal.loop-disk-init
loop-disk-init g c = record { long = refl; each = none_asked (g.S.Shelf.device c.args.shelf.now).counts.faults }
