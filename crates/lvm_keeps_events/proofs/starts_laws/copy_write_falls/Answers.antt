use Rattle.lvm_keeps_events.proofs.FallsLemmas.CopyWrite.{copy_write_falls}
use Rattle.lvm_keeps_events.proofs.starts_laws.copy_write_falls.Goals as goal

pub returns : goal.returns
returns c = copy_write_falls
