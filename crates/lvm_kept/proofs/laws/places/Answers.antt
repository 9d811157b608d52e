use Rattle.lvm_kept.proofs.PlacesLemmas.{data_writes, record_writes, blocks_are_sectors}
use Rattle.lvm_kept.proofs.laws.places.Goals as goal

pub returns : goal.returns
returns c = record { records = data_writes; rest = record_writes; sectors = blocks_are_sectors }
