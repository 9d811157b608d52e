use Rattle.lvm_crash.proofs.WritingLemmas.{ends_land, write_ends}
use Rattle.lvm_crash.proofs.ends_laws.writes_end.Goals as goal

pub returns : goal.returns
returns c = record { lands = ends_land; writes = write_ends }
