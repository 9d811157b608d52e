use Rattle.lvm_keeps.proofs.FaultedLemmas.Missing.{missing_disks_are_sound}
use Rattle.lvm_keeps.proofs.faulted_laws.missing_disks_are_sound.Goals as goal

pub returns : goal.returns
returns c = missing_disks_are_sound c.held_writes_are_sound.ensures
