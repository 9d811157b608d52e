use Rattle.lvm_steps.proofs.VolumeEntriesLemmas.{volume_begins, volume_is_made, volume_goes, volume_is_gone, zeros_serve}
use Rattle.lvm_steps.proofs.laws.volume_entries_keep.Goals as goal

pub returns : goal.returns
returns c = record { begins = volume_begins; made = volume_is_made; goes = volume_goes; gone = volume_is_gone; zeros = zeros_serve }
