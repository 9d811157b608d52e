use Rattle.lvm_steps.proofs.EntriesLemmas.{disk_entry_keeps, quiet_entry_keeps}
use Rattle.lvm_steps.proofs.laws.disk_entries_keep.Goals as goal

pub returns : goal.returns
returns c = record { of_disks = disk_entry_keeps; quiet = quiet_entry_keeps }
