use Rattle.lvm_kept.proofs.TornLemmas.Records.{descriptor_shows, status_shows}
use Rattle.lvm_kept.proofs.TornLemmas.Standing.{note_shows}
use Rattle.lvm_kept.proofs.laws.writes_show.Goals as goal

pub returns : goal.returns
returns c = record { descriptors = descriptor_shows; statuses = status_shows; notes = note_shows }
