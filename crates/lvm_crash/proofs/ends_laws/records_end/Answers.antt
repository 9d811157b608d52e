use Rattle.lvm_crash.proofs.RecordsLemmas.Records.{status_ends}
use Rattle.lvm_crash.proofs.RecordsLemmas.Notes.{note_ends}
use Rattle.lvm_crash.proofs.RecordsLemmas.Quiet.{quiet_lasts, updates_last, update_goes_on}
use Rattle.lvm_crash.proofs.ends_laws.records_end.Goals as goal

pub returns : goal.returns
returns c = record { statuses = status_ends; notes = note_ends; quiet = quiet_lasts; updates = updates_last; since = update_goes_on }
