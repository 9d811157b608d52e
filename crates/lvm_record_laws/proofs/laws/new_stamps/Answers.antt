use Rattle.lvm_num.proofs.TornLemmas.Fresh.{before_is_fresh, before_is_older, before_is_kept}
use Rattle.lvm_num.proofs.TornLemmas.Needed.{fresh_is_needed}
use Rattle.lvm_record_laws.proofs.laws.new_stamps.Goals as goal

pub returns : goal.returns
returns c = record { fresh = before_is_fresh; older = before_is_older; kept = before_is_kept; needed = fresh_is_needed }
