use Rattle.lvm_keeps_events.proofs.UncaughtLemmas.{lost_is_uncaught as its}
use Rattle.lvm_keeps_events.proofs.uncaught_laws.lost_is_uncaught.Goals as goal

pub returns : goal.returns
returns c = its
