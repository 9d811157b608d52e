use Rattle.std.proofs.Common.{sym, ap}
use Rattle.std.specs.Prelude.{is_some}
use Rattle.lvm_quorum.specs.Surveyed.{surveyed}
use Rattle.lvm_quorum.proofs.KeptGroupLemmas.Chosen.{no_status}
use Rattle.lvm_quorum.proofs.names.has_status.Goals as goal

pub returns-in-None : goal.returns-in-None
returns-in-None c = sym (ap is_some (no_status (surveyed c.args.survey.now) c.args.id c.in-None.ensures))
