use Rattle.std.proofs.Common.{Bool, List, ap}
use Rattle.lvm_session.specs.declared.open.Power.TheVariants as power
use Rattle.lvm_session.specs.Fields.{core_of}
use Rattle.lvm_turnover.proofs.turning.give_up.Goals as goal

pub returns-clause-core : goal.returns-clause-core
returns-clause-core c = ap (λ (p : List Bool). core_of (record c.args.session.now { pool = p; updater = c.part_with.new.updater; power = power.Off })) c.give.ensures
