use Rattle.std.proofs.Common.{Bool, subst}
use Rattle.lvm_session.specs.Fields.{core_of}
use Rattle.lvm_session.specs.Ends.{Learns}
use Rattle.lvm_due.proofs.due.Due.ended.Goals as goal

pub returns-then-ok : goal.returns-then-ok
returns-then-ok c old at buf going quiet learns due =
    c.ended_well.ensures old at buf going quiet (subst (λ (b : Bool). Learns c.args.owner old at b buf (core_of c.args.session.now)) c.if-ok.true learns) due

pub returns-else-ok : goal.returns-else-ok
returns-else-ok c old at buf going quiet learns due = c.fill.ensures
