use Rattle.std.proofs.Common.{true, subst}
use Rattle.lvm_session.specs.Fields.{core_of}
use Rattle.lvm_session.specs.declared.flown.Owner.{Owner}
use Rattle.lvm_session.specs.Ends.{Learns}
use Rattle.lvm_due.specs.Due.{NoneFailsFor}
use Rattle.lvm_due.proofs.due.Due.ended_well.Goals as goal

pub returns-in-Data : goal.returns-in-Data
returns-in-Data c old at buf going quiet learns due =
    c.data_ended.ensures old at c.in-Data.target buf going (λ was. subst (NoneFailsFor old) c.in-Data.is (quiet was)) (subst (λ (o : Owner). Learns o old at true buf (core_of c.args.session.now)) c.in-Data.is learns) due

pub returns-in-Note : goal.returns-in-Note
returns-in-Note c old at buf going quiet learns due =
    c.note_ended.ensures old at c.in-Note.disk buf (subst (λ (o : Owner). Learns o old at true buf (core_of c.args.session.now)) c.in-Note.is learns) due

pub returns-in-Status : goal.returns-in-Status
returns-in-Status c old at buf going quiet learns due = c.fill.ensures
