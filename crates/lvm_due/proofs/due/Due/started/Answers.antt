use Rattle.std.proofs.Common.{sym, subst}
use Rattle.lvm_session.specs.declared.event.Event.{Event}
use Rattle.lvm_session.specs.State.{Core}
use Rattle.lvm_session.specs.Turns.{Makes}
use Rattle.lvm_due.specs.Due.{IsDue}
use Rattle.lvm_due.proofs.DueLemmas.Noting.{note_starts_due}
use Rattle.lvm_due.proofs.due.Due.started.Goals as goal

pub data_started-requires : goal.data_started-requires
data_started-requires c = c.requires.there c.in-StartData.place c.in-StartData.target c.in-StartData.is

pub returns-in-StartData : goal.returns-in-StartData
returns-in-StartData c old new going same starts makes due =
    c.data_started.ensures old new c.in-StartData.target same (subst (λ (e : Event). Makes e old new) c.in-StartData.is makes) due

pub returns-in-StartNote : goal.returns-in-StartNote
returns-in-StartNote c old new going same starts makes due =
    note_starts_due old new c.in-StartNote.place c.in-StartNote.disk c.args.self.now (subst (λ (e : Event). Makes e old new) c.in-StartNote.is makes) due

pub returns-in_default : goal.returns-in_default
returns-in_default c old new going same starts makes due = subst (λ (k : Core). IsDue k c.fill.new.self) (sym same) c.fill.ensures
