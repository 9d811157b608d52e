use Rattle.std.proofs.Common.{refl, sym, subst}
use Rattle.lvm_session.specs.declared.answers.Taken.TheVariants as answer
use Rattle.lvm_session.specs.Fields.{core_of}
use Rattle.lvm_session.specs.State.{Core}
use Rattle.lvm_session_turn.specs.passed.Due.{IsDue}
use Rattle.lvm_driver.proofs.CallsLemmas.{left, other_taken, stayed}
use Rattle.lvm_driver.proofs.dues.take.Goals as goal

pub returns-in-NotYet-clause-due : goal.returns-in-NotYet-clause-due
returns-in-NotYet-clause-due c =
    subst (λ (core : Core). IsDue core c.args.due.now) (sym (stayed (core_of c.args.session.now) (core_of c.take.new.session) c.args.client c.args.id answer.NotYet c.in-NotYet.ensures.gives refl)) c.requires.due

pub returns-in-Unknown-clause-due : goal.returns-in-Unknown-clause-due
returns-in-Unknown-clause-due c =
    subst (λ (core : Core). IsDue core c.args.due.now) (sym (stayed (core_of c.args.session.now) (core_of c.take.new.session) c.args.client c.args.id answer.Unknown c.in-Unknown.ensures.gives refl)) c.requires.due

pub returns-in_default-clause-due : goal.returns-in_default-clause-due
returns-in_default-clause-due c =
    let it = left (core_of c.args.session.now) (core_of c.take.new.session) c.args.client c.args.id c.take.result c.take.ensures.gives (other_taken c.take.result c.in_default.not-NotYet c.in_default.not-Unknown) in
    c.taken.ensures (core_of c.args.session.now) it.place it.request.request.id it.request it.there it.landed it.is c.requires.due
