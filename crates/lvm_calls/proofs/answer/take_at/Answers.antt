use Rattle.std.proofs.Common.{Option, refl, sym, subst}
use Rattle.lvm_vol.specs.declared.entry.Outcome.{Outcome}
use Rattle.lvm_session.specs.Fields.{core_of}
use Rattle.lvm_session.specs.declared.answers.Taken.TheVariants as answer
use Rattle.lvm_session.specs.Calls.{TakesLanded}
use Rattle.lvm_calls.proofs.Places.{answered, taken, there}
use Rattle.lvm_calls.proofs.answer.take_at.Goals as goal

pub taken-requires : goal.taken-requires
taken-requires c =
    answered c.args.client c.args.id c.args.session.now.requests.items c.args.place c.index-open.result.now c.requires.place c.index-open.ensures
    (core_of c.args.session.now).history.facts c.in-Some.how c.requires.told.requests c.in-Some.is

pub returns-in-None-clause-at : goal.returns-in-None-clause-at
returns-in-None-clause-at c =
    let o = c.index-open.result.now in
    let at = there c.args.client c.args.id c.args.session.now.requests.items c.args.place o c.requires.place c.index-open.ensures in
    let core = core_of c.args.session.now in
    (o, at, subst (λ (l : Option Outcome). TakesLanded core core c.args.place o answer.NotYet l) (sym c.in-None.is) (refl, refl))

pub returns-in-Some-clause-at : goal.returns-in-Some-clause-at
returns-in-Some-clause-at c =
    let o = c.index-open.result.now in
    let os = c.args.session.now.requests.items in
    let at = there c.args.client c.args.id os c.args.place o c.requires.place c.index-open.ensures in (
      o,
      at,
      taken c.args.client c.args.id os c.args.place o c.requires.place c.index-open.ensures (core_of c.args.session.now) c.remove.new.self.items c.taken.new.self c.taken_as.result c.count-count.result c.in-Some.how refl
          c.in-Some.is c.remove.ensures.items c.taken.ensures c.count-count.ensures c.taken_as.ensures,
    )
