use Rattle.lvm_driver.proofs.passed.Going.{runs_none}
use Rattle.lvm_session.specs.State.{state_of}
use Rattle.std.proofs.Common.{get_or, refl, ap}
use Rattle.std.proofs.lemmas.List.{set-get_or}
use Rattle.lvm_load.specs.Weaving.{NoneOpen, Takes, Waits, fresh_client}
use Rattle.lvm_load.proofs.RequestsLemmas.{client_there, none_of, open_there}
use Rattle.lvm_load.proofs.client.take.Goals as goal

pub returns-in-NotYet-clause-takes : goal.returns-in-NotYet-clause-takes
returns-in-NotYet-clause-takes g c =
    Waits c.in-Some.id (open_there c.args.clients.now c.args.k _ c.requires.within c.in-Some.is) c.in-NotYet.ensures.gives (ap g.S.Shelf.device c.in-NotYet.ensures.shelf) (set-get_or c.args.clients.now c.args.k fresh_client)

pub returns-in_default-take : goal.returns-in_default-take
returns-in_default-take g c = record {
  takes = Takes (get_or c.args.clients.now c.args.k fresh_client) c.in-Some.id c.take.result (client_there c.args.clients.now c.args.k c.requires.within) c.in-Some.is c.take.ensures.gives c.in_default-take.not-NotYet
      (ap g.S.Shelf.device c.take.ensures.shelf) refl;
  runs = c.take.ensures.runs;
}

pub returns-in_default-clause-takes : goal.returns-in_default-clause-takes
returns-in_default-clause-takes g c =
    NoneOpen (open_there c.args.clients.now c.args.k _ c.requires.within (none_of _ c.in_default.not-Some)) refl (set-get_or c.args.clients.now c.args.k fresh_client)

pub returns-in_default-clause-runs : goal.returns-in_default-clause-runs
returns-in_default-clause-runs g c = runs_none (state_of g.S.Shelf.device c.args.driver.now)
