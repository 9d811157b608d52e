use Rattle.std.proofs.Common.{sym, ◌∙◌}
use Rattle.std.proofs.lemmas.Result.{err_from_is_err_and}
use Rattle.lvm_session.specs.State.{state_of}
use Rattle.lvm_ranges.proofs.TurningLemmas.{beside_none}
use Rattle.lvm_ranges.proofs.SyncingLemmas.Passed.{none_there, one_there, stops_there}
use Rattle.lvm_ranges.proofs.passes.pass_place.Goals as goal

pub returns-in-None-clause-ends : goal.returns-in-None-clause-ends
returns-in-None-clause-ends g c =
    none_there c.args.driver.now.1.descriptor c.args.lv c.args.lp c.args.place c.args.patience.now.left (state_of g.S.Shelf.device c.args.driver.now) c.args.tally.now (sym c.pp_at.ensures ∙ c.in-None.is) c.requires.none

pub returns-in_ok-how-in-Some-clause-ends : goal.returns-in_ok-how-in-Some-clause-ends
returns-in_ok-how-in-Some-clause-ends g c =
    let device = g.S.Shelf.device in
    one_there c.args.driver.now.1.descriptor c.args.lv c.args.lp c.args.place c.in-Some.pp c.args.patience.now.left c.pass_copy.new.patience.left (state_of device c.args.driver.now) (state_of device c.pass_copy.new.driver) c.args.tally.now c.add.new.self c.in_ok-how-in-Some.how
    (sym c.pp_at.ensures ∙ c.in-Some.is) c.in_ok-how-in-Some.ensures.ends c.add.ensures

pub returns-in_err-how-in-Some-clause-ends : goal.returns-in_err-how-in-Some-clause-ends
returns-in_err-how-in-Some-clause-ends g c =
    let device = g.S.Shelf.device in
    let f = err_from_is_err_and c.from_residual.result c.from_residual.ensures.1 in
    rw (f.1, f.2) (stops_there c.args.driver.now.1.descriptor c.args.lv c.args.lp c.args.place c.in-Some.pp c.args.patience.now.left c.pass_copy.new.patience.left (state_of device c.args.driver.now) (state_of device c.pass_copy.new.driver) c.args.tally.now
    c.in_err-how-in-Some.field-0.0 (sym c.pp_at.ensures ∙ c.in-Some.is) c.in_err-how-in-Some.ensures.ends)

pub returns-in-None-clause-beside : goal.returns-in-None-clause-beside
returns-in-None-clause-beside g c = beside_none (state_of g.S.Shelf.device c.args.driver.now) c.args.patience.now.left
