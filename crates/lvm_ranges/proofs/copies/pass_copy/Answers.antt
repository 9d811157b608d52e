use Rattle.std.proofs.Common.{subst}
use Rattle.std.proofs.lemmas.Result.{err_from_is_err_and}
use Rattle.lvm_session.specs.State.{state_of}
use Rattle.lvm_ranges.specs.declared.copies.Opening.{Opening}
use Rattle.lvm_ranges.specs.Passing.{IsJudged, copy_of}
use Rattle.lvm_ranges.proofs.PassingLemmas.Judging.{running_off}
use Rattle.lvm_ranges.proofs.SyncingLemmas.Passed.{opened_just, passed_so}
use Rattle.lvm_ranges.proofs.TurningLemmas.{beside_both, unstuck_beside}
use Rattle.lvm_ranges.proofs.copies.pass_copy.Goals as goal

pub bring_up-requires-clause-unstuck : goal.bring_up-requires-clause-unstuck
bring_up-requires-clause-unstuck g c =
    let device = g.S.Shelf.device in
    unstuck_beside (state_of device c.args.driver.now) (state_of device c.open_stale.new.driver) c.args.patience.now.left c.open_stale.new.patience.left c.open_stale.ensures.beside c.requires.unstuck

pub bring_up-requires-clause-opened : goal.bring_up-requires-clause-opened
bring_up-requires-clause-opened g c =
    let device = g.S.Shelf.device in
    let one = copy_of c.args.lv c.args.lp c.args.number c.args.pp in
    let first = state_of device c.args.driver.now in
    let opened = state_of device c.open_stale.new.driver in
    opened_just one c.args.patience.now.left c.open_stale.new.patience.left first opened (subst (λ (o : Opening). IsJudged one c.args.patience.now.left c.open_stale.new.patience.left first opened o) c.in-Opened.is c.in_ok-opening.ensures.ends)

pub returns-in_ok-how-in-Opened-clause-ends : goal.returns-in_ok-how-in-Opened-clause-ends
returns-in_ok-how-in-Opened-clause-ends g c =
    let device = g.S.Shelf.device in
    let one = copy_of c.args.lv c.args.lp c.args.number c.args.pp in
    let first = state_of device c.args.driver.now in
    let opened = state_of device c.open_stale.new.driver in
    passed_so one c.args.patience.now.left c.open_stale.new.patience.left c.bring_up.new.patience.left first opened (state_of device c.bring_up.new.driver)
    (subst (λ (o : Opening). IsJudged one c.args.patience.now.left c.open_stale.new.patience.left first opened o) c.in-Opened.is c.in_ok-opening.ensures.ends)
    c.in_ok-how-in-Opened.how c.passed_by.result c.in_ok-how-in-Opened.ensures.ends c.passed_by.ensures

pub returns-in_ok-how-in-Opened-clause-beside : goal.returns-in_ok-how-in-Opened-clause-beside
returns-in_ok-how-in-Opened-clause-beside g c =
    let device = g.S.Shelf.device in
    beside_both (state_of device c.args.driver.now) (state_of device c.open_stale.new.driver) (state_of device c.bring_up.new.driver) c.args.patience.now.left c.open_stale.new.patience.left c.bring_up.new.patience.left c.open_stale.ensures.beside c.bring_up.ensures.beside

pub returns-in_err-how-in-Opened-clause-beside : goal.returns-in_err-how-in-Opened-clause-beside
returns-in_err-how-in-Opened-clause-beside g c =
    let device = g.S.Shelf.device in
    beside_both (state_of device c.args.driver.now) (state_of device c.open_stale.new.driver) (state_of device c.bring_up.new.driver) c.args.patience.now.left c.open_stale.new.patience.left c.bring_up.new.patience.left c.open_stale.ensures.beside c.bring_up.ensures.beside

pub returns-in_err-how-in-Opened-clause-ends : goal.returns-in_err-how-in-Opened-clause-ends
returns-in_err-how-in-Opened-clause-ends g c =
    let device = g.S.Shelf.device in
    let one = copy_of c.args.lv c.args.lp c.args.number c.args.pp in
    let first = state_of device c.args.driver.now in
    let opened = state_of device c.open_stale.new.driver in
    let f = err_from_is_err_and c.from_residual-in_err-how-in-Opened.result c.from_residual-in_err-how-in-Opened.ensures.1 in
    rw (f.1, f.2) (running_off one c.args.patience.now.left c.open_stale.new.patience.left c.bring_up.new.patience.left first opened (state_of device c.bring_up.new.driver) c.in_err-how-in-Opened.field-0.0
    (subst (λ (o : Opening). IsJudged one c.args.patience.now.left c.open_stale.new.patience.left first opened o) c.in-Opened.is c.in_ok-opening.ensures.ends) c.in_err-how-in-Opened.ensures.ends)
