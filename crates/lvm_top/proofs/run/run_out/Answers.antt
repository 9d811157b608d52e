use Rattle.std.proofs.Common.{◌≡◌, ◌∙◌, sym, ap, subst, true, false}
use Rattle.lvm_vol.specs.Log.{Log}
use Rattle.lvm_session.specs.State.{Core, state_of}
use Rattle.lvm_line.specs.passed.Tie.{RunsOn}
use Rattle.lvm_line.specs.passed.GroupLines.{IsClosed, without_facts}
use Rattle.lvm_line.proofs.passed.Tie.{path_frames}
use Rattle.lvm_top.specs.Ending.{MakesTurns}
use Rattle.lvm_top.proofs.EndingLemmas.{out_still, out_turned}
use Rattle.lvm_top.proofs.run.run_out.Goals as goal

pub returns-then-rests-clause-ends : goal.returns-then-rests-clause-ends
returns-then-rests-clause-ends g c =
    let device = g.S.Shelf.device in
    let exit = device c.close_ended.result.shelf in
    let same = c.at_rest-driver.ensures.driver in
    out_still (state_of device c.args.driver) exit c.close_ended.result.history.facts (c.at_rest-driver.ensures.rests.0 c.if-rests.true) c.requires.on
    (subst (λ (d : g.row.S.Denot × Core). IsClosed d.1.power (device d.0) exit) same c.close_ended.ensures.shelf)
    (ap (λ (l : Log). l.facts) c.close_ended.ensures.history ∙ ap (λ (d : g.row.S.Denot × Core). d.1.history.facts) same)

pub returns-clause-ends : goal.returns-clause-ends
returns-clause-ends g c =
    let device = g.S.Shelf.device in
    let same = c.at_rest-driver.ensures.driver in
    let last = state_of device c.run_on.new.driver in
    out_turned (state_of device c.args.driver) last (device c.close_ended-2.result.shelf) c.close_ended-2.result.history.facts
    (λ rest. let yes : c.at_rest-driver.result.1 ≡ true = c.at_rest-driver.ensures.rests.1 rest in let no = c.if-rests.false in let e : false ≡ true = sym no ∙ yes in cc e)
    (subst (λ (d : g.row.S.Denot × Core). MakesTurns (state_of device d) last) same c.run_on.ensures.turns)
    (subst (λ (d : g.row.S.Denot × Core). RunsOn (state_of device d) last) same c.run_on.ensures.runs)
    c.run_on.ensures.sound c.close_ended-2.ensures.shelf (ap (λ (l : Log). l.facts) c.close_ended-2.ensures.history)

pub returns-clause-rooms : goal.returns-clause-rooms
returns-clause-rooms g c =
    ap without_facts c.close_ended-2.ensures.history ∙ (path_frames c.run_on.ensures.runs).keeps.log ∙ ap (λ (d : g.row.S.Denot × Core). without_facts d.1.history) c.at_rest-driver.ensures.driver
